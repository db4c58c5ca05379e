use Rattle.std.proofs.Common.{◌-◌, ◌∙◌, sym}
use Rattle.std.proofs.lemmas.Option.{IfSome_then}
use Rattle.features.specs.Views.{dependency_view}
use Rattle.numbering.specs.inner.Matched.{name_classes}
use Rattle.numbering.specs.inner.MatchedViews.{problem_of}
use Rattle.numbering.proofs.Keeping.{range_view}
use Rattle.numbering.proofs.matched.Matched.range_of.Goals as goal

pub returns : goal.returns
returns c =
    let all = name_classes (problem_of c.args.self.now) (dependency_view c.args.dependency.now).real_name in
    IfSome_then c.range_among.result c.range_among.ensures
    (λ r e. sym (range_view c.in_ok-classes.classes.now all r.0 (r.1 - r.0) c.in_ok-classes.ensures.0) ∙ e)
