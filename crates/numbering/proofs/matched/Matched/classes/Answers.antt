use Rattle.std.proofs.Common.{◌∙◌, map, sym, ap}
use Rattle.std.proofs.lemmas.Option.{IfSome_then}
use Rattle.classes.specs.Classes.{class_view}
use Rattle.features.specs.Views.{requirement_view}
use Rattle.numbering.specs.inner.Matched.{Ask, classes_asked, kept_classes, name_classes}
use Rattle.numbering.specs.inner.MatchedViews.{problem_of}
use Rattle.numbering.proofs.matched.Matched.classes.Goals as goal

pub returns-in-Some-Range : goal.returns-in-Some-Range
returns-in-Some-Range c =
    let d = c.args.dependency in
    let q = problem_of c.args.self.now in
    let ask : Ask = (record { ref_ptr = d.ref_ptr; now = d.now.real_name }, c.deref-requirement.result) in
    IfSome_then c.between.result c.between.ensures (λ ks e. e
    ∙ ap (kept_classes (name_classes q d.now.real_name)) (sym c.in-Some-Range.field-0-is)
    ∙ c.args.self.now.are_matched ask c.in-Some-Range.field-0.now (sym c.in-Some-Range.ensures.value)
    ∙ ap (λ r. classes_asked q d.now.real_name (requirement_view r)) c.deref-requirement.ensures)

pub returns-in-Some-Each : goal.returns-in-Some-Each
returns-in-Some-Each c =
    let d = c.args.dependency in
    let q = problem_of c.args.self.now in
    let ask : Ask = (record { ref_ptr = d.ref_ptr; now = d.now.real_name }, c.deref-requirement.result) in
    ap (map class_view) c.as_slice.ensures.value
    ∙ ap (kept_classes (name_classes q d.now.real_name)) (sym c.in-Some-Each.field-0-is)
    ∙ c.args.self.now.are_matched ask c.in-Some-Each.field-0.now (sym c.in-Some-Each.ensures.value)
    ∙ ap (λ r. classes_asked q d.now.real_name (requirement_view r)) c.deref-requirement.ensures
