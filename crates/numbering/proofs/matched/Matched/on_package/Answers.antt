use Rattle.std.proofs.Common.{ap, ◌∙◌}
use Rattle.std.proofs.lemmas.Option.{IfSome_then}
use Rattle.model.specs.Content.{Problem}
use Rattle.model.specs.Vertices.{owner_brings}
use Rattle.vertices.specs.inner.RefViews.{owner_ref_view}
use Rattle.numbering.specs.inner.Called.{numbered_from}
use Rattle.numbering.specs.inner.OnPackage.{on_package}
use Rattle.numbering.proofs.matched.Matched.on_package.Goals as goal

pub returns : goal.returns
returns c =
    IfSome_then c.on_package.result c.on_package.ensures
    (λ those e. e ∙ ap (λ (q : Problem). on_package c.args.name.now (numbered_from 0
    (owner_brings q (owner_ref_view c.args.owner.now)).dependencies)) c.args.self.now.same_problem)
