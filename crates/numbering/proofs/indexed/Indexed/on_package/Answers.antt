use Rattle.std.proofs.Common.{sym, ap, ◌∙◌}
use Rattle.model.specs.Vertices.{owner_brings}
use Rattle.vertices.specs.inner.RefViews.{owner_ref_view}
use Rattle.numbering.specs.inner.Called.{numbered_from}
use Rattle.numbering.specs.inner.IndexedViews.{problem_indexed}
use Rattle.numbering.specs.inner.OnPackage.{on_package}
use Rattle.numbering.proofs.OnPackageLaws.{some_views}
use Rattle.numbering.proofs.indexed.Indexed.on_package.Goals as goal

pub returns-in-Some : goal.returns-in-Some
returns-in-Some c =
    let brings = owner_brings (problem_indexed c.args.self.now) (owner_ref_view c.args.owner.now) in
    some_views c.those.result (on_package c.args.name.now (numbered_from 0 brings.dependencies))
    (c.those.ensures ∙ ap (λ ds. on_package c.args.name.now (numbered_from 0 ds))
    (c.args.self.now.are_brought c.args.owner.now c.in-Some.brought.now (sym c.in-Some.ensures.value)))
