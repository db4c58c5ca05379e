use Rattle.std.proofs.Common.{◌∙◌, ap}
use Rattle.incompatibilities.specs.inner.Rows.{row_at}
use Rattle.incompatibilities.specs.Stores.{entries_view, ids_at}
use Rattle.incompatibilities.proofs.store.Store.at.Goals as goal

pub returns : goal.returns
returns g c =
    let v = c.args.vertex in
    c.row_of.ensures ∙ ap (λ rows. row_at rows v) c.as_slice.ensures.value ∙ c.self.invariant.listed v
    ∙ ap (λ es. ids_at v (entries_view g.S.States.tests es)) c.self.view_is
