use Rattle.std.proofs.Common.{◌∙◌, sym}
use Rattle.catalogue.proofs.Rows.{row_names, is_store}
use Rattle.catalogue.proofs.store.Catalogue.names.Goals as goal

pub returns-clause-names : goal.returns-clause-names
returns-clause-names c = rw (← c.self.view_is) (c.as_slice.ensures.keys
    ∙ sym (row_names c.self.inside.names.keys c.self.inside.candidates.items c.self.invariant.0))

pub returns-clause-store : goal.returns-clause-store
returns-clause-store c =
    rw (← c.self.view_is)
    (is_store c.self.inside.names.keys c.self.inside.candidates.items _ _ c.self.invariant.1 c.self.invariant.2)
