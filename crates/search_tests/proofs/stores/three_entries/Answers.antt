use Rattle.incompatibilities.specs.Incompatibilities.{states_at}
use Rattle.terms.specs.Terms.{terms_view}
use Rattle.search_tests.specs.inner.Spaces.{space}
use Rattle.incompatibilities.proofs.Broken.{lies_fit}
use Rattle.search_tests.proofs.stores.three_entries.Goals as goal

pub combine-requires : goal.combine-requires
combine-requires g c = lies_fit space (states_at (terms_view g.S.States.tests c.in_ok-a.a))
    (states_at (terms_view g.S.States.tests c.in_ok-b.b)) c.in_ok-a.ensures c.in_ok-b.ensures
