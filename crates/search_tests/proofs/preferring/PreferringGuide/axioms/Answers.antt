use Rattle.std.proofs.Common.{arith, true, refl}
use Rattle.incompatibilities.specs.Stores.{entries_view}
use Rattle.propagation.specs.Trails.{trail_view}
use Rattle.guiding.proofs.Guides.{adding_nothing}
use Rattle.search_tests.proofs.preferring.PreferringGuide.axioms.Goals as goal

pub returns-clause-adding : goal.returns-clause-adding
returns-clause-adding g c = let tests =
    g.S.States.tests in adding_nothing (λ v i. true) 0 0 (trail_view tests c.args._trail.now)
    (entries_view tests c.args._store.now) c.requires.trail.lies (λ v i within only. refl)

pub returns-clause-seen : goal.returns-clause-seen
returns-clause-seen g c = record { within = omega arith; all = λ v i lt only. refl }
