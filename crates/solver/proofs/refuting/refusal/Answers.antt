use Rattle.std.proofs.Common.{subst, arith}
use Rattle.incompatibilities.specs.Stores.{entries_view}
use Rattle.solver.specs.inner.Flats.{flats_view}
use Rattle.numbering.specs.inner.KnownProblem.{problem}
use Rattle.solver.specs.inner.Steps.{AreStepsOf}
use Rattle.solver.proofs.CountedSteps.{no_more}
use Rattle.solver.proofs.refuting.refusal.Goals as goal

pub returns-clause-accepted : goal.returns-clause-accepted
returns-clause-accepted g c =
    let tests = g.S.States.tests in
    let q = problem c.args.known.now in
    let vs = c.args.table.now in
    let d = c.in_ok-derivation.derivation in
    c.rows_are_accepted.ensures q vs (entries_view tests c.args.store.now) c.args.last
    (flats_view tests c.in_ok-row.row.items) d c.catalogues_are_well_formed.ensures c.requires.numbering
    c.requires.axioms c.in_ok-row.ensures
    (subst (λ fs. AreStepsOf q vs (flats_view tests fs) d) c.deref.ensures.value c.in_ok-derivation.ensures)
    c.requires.none

pub returns-clause-once : goal.returns-clause-once
returns-clause-once g c =
    let tests = g.S.States.tests in
    let q = problem c.args.known.now in
    let vs = c.args.table.now in
    let d = c.in_ok-derivation.derivation in
    no_more q vs (entries_view tests c.args.store.now) c.args.last (flats_view tests c.in_ok-row.row.items) d
    c.in_ok-row.ensures
    (subst (λ fs. AreStepsOf q vs (flats_view tests fs) d) c.deref.ensures.value c.in_ok-derivation.ensures)
    (omega (arith, c.len-long.ensures, c.len-long.type_inv))
