use Rattle.std.proofs.Common.{◌≡◌, ◌≤◌, ◌<◌, ◌++◌, ◌∷◌, [], length, sym, subst, arith, ◌∙◌}
use Rattle.std.proofs.lemmas.List.{length-map}
use Rattle.incompatibilities.specs.Stores.{entries_view}
use Rattle.solver.specs.inner.Flats.{flat_view, flats_view}
use Rattle.solver.proofs.FlatRows.{flat_read}
use Rattle.model.specs.Derivation.{Step}
use Rattle.numbering.specs.inner.KnownProblem.{problem}
use Rattle.solver.specs.inner.Steps.{AreStepsOf, IsStepOf}
use Rattle.solver.specs.Refusing.{IsNext}
use Rattle.solver.proofs.NewTerms.{vertices_read}
use Rattle.solver.proofs.Places.{all_at, more_at, next_at}
use Rattle.solver.proofs.refuting.steps_of.Goals as goal

pub row-init : goal.row-init
row-init g c = (
  c.list_by_text.ensures.listed,
  c.list_by_text.ensures.spelt,
  subst (λ d. AreStepsOf (problem c.args.known.now) c.args.table.now [] d)
      (sym (c.list_by_text.ensures.steps ∙ c.new-steps.ensures)) tt,
)

pub list_by_text-requires-clause-listed : goal.list_by_text-requires-clause-listed
list_by_text-requires-clause-listed g c = c.new-spaces.ensures.listed (problem c.args.known.now) c.args.table.now

pub list_by_text-requires-clause-spelt : goal.list_by_text-requires-clause-spelt
list_by_text-requires-clause-spelt g c = c.new-spaces.ensures.spelt c.args.table.now

pub list_by_text-requires-clause-valid : goal.list_by_text-requires-clause-valid
list_by_text-requires-clause-valid g c =
    vertices_read (problem c.args.known.now) c.requires.parts c.args.table.now c.requires.numbering.there

pub push_step-requires-clause-next : goal.push_step-requires-clause-next
push_step-requires-clause-next g c =
    let tests = g.S.States.tests in
    let q = problem c.args.known.now in
    let vs = c.args.table.now in
    let es = entries_view tests c.args.store.now in
    let row = c.args.row.now in
    let k = c.row.flat-index in
    let lt : k < length (flats_view tests row) = omega (arith, c.row-test.true, length-map row (flat_view tests)) in
    subst (λ f. IsNext q vs f (length c.row.steps)) (flat_read tests row k c.flat-item.result lt c.flat-item.is)
    (next_at q vs c.catalogues_are_well_formed.ensures c.requires.numbering es c.requires.axioms
    (flats_view tests row) c.requires.founded k c.row.steps lt c.row.invariant.2)

pub row-preserved : goal.row-preserved
row-preserved g c =
    let tests = g.S.States.tests in
    let q = problem c.args.known.now in
    let vs = c.args.table.now in
    let row = c.args.row.now in
    let k = c.row.flat-index in
    let lt : k < length (flats_view tests row) = omega (arith, c.row-test.true, length-map row (flat_view tests)) in (
      c.push_step.ensures.listed,
      c.push_step.ensures.spelt,
      more_at q vs (flats_view tests row) k c.row.steps c.push_step.new.steps lt c.row.invariant.2
          (subst (λ f. (s : Step) × (c.push_step.new.steps ≡ c.row.steps ++ s ∷ []) × IsStepOf q vs f s)
          (sym (flat_read tests row k c.flat-item.result lt c.flat-item.is)) c.in_ok-push_step.ensures.step),
    )

pub push_step-requires-clause-spelt : goal.push_step-requires-clause-spelt
push_step-requires-clause-spelt g c = c.row.invariant.1

pub push_step-requires-clause-listed : goal.push_step-requires-clause-listed
push_step-requires-clause-listed g c = c.row.invariant.0

pub returns : goal.returns
returns g c =
    let tests = g.S.States.tests in
    let row = c.args.row.now in
    let long : length (flats_view tests row) ≤ c.row.flat-index =
    omega (arith, c.row-test.false, length-map row (flat_view tests)) in
    all_at (problem c.args.known.now) c.args.table.now (flats_view tests row) c.row.flat-index c.row.steps long
    c.row.invariant.2
