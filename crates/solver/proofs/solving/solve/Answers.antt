use Rattle.std.proofs.Common.{◌∙◌, sym, subst, arith}
use Rattle.catalogue.specs.Problems.{preferred_in, problem_in}
use Rattle.guiding.specs.inner.Guides.{CanFollow}
use Rattle.solver.proofs.Counted.{combined_counted}
use Rattle.solver.proofs.Followed.{can_follow, same_answer, solved}
use Rattle.solver.proofs.Stepped.{searched_in, stepped}
use Rattle.solver.proofs.solving.solve.Goals as goal

pub search_over-requires-clause-follows : goal.search_over-requires-clause-follows
search_over-requires-clause-follows c =
    subst (λ p. CanFollow p c.in_ok-walk.walk) (sym c.new-known.ensures.problem)
    (can_follow (problem_in c.args.manifest.now c.args.catalogue.now)
    (preferred_in c.args.catalogue.now) c.in_ok-walk.walk c.in_ok-walk.ensures.answer)

pub returns-clause-solved : goal.returns-clause-solved
returns-clause-solved c =
    let q = problem_in c.args.manifest.now c.args.catalogue.now in
    let walk = c.in_ok-walk.walk in
    let outcome = c.in_ok-outcome.outcome in
    solved q (preferred_in c.args.catalogue.now) c.walks_are_unique.ensures _ walk outcome
    c.in_ok-walk.ensures.answer
    c.in_ok-walk.ensures.root
    (same_answer _ q _ _ walk outcome (c.in_ok-searched.ensures.problem ∙ c.new-known.ensures.problem)
    c.in_ok-searched.ensures.follows c.in_ok-outcome.ensures.answer)

pub returns-clause-packages : goal.returns-clause-packages
returns-clause-packages c =
    let q = problem_in c.args.manifest.now c.args.catalogue.now in
    let walk = c.in_ok-walk.walk in
    let outcome = c.in_ok-outcome.outcome in
    let searched = c.in_ok-searched.searched in
    stepped q searched.guide _ _ searched.found.answer c.catalogues_are_well_formed.ensures
    (searched_in _ q searched.guide _ _ searched.found.answer c.new-known.ensures.problem
    c.in_ok-searched.ensures.searched)
    (c.in_ok-searched.ensures.problem ∙ c.new-known.ensures.problem) searched.found.steps
    c.in_ok-searched.ensures.standing walk outcome c.in_ok-searched.ensures.follows
    (can_follow q (preferred_in c.args.catalogue.now) walk c.in_ok-walk.ensures.answer) c.in_ok-walk.ensures.root
    (same_answer _ q _ _ walk outcome (c.in_ok-searched.ensures.problem ∙ c.new-known.ensures.problem)
    c.in_ok-searched.ensures.follows c.in_ok-outcome.ensures.answer)

pub returns-clause-steps : goal.returns-clause-steps
returns-clause-steps c =
    combined_counted c.in_ok-outcome.ensures.once c.in_ok-searched.ensures.counted.combined

pub returns-clause-axioms : goal.returns-clause-axioms
returns-clause-axioms c = omega (arith, c.in_ok-outcome.ensures.once.few_axioms, c.axioms_in-axioms.ensures)
