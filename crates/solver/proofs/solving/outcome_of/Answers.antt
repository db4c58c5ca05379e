use Rattle.std.proofs.Common.{◌≡◌, arith, false, is_some, length, rules, subst, sym, true}
use Rattle.std.proofs.lemmas.Result.{IfOk-weaker}
use Rattle.numbering.specs.inner.KnownProblem.{problem}
use Rattle.guiding.specs.inner.Guides.{HasSearched}
use Rattle.incompatibilities.specs.Stores.{entries_view}
use Rattle.propagation.specs.Trails.{trail_view}
use Rattle.solver.specs.Refusing.{HasNoMore}
use Rattle.solver.specs.Solving.{IsAnswer, IsFound}
use Rattle.solver.proofs.Followed.{followed-answers, followed-derives_nothing, found-answers}
use Rattle.solver.proofs.solving.outcome_of.Goals as goal

pub returns-then-is_following-clause-answer : goal.returns-then-is_following-clause-answer
returns-then-is_following-clause-answer g c =
    let follows = c.args.searched.guide.follows in
    let some : is_some follows ≡ true = search rules in
    followed-answers c.args.searched.guide.problem (length (trail_view g.S.States.tests c.args.searched.trail).steps)
    follows c.followed.result some c.followed.ensures

pub returns-then-is_following-clause-once : goal.returns-then-is_following-clause-once
returns-then-is_following-clause-once g c =
    let follows = c.args.searched.guide.follows in
    let some : is_some follows ≡ true = search rules in
    subst (HasNoMore (entries_view g.S.States.tests c.args.searched.store))
    (sym (followed-derives_nothing follows c.followed.result some c.followed.ensures))
    record { few_axioms = omega arith; few_combined = omega arith; short = omega arith }

pub found-requires : goal.found-requires
found-requires g c =
    let searched = c.args.searched in
    subst (λ q. HasSearched q searched.guide (trail_view g.S.States.tests searched.trail)
    (entries_view g.S.States.tests searched.store) searched.found.answer) (sym c.known.ensures)
    c.requires

pub returns-else-is_following-clause-answer : goal.returns-else-is_following-clause-answer
returns-else-is_following-clause-answer g c =
    let follows = c.args.searched.guide.follows in
    let none : is_some follows ≡ false = search rules in
    let places = length (trail_view g.S.States.tests c.args.searched.trail).steps in
    IfOk-weaker c.found.result (IsFound (problem c.known.result.now) places)
    (IsAnswer c.args.searched.guide.problem places follows)
    (λ o found. found-answers c.args.searched.guide.problem places follows o none
    (subst (λ q. IsFound q places o) c.known.ensures found)) c.found.ensures.found
