use Rattle.std.proofs.Common.{ℕ, IfOk, Result, Ok, Err}
use Rattle.incompatibilities.specs.Stores.{entries_view}
use Rattle.guiding.specs.inner.Counting.{CountsOn}
use Rattle.guiding.proofs.turns.one_turn.Goals as goal

at_one : {A E : Type 0} (P : ℕ → Type 0) (n : ℕ) (r : Result A E) → IfOk r (λ a. (k : ℕ) → P k) → IfOk r (λ a. P n)
at_one P n (Ok a) all = all n
at_one P n (Err e) all = tt

pub returns-in-Fixpoint-clause-counted : goal.returns-in-Fixpoint-clause-counted
returns-in-Fixpoint-clause-counted g c =
    let tests = g.S.States.tests in
    at_one (λ k. CountsOn (entries_view tests c.args.store.now) k (entries_view tests c.turn_on.new.store) k)
    c.args.steps.now c.turn_on.result c.turn_on.ensures.counted
