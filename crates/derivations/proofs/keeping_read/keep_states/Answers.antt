use Rattle.std.proofs.Common.{◌≡◌, ◌+◌, ◌∷◌, length, arith, ap}
use Rattle.std.specs.Vec.Iter.{into_iter_items, into_iter_len}
use Rattle.vertices.specs.Views.{state_view, state_views}
use Rattle.derivations.proofs.TableLaws.{grown-trans, more-states}
use Rattle.derivations.proofs.keeping_read.keep_states.Goals as goal

pub states-preserved : goal.states-preserved
states-preserved c =
    let here : into_iter_items c.states.state-iterator ≡ c.in-Some.state ∷ into_iter_items c.next.new.self =
    c.in-Some.ensures.steps.0 in
    let left : into_iter_len c.next.new.self + 1 ≡ into_iter_len c.states.state-iterator = c.in-Some.ensures.steps.1 in
    let count = ap length here in
    let number = c.in_ok-number.ensures.number in
    let more = more-states c.states.tables c.add_state.new.self c.states.kept.items c.in_ok-number.number
    (state_view c.in-Some.state) (state_views (into_iter_items c.next.new.self)) (state_views c.args.states.items)
    c.in_ok-number.ensures.grown c.states.invariant.within number.0 number.1 (rw here at c.states.invariant.told) in
    record {
      can = tt;
      finite = tt;
      counted = let before = c.states.invariant.counted in omega arith;
      grown = grown-trans c.args.tables.now c.states.tables c.add_state.new.self c.states.invariant.grown
          c.in_ok-number.ensures.grown;
      within = rw c.in_ok-push.ensures.items more.0;
      told = rw c.in_ok-push.ensures.items more.1;
    }
