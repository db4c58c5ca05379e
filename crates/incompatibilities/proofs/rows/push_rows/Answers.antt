use Rattle.std.proofs.Common.{rules, ◌≡◌, ◌∙◌, ◌+◌, [], ◌∷◌, length, ap, sym, arith, vec_len}
use Rattle.std.specs.Vec.Iter.{into_iter_items, into_iter_len}
use Rattle.incompatibilities.proofs.RowLemmas.{entering_first, entering_last, entering_more, first_room, none_left}
use Rattle.incompatibilities.proofs.rows.push_rows.Goals as goal

pub terms-init : goal.terms-init
terms-init g c =
    let gives = c.into_iter-term-iterator.ensures.into_iter_gives in
    let long : vec_len c.args.terms ≡ length c.args.terms.items = search rules in
    record {
      can = tt;
      finite = tt;
      counted = gives.1 ∙ long ∙ sym (ap length gives.0);
      ids = entering_first (λ t. c.args.id) c.args.ids.now.items c.args.terms.items _ gives.0 c.requires.ids
          c.requires.apart;
      sets = entering_first (λ t. t.states) c.args.sets.now.items c.args.terms.items _ gives.0 c.requires.sets
          c.requires.apart;
    }

pub push_at-requires : goal.push_at-requires
push_at-requires g c =
    let here : into_iter_items c.terms.term-iterator ≡ c.in-Some.term ∷ into_iter_items c.next.new.self =
    c.in-Some.ensures.steps.0 in
    first_room (λ t. c.args.id) c.args.ids.now.items c.terms.ids.items c.args.terms.items
    (into_iter_items c.terms.term-iterator)
    (into_iter_items c.next.new.self) c.in-Some.term here c.terms.invariant.ids

pub push_at-requires-in-terms : goal.push_at-requires-in-terms
push_at-requires-in-terms g c =
    let here : into_iter_items c.terms.term-iterator ≡ c.in-Some.term ∷ into_iter_items c.next.new.self =
    c.in-Some.ensures.steps.0 in
    first_room (λ t. t.states) c.args.sets.now.items c.terms.sets.items c.args.terms.items
    (into_iter_items c.terms.term-iterator)
    (into_iter_items c.next.new.self) c.in-Some.term here c.terms.invariant.sets

pub terms-preserved : goal.terms-preserved
terms-preserved g c =
    let here : into_iter_items c.terms.term-iterator ≡ c.in-Some.term ∷ into_iter_items c.next.new.self =
    c.in-Some.ensures.steps.0 in
    let left : into_iter_len c.next.new.self + 1 ≡ into_iter_len c.terms.term-iterator = c.in-Some.ensures.steps.1 in
    let count = ap length here in
    let counted = c.terms.invariant.counted in
    record {
      can = tt;
      finite = tt;
      counted = omega (arith, counted, count, left);
      ids =
          entering_more (λ t. c.args.id) c.args.ids.now.items c.terms.ids.items c.push_at.new.rows.items
          c.args.terms.items (into_iter_items c.terms.term-iterator) (into_iter_items c.next.new.self) c.in-Some.term
          here c.push_at.ensures.here c.push_at.ensures.others c.push_at.ensures.room c.terms.invariant.ids;
      sets =
          entering_more (λ t. t.states) c.args.sets.now.items c.terms.sets.items c.push_at-in-terms.new.rows.items
          c.args.terms.items (into_iter_items c.terms.term-iterator) (into_iter_items c.next.new.self) c.in-Some.term
          here c.push_at-in-terms.ensures.here c.push_at-in-terms.ensures.others c.push_at-in-terms.ensures.room
          c.terms.invariant.sets;
    }

pub returns-clause-ids : goal.returns-clause-ids
returns-clause-ids g c =
    let none : into_iter_items c.terms.term-iterator ≡ [] = none_left (into_iter_len c.terms.term-iterator)
    (into_iter_items c.terms.term-iterator) c.terms.invariant.counted c.in-None.ensures.steps.0 in
    entering_last (λ t. c.args.id) c.args.ids.now.items c.terms.ids.items c.args.terms.items
    (into_iter_items c.terms.term-iterator) none c.terms.invariant.ids

pub returns-clause-sets : goal.returns-clause-sets
returns-clause-sets g c =
    let none : into_iter_items c.terms.term-iterator ≡ [] = none_left (into_iter_len c.terms.term-iterator)
    (into_iter_items c.terms.term-iterator) c.terms.invariant.counted c.in-None.ensures.steps.0 in
    entering_last (λ t. t.states) c.args.sets.now.items c.terms.sets.items c.args.terms.items
    (into_iter_items c.terms.term-iterator) none c.terms.invariant.sets
