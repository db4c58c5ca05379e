use Rattle.std.proofs.Common.{rules, ◌≡◌, ◌<◌, ◌+◌, ◌∷◌, [], ◌++◌, ◌∙◌, List, get_or, length, sym, ap, subst, arith}
use Rattle.terms.specs.Terms.{TermView, terms_view}
use Rattle.incompatibilities.specs.Incompatibilities.{LiesIn, states_at}
use Rattle.incompatibilities.specs.Stores.{entries_view, ids_at, terms_of}
use Rattle.propagation.specs.Trails.{front_of, space_of, trail_view}
use Rattle.propagation.specs.Satisfaction.{RuledOut}
use Rattle.propagation.specs.inner.Units.{LiesOn, place_left, entries_left}
use Rattle.propagation.proofs.Reading.{id_below, read_any}
use Rattle.propagation.proofs.Passing.{front_now}
use Rattle.propagation.proofs.Sifting.{IsSifted, place_in, sifted, sifted_kept, sifted_none, sifted_out, turn_left}
use Rattle.propagation.proofs.trail.Trail.still_alive.Goals as goal

pub entries-init : goal.entries-init
entries-init g c =
    let es = entries_view g.S.States.tests c.args.store.now in
    let t = trail_view g.S.States.tests c.args.self.now in
    let v = c.args.vertex in
    subst (IsSifted es t.sets v (front_of t.fronts v) 0) (sym c.new-alive.ensures.items)
    (sifted_none es t.sets v (front_of t.fronts v) (front_now es t v c.requires.trail))

pub get-requires : goal.get-requires
get-requires g c =
    let tests = g.S.States.tests in
    let es = entries_view tests c.args.store.now in
    let t = trail_view tests c.args.self.now in
    let v = c.args.vertex in
    let f = front_of t.fronts v in
    let on = c.at-on.result.now in
    let within : c.place_left-place.result < length on = place_in es t.sets v f on c.entries.turn
    c.entries_left-turn-end.result c.place_left-place.result (front_now es t v c.requires.trail) c.at-on.ensures
    c.entries-test.true c.entries_left-turn-end.ensures c.place_left-place.ensures in
    let here : c.index-on-place.result ≡ get_or on c.place_left-place.result 0 =
    c.index-on-place.is ∙ read_any on c.place_left-place.result c.index-on-place.result 0 within in
    id_below v es on c.place_left-place.result c.index-on-place.result c.at-on.ensures within here

pub is_ruled_out-requires : goal.is_ruled_out-requires
is_ruled_out-requires g c =
    let tests = g.S.States.tests in
    let es = entries_view tests c.args.store.now in
    let t = trail_view tests c.args.self.now in
    let v = c.args.vertex in
    let f = front_of t.fronts v in
    let on = c.at-on.result.now in
    let within : c.place_left-place.result < length on = place_in es t.sets v f on c.entries.turn
    c.entries_left-turn-end.result c.place_left-place.result (front_now es t v c.requires.trail) c.at-on.ensures
    c.entries-test.true c.entries_left-turn-end.ensures c.place_left-place.ensures in
    let here : c.index-on-place.result ≡ get_or on c.place_left-place.result 0 =
    c.index-on-place.is ∙ read_any on c.place_left-place.result c.index-on-place.result 0 within in
    let low : c.index-on-place.result < length es =
    id_below v es on c.place_left-place.result c.index-on-place.result c.at-on.ensures within here in
    subst (λ (ts : List TermView). LiesOn t ts) (sym (ap (terms_view tests) c.terms.ensures.terms)) (record {
      is = c.terms.ensures.is;
      lies = subst (λ (ts : List TermView). LiesIn (space_of t) (states_at ts)) (sym c.get.ensures.value)
          (c.requires.trail.lies c.index-on-place.result low);
    })

pub entries-preserved-then-is_ruled_out : goal.entries-preserved-then-is_ruled_out
entries-preserved-then-is_ruled_out g c =
    let tests = g.S.States.tests in
    let es = entries_view tests c.args.store.now in
    let t = trail_view tests c.args.self.now in
    let v = c.args.vertex in
    let f = front_of t.fronts v in
    let on = c.at-on.result.now in
    let within : c.place_left-place.result < length on = place_in es t.sets v f on c.entries.turn
    c.entries_left-turn-end.result c.place_left-place.result (front_now es t v c.requires.trail) c.at-on.ensures
    c.entries-test.true c.entries_left-turn-end.ensures c.place_left-place.ensures in
    let here : c.index-on-place.result ≡ get_or on c.place_left-place.result 0 =
    c.index-on-place.is ∙ read_any on c.place_left-place.result c.index-on-place.result 0 within in
    let id : c.index-on-place.result ≡ get_or (ids_at v es) (place_left f c.entries.turn) 0 =
    here ∙ ap (λ ids. get_or ids c.place_left-place.result 0) c.at-on.ensures
    ∙ ap (λ p. get_or (ids_at v es) p 0) c.place_left-place.ensures in
    let out : RuledOut t.sets (states_at (terms_view tests c.terms.result.now)) =
    rw c.if-is_ruled_out.true at c.is_ruled_out.ensures in
    let it : RuledOut t.sets (terms_of es c.index-on-place.result) =
    subst (λ (ts : List TermView). RuledOut t.sets (states_at ts))
    (ap (terms_view tests) c.terms.ensures.terms ∙ c.get.ensures.value) out in
    sifted_out es t.sets v f c.entries.turn c.entries.alive.items (subst (λ i. RuledOut t.sets (terms_of es i)) id it)
    c.entries.invariant

pub entries-preserved : goal.entries-preserved
entries-preserved g c =
    let tests = g.S.States.tests in
    let es = entries_view tests c.args.store.now in
    let t = trail_view tests c.args.self.now in
    let v = c.args.vertex in
    let f = front_of t.fronts v in
    let on = c.at-on.result.now in
    let left : c.entries.turn < entries_left f (length (ids_at v es)) = turn_left es t.sets v f on c.entries.turn
    c.entries_left-turn-end.result c.place_left-place.result (front_now es t v c.requires.trail) c.at-on.ensures
    c.entries-test.true c.entries_left-turn-end.ensures c.place_left-place.ensures in
    let pushed : c.push.new.self.items ≡ c.entries.alive.items ++ c.place_left-place.result ∷ [] = search rules in
    subst (IsSifted es t.sets v f (c.entries.turn + 1))
    (sym (pushed ∙ ap (λ p. c.entries.alive.items ++ p ∷ []) c.place_left-place.ensures))
    (sifted_kept es t.sets v f (front_now es t v c.requires.trail) c.entries.turn c.entries.alive.items left
    c.entries.invariant)

pub returns : goal.returns
returns g c =
    let tests = g.S.States.tests in
    let es = entries_view tests c.args.store.now in
    let t = trail_view tests c.args.self.now in
    let v = c.args.vertex in
    let f = front_of t.fronts v in
    let on = c.at-on.result.now in
    let all : c.entries_left-turn-end.result ≡ entries_left f (length (ids_at v es)) =
    c.entries_left-turn-end.ensures ∙ ap (λ ids. entries_left f (length ids)) c.at-on.ensures in
    let end = c.entries.auto.turn-end in
    let last = c.entries-test.false in
    sifted es t.sets v f (front_now es t v c.requires.trail) c.entries.turn c.entries.alive.items
    (omega (arith, end, all)) (omega (arith, last, all)) c.entries.invariant
