use Rattle.std.proofs.Common.{◌≡◌, ◌<◌, ◌+◌, ℕ, suc, length, map, true, sym, subst, arith, None}
use Rattle.propagation.specs.Trails.{set_of, step_at, trail_view}
use Rattle.propagation.proofs.Back.{sets_long}
use Rattle.guiding.specs.inner.Searching.{IsOnly, IsSeen}
use Rattle.guiding.proofs.Seen.{seen_next}
use Rattle.guiding.specs.inner.Guides.{IsOpenAt, asked_of}
use Rattle.guiding.proofs.opening.next_open.Goals as goal

pub open_at-requires-clause-vertex : goal.open_at-requires-clause-vertex
open_at-requires-clause-vertex g c =
    let t = trail_view g.S.States.tests c.args.trail.now in
    let lt : c.places.seen < length t.steps =
    subst (λ n. c.places.seen < n) c.places-in-places.ensures c.places-test.true in
    let within = (c.requires.sound.places c.places.seen lt).within in
    subst (λ v. v < length t.sets) (sym c.vertex_at-vertex.ensures)
    (subst (λ n. (step_at t.steps c.places.seen).vertex < n) (sets_long t c.places.seen) within)

pub places-preserved : goal.places-preserved
places-preserved g c =
    let tests = g.S.States.tests in
    let t = trail_view tests c.args.trail.now in
    let asked = map tests c.args.asked.now in
    let k = c.places.seen in
    let lt : k < length t.steps = subst (λ n. k < n) c.places-in-places.ensures c.places-test.true in
    let none : IsOpenAt t.sets asked c.vertex_at-vertex.result None =
    subst (IsOpenAt t.sets asked c.vertex_at-vertex.result) c.in-None.is c.open_at.ensures in
    let here : (i : ℕ) → IsOnly (set_of t.sets (step_at t.steps k).vertex) i
    → asked_of asked (step_at t.steps k).vertex i ≡ true =
    subst (λ v. (i : ℕ) → IsOnly (set_of t.sets v) i → asked_of asked v i ≡ true) c.vertex_at-vertex.ensures none in
    let next : suc k ≡ k + 1 = omega arith in
    subst (λ n. IsSeen n (asked_of asked) t) next
    (seen_next k (asked_of asked) t c.requires.sound lt here c.places.invariant)
