use Rattle.std.proofs.Common.{List, length, sym, subst}
use Rattle.std.proofs.lemmas.List.{map-set}
use Rattle.incompatibilities.specs.Stores.{entries_view}
use Rattle.propagation.specs.Trails.{FrontView, front_view, trail_view}
use Rattle.propagation.specs.Promises.{IsFront, IsTrail}
use Rattle.propagation.specs.inner.Parts.{with_fronts}
use Rattle.propagation.specs.declared.trail.Front.{Front}
use Rattle.propagation.proofs.Passing.{renewed_at}
use Rattle.propagation.proofs.trail.Trail.renew_front.Goals as goal

pub returns-in-Ok-clause-trail : goal.returns-in-Ok-clause-trail
returns-in-Ok-clause-trail g c =
    let es = entries_view g.S.States.tests c.args.store.now in
    let t = trail_view g.S.States.tests c.args.self.now in
    let v = c.args.vertex in
    let raw : Front = record { seen = length c.at-seen.result.now; alive = c.in-Ok.alive } in
    let alive = c.in-Ok.alive in
    let front : IsFront es t.sets v (front_view (record { seen = length c.at-seen.result.now; alive = alive })) =
    subst (λ ids. IsFront es t.sets v (record { seen = length ids; alive = alive.items })) (sym c.at-seen.ensures)
    c.in-Ok.ensures in
    subst (λ (fs : List FrontView). IsTrail es (with_fronts t fs))
    (sym (map-set front_view c.args.self.now.fronts.items v raw))
    (renewed_at es t v (front_view raw) c.requires.trail c.requires.low c.requires.vertex front)
