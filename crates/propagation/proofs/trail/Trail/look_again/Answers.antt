use Rattle.std.proofs.Common.{rules, ◌≡◌, ◌<◌, ◌∙◌, true, false, [], length, sym, ap, subst}
use Rattle.incompatibilities.specs.Stores.{entries_view, terms_of}
use Rattle.propagation.specs.Satisfaction.{is_within}
use Rattle.propagation.specs.Trails.{set_of, trail_view}
use Rattle.propagation.proofs.Looking.{looked_again, passed_over, still_by, vertex_within}
use Rattle.propagation.proofs.trail.Trail.look_again.Goals as goal

pub is_within-requires-clause-vertex : goal.is_within-requires-clause-vertex
is_within-requires-clause-vertex g c =
    let t = trail_view g.S.States.tests c.args.self.now in
    subst (λ v. v < length t.sets) (sym c.requires.vertex)
    (vertex_within t c.requires.trail.sound t.propagated c.requires.waits)

pub is_within-requires-clause-fits : goal.is_within-requires-clause-fits
is_within-requires-clause-fits g c = c.requires.trail.lies c.args.id c.requires.id c.args.vertex
    (g.S.States.tests c.args.states.now) c.requires.states

pub returns-then-is_within-clause-looked : goal.returns-then-is_within-clause-looked
returns-then-is_within-clause-looked g c =
    let tests = g.S.States.tests in
    looked_again (entries_view tests c.args.store.now) (trail_view tests c.args.self.now)
    (trail_view tests c.look.new.self) c.args.id c.look.result c.requires.waits c.look.ensures.looked

pub returns-then-is_within-clause-still : goal.returns-then-is_within-clause-still
returns-then-is_within-clause-still g c =
    let tests = g.S.States.tests in
    let es = entries_view tests c.args.store.now in
    let old = (trail_view tests c.args.self.now).sets in
    let new = (trail_view tests c.look.new.self).sets in
    let on : c.is_within.result ≡ true = search rules in
    still_by old new (terms_of es c.args.id) c.args.vertex c.look.result
    (ap (is_within (set_of old c.args.vertex)) c.requires.states ∙ sym c.is_within.ensures ∙ on) c.look.ensures.held

pub returns-clause-looked : goal.returns-clause-looked
returns-clause-looked g c =
    let tests = g.S.States.tests in
    let es = entries_view tests c.args.store.now in
    let t = trail_view tests c.args.self.now in
    let id = c.args.id in
    let v = c.args.vertex in
    let off : c.is_within.result ≡ false = search rules in
    let apart : is_within (set_of t.sets v) (terms_of es id v) ≡ false =
    ap (is_within (set_of t.sets v)) c.requires.states ∙ sym c.is_within.ensures ∙ off in (
      [],
      passed_over es t id c.requires.trail c.requires.waits
          (subst (λ u. is_within (set_of t.sets u) (terms_of es id u) ≡ false) c.requires.vertex apart),
    )
