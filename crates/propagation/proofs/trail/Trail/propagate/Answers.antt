use Rattle.std.proofs.Common.{rules, ◌≡◌, ◌++◌, length, take, sym, ap, ◌∙◌, subst}
use Rattle.std.proofs.Math.Seq.{take-append_seam}
use Rattle.std.proofs.lemmas.List.{length-map}
use Rattle.incompatibilities.specs.Stores.{entries_view}
use Rattle.propagation.specs.Promises.{IsTrail, SameSpaces}
use Rattle.propagation.specs.Trails.{trail_view}
use Rattle.propagation.proofs.Passing.{propagated_renewed}
use Rattle.propagation.proofs.Soundness.{longer_spaces, same_again}
use Rattle.propagation.proofs.Spreading.{restored}
use Rattle.propagation.proofs.trail.Trail.propagate.Goals as goal

pub returns-in-Err-clause-kept : goal.returns-in-Err-clause-kept
returns-in-Err-clause-kept g c =
    let view = trail_view g.S.States.tests in
    let up = c.spread.ensures.spread in
    let down = c.shrink.ensures.longer in
    let count : c.len-places.result ≡ length (view c.args.self.now).steps = rw length-map (search rules) in
    let old = (view c.args.self.now).sifted.frail in
    let frail : length old ≡ c.len-frail.result = search rules in
    let more : (view c.shrink.new.self).sifted.frail ≡ old ++ up.1.sifted.0 =
    ap (λ f. f.frail) c.shrink.ensures.sifted ∙ up.1.sifted.1 in
    restored (view c.args.self.now) (view c.spread.new.self) (view c.shrink.new.self) up.0 down.0
    c.truncate.new.self.items up.1.longer down.1 (c.shrink.ensures.places ∙ count) (c.shrink.ensures.level ∙ up.1.level)
    (c.truncate.ensures.items ∙ ap (take c.len-frail.result) more ∙ ap (λ n. take n (old ++ up.1.sifted.0)) (sym frail)
    ∙ take-append_seam old up.1.sifted.0)

pub returns-in-Err-clause-trail : goal.returns-in-Err-clause-trail
returns-in-Err-clause-trail g c = subst (IsTrail (entries_view g.S.States.tests c.args.store.now))
    (sym (returns-in-Err-clause-kept g c)) c.requires

pub returns-in-Err-clause-spaces : goal.returns-in-Err-clause-spaces
returns-in-Err-clause-spaces g c =
    same_again _ (trail_view g.S.States.tests c.args.self.now) (returns-in-Err-clause-kept g c)

pub returns-in-Ok-clause-spaces : goal.returns-in-Ok-clause-spaces
returns-in-Ok-clause-spaces g c =
    let view = trail_view g.S.States.tests in
    let up = c.spread.ensures.spread in
    let spaces : SameSpaces (view c.args.self.now) (view c.spread.new.self) =
    longer_spaces (view c.args.self.now) (view c.spread.new.self) up.0 up.1.longer up.1.trail.sound in
    subst (SameSpaces (view c.args.self.now)) (sym c.renew_fronts.ensures.renewed)
    (record { vertices = spaces.vertices; spaces = spaces.spaces })

pub returns-in-Ok-clause-propagated : goal.returns-in-Ok-clause-propagated
returns-in-Ok-clause-propagated g c =
    let view = trail_view g.S.States.tests in
    let es = entries_view g.S.States.tests c.args.store.now in
    let was = c.in-Ok.ensures.propagated in (
      was.0,
      propagated_renewed es (view c.args.self.now) (view c.spread.new.self) (view c.renew_fronts.new.self)
          c.in-Ok.progress was.0 c.renew_fronts.ensures.renewed was.1,
    )
