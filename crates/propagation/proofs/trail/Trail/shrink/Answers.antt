use Rattle.std.proofs.Common.{rules, ◌≡◌, ◌+◌, ◌∷◌, [], length, ◌∙◌}
use Rattle.std.proofs.lemmas.List.{length-map}
use Rattle.propagation.specs.Trails.{trail_view}
use Rattle.propagation.proofs.Back.{longer_again, off_longer, steps_one}
use Rattle.propagation.proofs.Soundness.{shorter_last, shorter_long}
use Rattle.propagation.proofs.trail.Trail.shrink.Goals as goal

pub take_off-requires-clause-long : goal.take_off-requires-clause-long
take_off-requires-clause-long g c =
    let view = trail_view g.S.States.tests in
    let was = c.back.invariant.back in
    shorter_long (view c.back.self) (view c.args.self.now) was.0 was.1 c.requires.sound

pub take_off-requires-clause-last : goal.take_off-requires-clause-last
take_off-requires-clause-last g c =
    let view = trail_view g.S.States.tests in
    let was = c.back.invariant.back in
    shorter_last (view c.back.self) (view c.args.self.now) was.0 was.1 c.requires.sound (rw length-map (search rules))

pub back-preserved : goal.back-preserved
back-preserved g c =
    let view = trail_view g.S.States.tests in
    let was = c.back.invariant.back in
    let off = c.take_off.ensures.off in
    let mid = view c.back.self in
    let new = view c.take_off.new.self in
    let one : length c.back.self.steps.items ≡ 1 + length c.take_off.new.self.steps.items =
    rw (length-map, length-map) at (steps_one mid new off.0 off.1) in
    record {
      back = (
        off.0 ∷ was.0,
        longer_again new mid (view c.args.self.now) (off.0 ∷ []) was.0 (off_longer mid new off.0 off.1) was.1,
      );
      places = search (rules, one);
      level = off.1.level_is ∙ c.back.invariant.level;
      sifted = off.1.sifted ∙ c.back.invariant.sifted;
    }
