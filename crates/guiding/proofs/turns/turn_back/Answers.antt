use Rattle.std.proofs.Common.{◌+◌, refl, subst, sym}
use Rattle.incompatibilities.specs.Stores.{entries_view, entry}
use Rattle.propagation.specs.Trails.{trail_view}
use Rattle.conflicts.specs.Resolving.{Resolved}
use Rattle.conflicts.specs.declared.resolving.Outcome.TheVariants.{Learned}
use Rattle.guiding.specs.inner.Searching.{space}
use Rattle.guiding.proofs.Counts.{counts_gained}
use Rattle.guiding.proofs.Falls.{turn_jump, turn_noted}
use Rattle.guiding.proofs.Seen.{seen_cut, seen_longer}
use Rattle.guiding.proofs.FollowedLoop.{given_more, no_conflict, spaces_same}
use Rattle.guiding.proofs.turns.turn_back.Goals as goal

pub returns-in_ok-propagate-in-Learned-clause-turned : goal.returns-in_ok-propagate-in-Learned-clause-turned
returns-in_ok-propagate-in-Learned-clause-turned g c =
    let tests = g.S.States.tests in
    let es = entries_view tests c.resolve_conflict.new.store in
    let old = trail_view tests c.args.trail.now in
    let mid = trail_view tests c.resolve_conflict.new.trail in
    let new = trail_view tests c.propagate.new.self in
    let was = c.args.guide.now in
    let now = c.noted.new.self in
    let learned : Resolved old es mid (Learned c.in-Learned.learned c.in-Learned.back_to) =
    subst (Resolved old es mid) c.in-Learned.is c.in_ok-outcome.ensures.resolved in
    let more = c.in_ok-propagate-in-Learned.ensures.propagated in
    let next = c.in_ok-propagate-in-Learned.field-0 in
    let grows = c.in_ok-noted-in-Learned.ensures.asked in
    record {
      fallen =
          turn_noted (space (g.G.Guide.late was) old + g.G.Guide.left was) (g.G.Guide.left was) (g.G.Guide.left now)
          (g.G.Guide.late was) (g.G.Guide.late now) (g.G.Guide.asked was) (g.G.Guide.asked now) es new next
          grows c.in_ok-noted-in-Learned.ensures.left c.in_ok-noted-in-Learned.ensures.late
          (turn_jump (g.G.Guide.asked was) (g.G.Guide.left was) (g.G.Guide.late was) es old mid new c.in-Learned.learned
          c.in-Learned.back_to learned
          (c.in_ok-outcome.ensures.gained.1.quiet c.requires.searching.quiet) next more.0 more.1
          c.requires.searching.falling c.requires.caught c.in_ok-propagate-in-Learned.ensures.trail);
      seen_is = seen_longer (g.G.Guide.seen now) (g.G.Guide.asked now) mid new more.0 more.1.steps more.1.back
          (seen_cut (g.G.Guide.seen was) (g.G.Guide.seen now) c.in-Learned.back_to (g.G.Guide.asked was)
          (g.G.Guide.asked now) old mid learned.gone c.requires.searching.trail.sound learned.cut
          c.in_ok-noted-in-Learned.ensures.seen c.in_ok-noted-in-Learned.ensures.within grows c.requires.seen);
    }

pub returns-in_ok-propagate-in-Learned-clause-follows : goal.returns-in_ok-propagate-in-Learned-clause-follows
returns-in_ok-propagate-in-Learned-clause-follows g c x is = (
  c.in_ok-noted-in-Learned.ensures.follows x is,
  λ is_left. absurd (no_conflict x (entries_view g.S.States.tests c.args.store.now)
      (trail_view g.S.States.tests c.args.trail.now) c.args.id c.requires.searching.stops is_left),
)

pub returns-in-Unsolvable-clause-follows : goal.returns-in-Unsolvable-clause-follows
returns-in-Unsolvable-clause-follows g c x was = (
  was,
  λ is_left. absurd (no_conflict x (entries_view g.S.States.tests c.args.store.now)
      (trail_view g.S.States.tests c.args.trail.now) c.args.id c.requires.searching.stops is_left),
)

pub returns-in-Unsolvable-clause-turns : goal.returns-in-Unsolvable-clause-turns
returns-in-Unsolvable-clause-turns g c x was is_left =
    absurd (no_conflict x (entries_view g.S.States.tests c.args.store.now)
    (trail_view g.S.States.tests c.args.trail.now) c.args.id c.requires.searching.stops is_left)

pub returns-in-Unsolvable-clause-keeps : goal.returns-in-Unsolvable-clause-keeps
returns-in-Unsolvable-clause-keeps g c = g.G.Guide.keeps_same c.args.guide.now

pub returns-in-Unsolvable-clause-given : goal.returns-in-Unsolvable-clause-given
returns-in-Unsolvable-clause-given g c =
    given_more (g.G.Guide.given c.args.guide.now) (entries_view g.S.States.tests c.args.store.now)
    (trail_view g.S.States.tests c.args.trail.now) (entries_view g.S.States.tests c.resolve_conflict.new.store)
    c.in_ok-outcome.ensures.gained.0 c.in_ok-outcome.ensures.gained.1

pub returns-in_ok-propagate-in-Learned-clause-given : goal.returns-in_ok-propagate-in-Learned-clause-given
returns-in_ok-propagate-in-Learned-clause-given g c was id within origin =
    let es = entries_view g.S.States.tests c.resolve_conflict.new.store in
    c.in_ok-noted-in-Learned.ensures.given (entry es id)
    (given_more (g.G.Guide.given c.args.guide.now) (entries_view g.S.States.tests c.args.store.now)
    (trail_view g.S.States.tests c.args.trail.now) es c.in_ok-outcome.ensures.gained.0
    c.in_ok-outcome.ensures.gained.1 was id within origin)

-- what is known of a store is known of one with combinations more
pub returns-in-Unsolvable-clause-stored : goal.returns-in-Unsolvable-clause-stored
returns-in-Unsolvable-clause-stored g c was =
    let guide = c.args.guide.now in
    subst (g.G.Guide.stored guide) (sym c.in_ok-outcome.ensures.gained.1.grown) (g.G.Guide.stored_on guide
    (entries_view g.S.States.tests c.args.store.now) c.in_ok-outcome.ensures.gained.0 was)

pub returns-in_ok-propagate-in-Learned-clause-stored : goal.returns-in_ok-propagate-in-Learned-clause-stored
returns-in_ok-propagate-in-Learned-clause-stored g c was =
    let tests = g.S.States.tests in
    let guide = c.args.guide.now in
    c.in_ok-noted-in-Learned.ensures.stored (entries_view tests c.resolve_conflict.new.store)
    (subst (g.G.Guide.stored guide) (sym c.in_ok-outcome.ensures.gained.1.grown)
    (g.G.Guide.stored_on guide (entries_view tests c.args.store.now) c.in_ok-outcome.ensures.gained.0 was))

pub returns-in_ok-propagate-in-Learned-clause-spaces : goal.returns-in_ok-propagate-in-Learned-clause-spaces
returns-in_ok-propagate-in-Learned-clause-spaces g c =
    let tests = g.S.States.tests in
    let spaces = g.G.Guide.spaces c.args.guide.now in
    let more = g.G.Guide.spaces c.noted.new.self in
    let mid = trail_view tests c.resolve_conflict.new.trail in
    spaces_same spaces more mid
    (trail_view tests c.propagate.new.self) c.in_ok-noted-in-Learned.ensures.spaces c.propagate.ensures.spaces
    (spaces_same spaces spaces
    (trail_view tests c.args.trail.now) mid refl c.resolve_conflict.ensures.spaces c.requires.spaces)

pub returns-in-Unsolvable-clause-spaces : goal.returns-in-Unsolvable-clause-spaces
returns-in-Unsolvable-clause-spaces g c =
    let tests = g.S.States.tests in
    let spaces = g.G.Guide.spaces c.args.guide.now in
    spaces_same spaces spaces (trail_view tests c.args.trail.now)
    (trail_view tests c.resolve_conflict.new.trail) refl c.resolve_conflict.ensures.spaces c.requires.spaces

pub returns-in_ok-propagate-in-Learned-clause-counted : goal.returns-in_ok-propagate-in-Learned-clause-counted
returns-in_ok-propagate-in-Learned-clause-counted g c =
    let tests = g.S.States.tests in
    counts_gained (entries_view tests c.args.store.now)
    (entries_view tests c.resolve_conflict.new.store) c.in_ok-outcome.ensures.gained.0 c.args.steps.now
    c.with_conflict.result c.len-before.result c.in_ok-outcome.ensures.gained.1.grown c.len-before.ensures
    c.with_conflict.ensures.counted c.with_conflict.ensures.more

pub returns-in-Unsolvable-clause-counted : goal.returns-in-Unsolvable-clause-counted
returns-in-Unsolvable-clause-counted g c =
    let tests = g.S.States.tests in
    counts_gained (entries_view tests c.args.store.now)
    (entries_view tests c.resolve_conflict.new.store) c.in_ok-outcome.ensures.gained.0 c.args.steps.now
    c.with_conflict.result c.len-before.result c.in_ok-outcome.ensures.gained.1.grown c.len-before.ensures
    c.with_conflict.ensures.counted c.with_conflict.ensures.more
