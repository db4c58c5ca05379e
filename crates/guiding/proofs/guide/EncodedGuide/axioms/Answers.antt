use Rattle.std.proofs.Common.{map, length, true, false, Some, sym, subst}
use Rattle.std.specs.Prelude.{IfSome}
use Rattle.incompatibilities.specs.Stores.{entries_view}
use Rattle.propagation.specs.Trails.{trail_view}
use Rattle.numbering.specs.inner.KnownProblem.{problem}
use Rattle.guiding.specs.inner.Searching.{HasSpaces, IsSeen}
use Rattle.guiding.specs.inner.Turning.{IsAdding}
use Rattle.guiding.specs.inner.Following as following
use Rattle.guiding.specs.inner.Following.{KeepsFollowed}
use Rattle.guiding.proofs.Guides.{adding_nothing}
use Rattle.guiding.specs.inner.Guides.{AreStored, CanAsk, EncodedView, Follows, IsNextOpen, IsOfInstance, asked_of}
use Rattle.guiding.specs.inner.Guides.{encoded_view, late_with, left_with}
use Rattle.guiding.proofs.Adding.{IsAsked, asked_adding, asked_given, asked_seen, asked_spaces, asked_stored}
use Rattle.guiding.proofs.Asked.{all_seen, only_below}
use Rattle.guiding.proofs.Following.{asked_follows}
use Rattle.guiding.proofs.guide.EncodedGuide.axioms.Given.{Over}
use Rattle.guiding.proofs.guide.EncodedGuide.axioms.Goals as goal

-- ---- the pair that stands alone

-- the guide, once the places that were seen are known
abbrev seen_alone : (g : Over) → goal.In_ok-bring-in-Some g → EncodedView
seen_alone g c =
    let f = c.self.inside in
    encoded_view (problem f.known) f.table
    (map g.S.States.tests f.asked.items) c.next_open.new.seen f.follows f.to_begin

alone_asked : (g : Over) (c : goal.In_ok-bring-in-Some g)
    → IsAsked c.in-Some.vertex c.in-Some.state (seen_alone g c) c.bring.new.self
    (trail_view g.S.States.tests c.args.trail.now) (trail_view g.S.States.tests c.bring.new.trail)
    (entries_view g.S.States.tests c.args.store.now) (entries_view g.S.States.tests c.bring.new.store)
alone_asked g c =
    let tests = g.S.States.tests in
    let sets = map tests c.self.inside.asked.items in
    let t = trail_view tests c.args.trail.now in
    let spaced : HasSpaces (map length sets) t =
    subst (λ (o : EncodedView). HasSpaces (map length o.asked) t) (sym c.self.view_is) c.requires.spaces in
    let alone : IsNextOpen t sets c.next_open.new.seen (Some (c.in-Some.vertex, c.in-Some.state)) =
    subst (λ l. IsNextOpen t (map tests l) c.next_open.new.seen (Some (c.in-Some.vertex, c.in-Some.state)))
    c.deref.ensures.value c.in-Some.ensures.open in
    record {
      asking = c.in_ok-bring-in-Some.ensures;
      spaced = spaced;
      trail = c.requires.trail;
      can = (
        alone.0,
        (alone.1).1,
        (alone.1).2,
        only_below sets t c.in-Some.vertex c.in-Some.state spaced ((alone.1).0),
      );
    }

pub returns-in_ok-bring-in-Some-clause-adding : goal.returns-in_ok-bring-in-Some-clause-adding
returns-in_ok-bring-in-Some-clause-adding g c =
    let tests = g.S.States.tests in
    let new = c.bring.new.self in
    subst (λ (o : EncodedView). IsAdding (asked_of o.asked) (asked_of new.asked) (left_with o) (left_with new)
    (late_with o) (late_with new) (trail_view tests c.args.trail.now) (trail_view tests c.bring.new.trail)
    (entries_view tests c.args.store.now) (entries_view tests c.bring.new.store) true) c.self.view_is
    (asked_adding (alone_asked g c))

pub returns-in_ok-bring-in-Some-clause-spaces : goal.returns-in_ok-bring-in-Some-clause-spaces
returns-in_ok-bring-in-Some-clause-spaces g c = asked_spaces (alone_asked g c)

pub returns-in_ok-bring-in-Some-clause-seen : goal.returns-in_ok-bring-in-Some-clause-seen
returns-in_ok-bring-in-Some-clause-seen g c =
    let tests = g.S.States.tests in
    asked_seen (alone_asked g c)
    (subst (λ l. IsSeen c.next_open.new.seen (asked_of (map tests l)) (trail_view tests c.args.trail.now))
    c.deref.ensures.value c.next_open.ensures.seen)

pub returns-in_ok-bring-in-Some-clause-given : goal.returns-in_ok-bring-in-Some-clause-given
returns-in_ok-bring-in-Some-clause-given g c was =
    let es = entries_view g.S.States.tests c.args.store.now in
    asked_given (alone_asked g c)
    (subst (λ (o : EncodedView). following.AreGiven (IsOfInstance o.problem o.vertices) es) (sym c.self.view_is) was)

pub returns-in_ok-bring-in-Some-clause-stored : goal.returns-in_ok-bring-in-Some-clause-stored
returns-in_ok-bring-in-Some-clause-stored g c was =
    let es = entries_view g.S.States.tests c.args.store.now in
    asked_stored (alone_asked g c)
    (subst (λ (o : EncodedView). AreStored o.problem o.vertices o.asked es) (sym c.self.view_is) was)

pub returns-in_ok-bring-in-Some-clause-follows : goal.returns-in_ok-bring-in-Some-clause-follows
returns-in_ok-bring-in-Some-clause-follows g c =
    let tests = g.S.States.tests in
    subst (λ (o : EncodedView). KeepsFollowed (Follows o) (entries_view tests c.args.store.now)
    (trail_view tests c.args.trail.now) (Follows c.bring.new.self) (entries_view tests c.bring.new.store)
    (trail_view tests c.bring.new.trail)) c.self.view_is (asked_follows (alone_asked g c))

-- ---- what the decision would bring

abbrev seen_ahead : (g : Over) → goal.In_ok-note-in-Some-2 g → EncodedView
seen_ahead g c =
    let f = c.self.inside in
    encoded_view (problem f.known) f.table
    (map g.S.States.tests f.asked.items) c.next_open.new.seen f.follows f.to_begin

-- the guide at the end, with what the lead is noted to have brought
abbrev noted : (g : Over) → goal.In_ok-note-in-Some-2 g → EncodedView
noted g c =
    let here = c.self-in-Some-2.inside in
    encoded_view (problem here.known) here.table
    (map g.S.States.tests here.asked.items) here.seen here.follows here.to_begin

ahead_asked : (g : Over) (c : goal.In_ok-note-in-Some-2 g)
    → IsAsked c.in-Some-2.vertex c.in-Some-2.state (seen_ahead g c) c.bring-in-Some-2.new.self
    (trail_view g.S.States.tests c.args.trail.now) (trail_view g.S.States.tests c.bring-in-Some-2.new.trail)
    (entries_view g.S.States.tests c.args.store.now) (entries_view g.S.States.tests c.bring-in-Some-2.new.store)
ahead_asked g c =
    let tests = g.S.States.tests in
    let sets = map tests c.self.inside.asked.items in
    let t = trail_view tests c.args.trail.now in
    record {
      asking = c.in_ok-bring-in-Some-2.ensures;
      spaced =
          subst (λ (o : EncodedView). HasSpaces (map length o.asked) t) (sym c.self.view_is) c.requires.spaces;
      trail = c.requires.trail;
      can =
          subst (λ o. IfSome o (λ d. CanAsk t sets d.0 d.1)) c.in-Some-2.is c.in_ok-vertex-in-None.ensures;
    }

pub returns-in_ok-note-in-Some-2-clause-adding : goal.returns-in_ok-note-in-Some-2-clause-adding
returns-in_ok-note-in-Some-2-clause-adding g c =
    let tests = g.S.States.tests in
    let t = trail_view tests c.args.trail.now in
    let wide = trail_view tests c.bring-in-Some-2.new.trail in
    let es = entries_view tests c.args.store.now in
    let more = entries_view tests c.bring-in-Some-2.new.store in
    let mid = seen_ahead g c in
    let end = noted g c in
    subst (λ (o : EncodedView). IsAdding (asked_of o.asked) (asked_of end.asked) (left_with o) (left_with end)
    (late_with o) (late_with end) t wide es more true) c.self.view_is
    (subst (λ (n : EncodedView). IsAdding (asked_of mid.asked) (asked_of n.asked) (left_with mid) (left_with n)
    (late_with mid) (late_with n) t wide es more true) (sym c.self-in-Some-2.view_is) (asked_adding (ahead_asked g c)))

pub returns-in_ok-note-in-Some-2-clause-spaces : goal.returns-in_ok-note-in-Some-2-clause-spaces
returns-in_ok-note-in-Some-2-clause-spaces g c =
    subst (λ (n : EncodedView). HasSpaces (map length n.asked) (trail_view g.S.States.tests
    c.bring-in-Some-2.new.trail)) (sym c.self-in-Some-2.view_is) (asked_spaces (ahead_asked g c))

pub returns-in_ok-note-in-Some-2-clause-seen : goal.returns-in_ok-note-in-Some-2-clause-seen
returns-in_ok-note-in-Some-2-clause-seen g c =
    let tests = g.S.States.tests in
    let t = trail_view tests c.args.trail.now in
    subst (λ (n : EncodedView). IsSeen n.seen (asked_of n.asked) (trail_view tests c.bring-in-Some-2.new.trail))
    (sym c.self-in-Some-2.view_is) (asked_seen (ahead_asked g c)
    (subst (λ l. IsSeen c.next_open.new.seen (asked_of (map tests l)) t) c.deref.ensures.value
    c.next_open.ensures.seen))

pub returns-in_ok-note-in-Some-2-clause-given : goal.returns-in_ok-note-in-Some-2-clause-given
returns-in_ok-note-in-Some-2-clause-given g c was =
    let tests = g.S.States.tests in
    let es = entries_view tests c.args.store.now in
    let more = entries_view tests c.bring-in-Some-2.new.store in
    subst
    (λ (n : EncodedView). following.AreGiven (IsOfInstance n.problem n.vertices) more) (sym c.self-in-Some-2.view_is)
    (asked_given (ahead_asked g c)
    (subst (λ (o : EncodedView). following.AreGiven (IsOfInstance o.problem o.vertices) es) (sym c.self.view_is) was))

pub returns-in_ok-note-in-Some-2-clause-stored : goal.returns-in_ok-note-in-Some-2-clause-stored
returns-in_ok-note-in-Some-2-clause-stored g c was =
    let tests = g.S.States.tests in
    let es = entries_view tests c.args.store.now in
    let more = entries_view tests c.bring-in-Some-2.new.store in
    subst (λ (n : EncodedView). AreStored n.problem n.vertices n.asked more) (sym c.self-in-Some-2.view_is)
    (asked_stored (ahead_asked g c)
    (subst (λ (o : EncodedView). AreStored o.problem o.vertices o.asked es) (sym c.self.view_is) was))

pub returns-in_ok-note-in-Some-2-clause-follows : goal.returns-in_ok-note-in-Some-2-clause-follows
returns-in_ok-note-in-Some-2-clause-follows g c =
    let tests = g.S.States.tests in
    let t = trail_view tests c.args.trail.now in
    let wide = trail_view tests c.bring-in-Some-2.new.trail in
    let es = entries_view tests c.args.store.now in
    let more = entries_view tests c.bring-in-Some-2.new.store in
    subst (λ (o : EncodedView). KeepsFollowed (Follows o) es t (Follows (noted g c)) more wide) c.self.view_is
    (subst (λ (n : EncodedView). KeepsFollowed (Follows (seen_ahead g c)) es t (Follows n) more wide)
    (sym c.self-in-Some-2.view_is) (asked_follows (ahead_asked g c)))

-- ---- nothing

pub returns-in-None-2-clause-adding : goal.returns-in-None-2-clause-adding
returns-in-None-2-clause-adding g c =
    let tests = g.S.States.tests in
    let f = c.self.inside in
    let sets = map tests f.asked.items in
    let t = trail_view tests c.args.trail.now in
    let es = entries_view tests c.args.store.now in
    let mid = encoded_view (problem f.known) f.table sets c.next_open.new.seen f.follows f.to_begin in
    let seen : IsSeen c.next_open.new.seen (asked_of sets) t = subst
    (λ l. IsSeen c.next_open.new.seen (asked_of (map tests l)) t) c.deref.ensures.value c.next_open.ensures.seen in
    subst (λ (o : EncodedView). IsAdding (asked_of o.asked) (asked_of sets) (left_with o) (left_with mid) (late_with o)
    (late_with mid) t t es es false) c.self.view_is
    (adding_nothing (asked_of sets) (left_with mid) (late_with mid) t es c.requires.trail.lies
    (all_seen c.next_open.new.seen (asked_of sets) t seen c.in-None.ensures.open))

pub returns-in-None-2-clause-follows : goal.returns-in-None-2-clause-follows
returns-in-None-2-clause-follows g c x is =
    (subst (λ (o : EncodedView). Follows o x) c.self.view_is is, λ is_left. is_left)
