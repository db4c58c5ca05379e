use Rattle.std.proofs.Common.{◌<◌, ◌≤◌, ◌∙◌, length, map, refl, sym, ap, subst}
use Rattle.std.proofs.lemmas.List.{length-map}
use Rattle.incompatibilities.specs.Stores.{entries_view}
use Rattle.numbering.specs.inner.AskedFor.{IsNoted}
use Rattle.numbering.specs.inner.Assignments.{state_at}
use Rattle.numbering.specs.GivenViews.{given_views}
use Rattle.numbering.specs.inner.KnownProblem.{problem}
use Rattle.propagation.specs.Trails.{set_of, trail_view}
use Rattle.guiding.specs.inner.Guides.{EncodedView, IsAskedFor}
use Rattle.guiding.proofs.Asked.{asking_by, encoding_marked, encoding_of, ok_by, state_below}
use Rattle.guiding.proofs.Marks.{mark_lengths}
use Rattle.guiding.proofs.Noting.{encoding_grown, given_less, no_more, noted_marked, noted_more}
use Rattle.guiding.proofs.guide.Encoded.ask.Goals as goal

pub next_axioms_at-requires-clause-state : goal.next_axioms_at-requires-clause-state
next_axioms_at-requires-clause-state g c = state_below c.self.inside.known c.self.inside.table
    (map g.S.States.tests c.self.inside.asked.items) c.args.self.now c.self.inside.seen c.self.inside.follows
    c.self.inside.to_begin c.args.vertex c.args.state c.self.invariant.0 c.self.view_is c.requires.vertex
    c.requires.state

pub invariant_of-self-in_err-given : goal.invariant_of-self-in_err-given
invariant_of-self-in_err-given g c =
    let f = c.self.inside in
    let asked = map g.S.States.tests f.asked.items in (
      encoding_of _ c.next_axioms_at.new.table asked (encoding_grown f.known f.table c.next_axioms_at.new.table asked
          c.self.invariant.0 c.next_axioms_at.ensures.grown c.next_axioms_at.ensures.numbering)
          c.self.invariant.0.default refl,
      c.self.invariant.1,
      noted_more (problem f.known) f.table c.next_axioms_at.new.table asked asked f.noted c.next_axioms_at.new.noted
          c.self.invariant.0.spaces c.next_axioms_at.ensures.grown (no_more asked) c.next_axioms_at.ensures.kept
          c.self.invariant.2,
    )

pub invariant_of-self-in_err-come : goal.invariant_of-self-in_err-come
invariant_of-self-in_err-come g c =
    let tests = g.S.States.tests in
    let f = c.self.inside in (
      c.come.ensures.encoding,
      c.self.invariant.1,
      noted_more (problem f.known) f.table c.next_axioms_at.new.table (map tests f.asked.items)
          (map tests c.come.new.asked.items) f.noted c.next_axioms_at.new.noted c.self.invariant.0.spaces
          c.next_axioms_at.ensures.grown c.come.ensures.more c.next_axioms_at.ensures.kept c.self.invariant.2,
    )

pub invariant_of-self-in_err-put_given : goal.invariant_of-self-in_err-put_given
invariant_of-self-in_err-put_given g c =
    let tests = g.S.States.tests in
    let f = c.self.inside in (
      c.come.ensures.encoding,
      c.self.invariant.1,
      noted_more (problem f.known) f.table c.next_axioms_at.new.table (map tests f.asked.items)
          (map tests c.come.new.asked.items) f.noted c.next_axioms_at.new.noted c.self.invariant.0.spaces
          c.next_axioms_at.ensures.grown c.come.ensures.more c.next_axioms_at.ensures.kept c.self.invariant.2,
    )

pub invariant_of-self-2 : goal.invariant_of-self-2
invariant_of-self-2 g c =
    let tests = g.S.States.tests in (
      encoding_marked c.mark.result _ c.next_axioms_at.new.table (map tests c.come.new.asked.items)
          (map tests c.mark.new.asked.items) c.args.vertex c.args.state c.mark.ensures.ok c.mark.ensures.err
          c.come.ensures.encoding,
      c.self.invariant.1,
      noted_marked (problem c.self.inside.known) c.self.inside.table c.next_axioms_at.new.table
          (map tests c.self.inside.asked.items) (map tests c.come.new.asked.items) c.self.inside.noted
          c.next_axioms_at.new.noted c.self.invariant.0.spaces c.next_axioms_at.ensures.grown c.come.ensures.more
          c.next_axioms_at.ensures.kept c.self.invariant.2 c.mark.result (map tests c.mark.new.asked.items)
          c.args.vertex c.args.state
          (subst (λ (o : EncodedView). c.args.vertex < length o.asked) (sym c.self.view_is) c.requires.vertex)
          (subst (λ (o : EncodedView). c.args.state < length (set_of o.asked c.args.vertex)) (sym c.self.view_is)
          c.requires.state) c.mark.ensures.ok c.mark.ensures.err c.in_ok-given.ensures.noted,
    )

pub returns : goal.returns
returns g c =
    let tests = g.S.States.tests in
    let f = c.self.inside in
    let asked = map tests f.asked.items in
    let mid = map tests c.come.new.asked.items in
    let last = map tests c.mark.new.asked.items in
    ok_by c.mark.result (λ is. asking_by f.known f.table c.next_axioms_at.new.table asked mid last f.seen f.follows
    f.to_begin f.to_begin c.args.vertex
    c.args.state c.args.self.now (trail_view tests c.args.trail.now) (trail_view tests c.come.new.trail)
    (entries_view tests c.args.store.now) (entries_view tests c.put_given.new.store)
    (given_views tests c.in_ok-given.given.items) c.self.view_is c.self.invariant.0 c.next_axioms_at.ensures.grown
    (encoding_of f.known c.next_axioms_at.new.table mid c.come.ensures.encoding c.self.invariant.0.default refl)
    c.in_ok-come.ensures.came
    (subst (λ n. length c.next_axioms_at.new.table ≤ n) (sym (length-map c.come.new.asked.items tests))
    c.in_ok-come.ensures.whole) c.come.ensures.trail c.in_ok-put_given.ensures
    (ap (map length) is ∙ mark_lengths mid c.args.vertex c.args.state)
    (λ w at. given_less (problem f.known) c.next_axioms_at.new.table (IsNoted (problem f.known) f.noted)
    (IsAskedFor (problem f.known) f.table asked) (w, state_at (problem f.known) w c.args.state)
    (given_views tests c.in_ok-given.given.items) c.self.invariant.2 (c.in_ok-given.ensures.given w at))
    is refl) c.mark.ensures.ok
