use Rattle.std.proofs.Common.{◌<◌, ◌≤◌, length, map, refl, sym, subst, arith}
use Rattle.std.proofs.lemmas.List.{length-map}
use Rattle.incompatibilities.specs.Stores.{entries_view}
use Rattle.numbering.specs.GivenViews.{given_views}
use Rattle.numbering.specs.inner.KnownProblem.{problem}
use Rattle.propagation.specs.Trails.{trail_view}
use Rattle.guiding.specs.inner.Guides.{EncodedView}
use Rattle.guiding.proofs.Asked.{beginning_by, state_below}
use Rattle.guiding.proofs.Noting.{encoding_grown, no_more, noted_more, noted_same}
use Rattle.guiding.proofs.guide.Encoded.begin_with.Goals as goal

pub first_axioms_at-requires-clause-state : goal.first_axioms_at-requires-clause-state
first_axioms_at-requires-clause-state g c = state_below c.self.inside.known c.self.inside.table
    (map g.S.States.tests c.self.inside.asked.items) c.args.self.now c.self.inside.seen c.self.inside.follows
    c.self.inside.to_begin c.args.vertex c.args.state c.self.invariant.0 c.self.view_is c.requires.vertex
    c.requires.state

pub invariant_of-self : goal.invariant_of-self
invariant_of-self g c =
    let f = c.self.inside in
    let asked = map g.S.States.tests f.asked.items in (
      encoding_grown f.known f.table c.first_axioms_at.new.table asked c.self.invariant.0
          c.first_axioms_at.ensures.grown c.first_axioms_at.ensures.numbering,
      c.self.invariant.1,
      noted_more (problem f.known) f.table c.first_axioms_at.new.table asked asked f.noted f.noted
          c.self.invariant.0.spaces c.first_axioms_at.ensures.grown (no_more asked)
          (noted_same f.noted) c.self.invariant.2,
    )

pub invariant_of-self-in_err-come : goal.invariant_of-self-in_err-come
invariant_of-self-in_err-come g c =
    let tests = g.S.States.tests in
    let f = c.self.inside in (
      c.come.ensures.encoding,
      c.self.invariant.1,
      noted_more (problem f.known) f.table c.first_axioms_at.new.table (map tests f.asked.items)
          (map tests c.come.new.asked.items) f.noted f.noted c.self.invariant.0.spaces
          c.first_axioms_at.ensures.grown c.come.ensures.more (noted_same f.noted) c.self.invariant.2,
    )

pub invariant_of-self-in_err-put_given : goal.invariant_of-self-in_err-put_given
invariant_of-self-in_err-put_given g c =
    let tests = g.S.States.tests in
    let f = c.self.inside in (
      c.come.ensures.encoding,
      c.self.invariant.1,
      noted_more (problem f.known) f.table c.first_axioms_at.new.table (map tests f.asked.items)
          (map tests c.come.new.asked.items) f.noted f.noted c.self.invariant.0.spaces
          c.first_axioms_at.ensures.grown c.come.ensures.more (noted_same f.noted) c.self.invariant.2,
    )

pub invariant_of-self-2 : goal.invariant_of-self-2
invariant_of-self-2 g c =
    let tests = g.S.States.tests in
    let f = c.self.inside in (
      c.come.ensures.encoding,
      c.self.invariant.1,
      noted_more (problem f.known) f.table c.first_axioms_at.new.table (map tests f.asked.items)
          (map tests c.come.new.asked.items) f.noted f.noted c.self.invariant.0.spaces
          c.first_axioms_at.ensures.grown c.come.ensures.more (noted_same f.noted) c.self.invariant.2,
    )

pub returns : goal.returns
returns g c =
    let tests = g.S.States.tests in
    let f = c.self.inside in
    let asked = map tests f.asked.items in
    let mid = map tests c.come.new.asked.items in
    let given = given_views tests c.in_ok-given.given.items in
    let table = c.first_axioms_at.new.table in
    beginning_by f.known f.table table asked mid mid f.seen f.follows f.to_begin _ c.args.vertex c.args.state
    c.args.self.now (trail_view tests c.args.trail.now) (trail_view tests c.come.new.trail)
    (entries_view tests c.args.store.now) (entries_view tests c.put_given.new.store) given c.self.view_is
    c.self.invariant.0 c.first_axioms_at.ensures.grown c.come.ensures.encoding c.in_ok-come.ensures.came
    (subst (λ n. length table ≤ n) (sym (length-map c.come.new.asked.items tests)) c.in_ok-come.ensures.whole)
    c.come.ensures.trail c.in_ok-put_given.ensures refl
    c.in_ok-given.ensures.given refl
    (let some = subst (λ (o : EncodedView). 0 < o.to_begin) (sym c.self.view_is) c.requires.some in omega (arith, some))
