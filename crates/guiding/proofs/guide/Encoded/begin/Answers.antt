use Rattle.std.proofs.Common.{◌≤◌, List, length, map, ap, sym, ◌∙◌, subst}
use Rattle.std.proofs.lemmas.List.{length-map}
use Rattle.incompatibilities.specs.Stores.{EntryView, entries_view}
use Rattle.numbering.specs.GivenViews.{given_views}
use Rattle.propagation.specs.Promises.{IsTrail}
use Rattle.propagation.specs.Trails.{trail_view}
use Rattle.numbering.specs.inner.KnownProblem.{problem}
use Rattle.guiding.specs.inner.Guides.{IsCome, IsMore, with_given}
use Rattle.guiding.proofs.Noting.{none_noted}
use Rattle.guiding.proofs.Starts.{begun}
use Rattle.guiding.proofs.guide.Encoded.begin.Goals as goal

pub invariant_of-result : goal.invariant_of-result
invariant_of-result g c =
    let tests = g.S.States.tests in (
      c.come.ensures.encoding,
      c.requires.follows,
      none_noted (problem c.args.known) c.axioms_at.new.table (map tests c.come.new.asked.items) c.new.result
          (subst (λ l. IsMore (map tests l) (map tests c.come.new.asked.items)) c.new-asked.ensures.items
          c.come.ensures.more),
    )

pub returns : goal.returns
returns g c =
    let tests = g.S.States.tests in
    let asked = map tests c.come.new.asked.items in
    let t = trail_view tests c.args.trail.now in
    let wide = trail_view tests c.come.new.trail in
    let given = given_views tests c.in_ok-given.given.items in
    begun c.args.known c.args.follows c.put.new.self c.axioms_at.new.table c.in_ok-root.root _ asked t wide
    (entries_view tests c.put_given.new.store) given c.come.ensures.encoding c.requires.follows
    c.in_ok-root.ensures.number
    (subst (λ l. IsCome (map tests l) asked t wide) c.new-asked.ensures.items c.in_ok-come.ensures.came)
    (subst (λ n. length c.axioms_at.new.table ≤ n)
    (sym (length-map c.come.new.asked.items tests)) c.in_ok-come.ensures.whole)
    c.requires.bare c.requires.steps (subst (λ (es : List EntryView).
    IsTrail es wide) c.requires.store c.come.ensures.trail) c.in_ok-given.ensures.given
    (c.in_ok-put_given.ensures ∙ ap (λ es. with_given es given) c.requires.store)
