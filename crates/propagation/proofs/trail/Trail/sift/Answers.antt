use Rattle.std.proofs.Common.{rules, ◌≡◌, ◌∷◌, [], ◌++◌, List, ℕ, true, ap, subst, sym, ◌∙◌, arith}
use Rattle.version_sets.specs.Sets.{Members}
use Rattle.terms.specs.Terms.{TermView, terms_view}
use Rattle.incompatibilities.specs.Incompatibilities.{LiesIn, states_at}
use Rattle.incompatibilities.specs.Stores.{EntryView, entries_view, terms_of}
use Rattle.propagation.specs.Satisfaction.{IsStill}
use Rattle.propagation.specs.Trails.{TrailView, space_of, trail_view}
use Rattle.propagation.specs.inner.Units.{LiesOn}
use Rattle.propagation.specs.declared.trail.Trail.{Trail}
use Rattle.propagation.proofs.Stillness.{IsSift, sift_frail, sift_still}
use Rattle.propagation.proofs.trail.Trail.sift.Goals.{then-not-is_still+in_ok-push, else-not-is_still}
use Rattle.propagation.proofs.trail.Trail.sift.Goals as goal

pub is_still-requires : goal.is_still-requires
is_still-requires g c =
    let tests = g.S.States.tests in
    let t = trail_view tests c.args.self.now in
    subst (λ (ts : List TermView). LiesOn t ts) (sym (ap (terms_view tests) c.terms.ensures.terms)) (record {
      is = c.terms.ensures.is;
      lies = subst (λ (ts : List TermView). LiesIn (space_of t) (states_at ts)) (sym c.get.ensures.value)
          (c.requires.trail.lies c.new.result (omega (arith, c.new.ensures, c.requires.new)));
    })

-- what the trail is after either branch
abbrev After : {S : Type 0} → (S → Members) → List EntryView → TrailView → ℕ → Trail S → Type 0
After tests es t seen s = IsSift es t (trail_view tests s) seen s.sifted.frail.items

pub returns-clause-sifted : goal.returns-clause-sifted
returns-clause-sifted g c =
    let tests = g.S.States.tests in
    let es = entries_view tests c.args.store.now in
    let t = trail_view tests c.args.self.now in
    elim c.if-not-is_still.branch [
      | then-not-is_still+in_ok-push w ↦
          let pushed : w.push.new.self.items ≡ t.sifted.frail ++ t.sifted.seen ∷ [] = search rules in
          subst (After tests es t c.args.seen) (sym w.self-is)
          (sift_frail es t c.args.seen w.push.new.self.items c.requires.trail c.requires.new c.requires.next pushed)
      | else-not-is_still w ↦
          let yes : c.is_still.result ≡ true = search rules in
          let still : IsStill t.sets (states_at (terms_view tests c.terms.result.now)) = rw yes at c.is_still.ensures in
          let here : IsStill t.sets (terms_of es c.new.result) =
          subst (λ (ts : List TermView). IsStill t.sets (states_at ts))
          (ap (terms_view tests) c.terms.ensures.terms ∙ c.get.ensures.value) still in
          subst (After tests es t c.args.seen) (sym w.self-is)
          (sift_still es t c.args.seen c.requires.trail c.requires.new c.requires.next
          (subst (λ id. IsStill t.sets (terms_of es id)) c.new.ensures here))
    ]
