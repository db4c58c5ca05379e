-- The steps of the resolution of a conflict: what each combination keeps, and what the last one promises.
use Rattle.std.proofs.Common.{◌≡◌, ℕ, suc, ◌<◌, ◌≤◌, Bool, true, false, List, [], ◌∷◌, ◌++◌, length}
use Rattle.std.proofs.Common.{Option, Some, None, refl, sym, ap, ◌∙◌, subst, arith, inl, inr}
use Rattle.std.specs.Option.{is_some}
use Rattle.std.proofs.lemmas.Bool.{cases_eq, cases_lt}
use Rattle.version_sets.specs.Sets.{Members, inside, size}
use Rattle.version_sets.proofs.Laws.{size-le}
use Rattle.terms.specs.Terms.{TermView}
use Rattle.incompatibilities.specs.Incompatibilities.{IsCombination, LiesIn, Terms, states_at, HoldsAt}
use Rattle.incompatibilities.specs.Stores.{ComesOut, EntryView, entry, terms_of, touches}
use Rattle.incompatibilities.specs.inner.Chains.{ChainView}
use Rattle.incompatibilities.specs.declared.chain.Link.{Link}
use Rattle.incompatibilities.proofs.Broken.{lies_combined}
use Rattle.incompatibilities.proofs.Storing.{out_push}
use Rattle.propagation.specs.Satisfaction.{IsOneOpen, OthersHold, Sat}
use Rattle.propagation.specs.Trails.{TrailView, end_sets, set_of, sets_at, space_of}
use Rattle.propagation.specs.Promises.{ForcedFits, IsSatisfied, IsSound, IsTrail}
use Rattle.propagation.specs.declared.satisfying.Satisfier.{Satisfier}
use Rattle.propagation.proofs.Back.{sets_now}
use Rattle.propagation.proofs.Combining.{combined_others}
use Rattle.propagation.proofs.LevelLemmas.{place_low}
use Rattle.propagation.proofs.Places.{end_is_place, holds_at_ends, kept, kept_le, past_end, sat_later, shrinks, some_at}
use Rattle.propagation.proofs.SetLemmas.{meets_of}
use Rattle.conflicts.specs.Resolving.{IsFound, IsHeld, IsLesson, IsLone, IsNext, IsPlaced, IsSatisfierOf, Quiet}
use Rattle.conflicts.specs.Resolving.{place_of, places_left}

pub level_low : (es : List EntryView) (t : TrailView) (ts : List TermView) (s : Satisfier) → IsSound t
    → IsSatisfierOf es t ts s → s.level ≤ t.level
level_low es t ts s sound found = let e =
    found.satisfied.level in omega (arith, e, place_low 0 t.level s.place t.steps sound.levels found.satisfied.within)

-- where nothing is satisfied at the end of a lower level, the satisfier stands at the trail's own
level_top : (es : List EntryView) (t : TrailView) (ts : List TermView) (s : Satisfier) → IsSound t → IsLone t ts
    → IsSatisfierOf es t ts s → s.before ≡ s.level → s.before ≡ t.level
level_top es t ts s sound lone found e = elim (cases_lt s.level t.level) [
  | inl lt ↦ absurd (lone s.level lt (found.opens.held e))
  | inr le ↦ omega (arith, e, le, level_low es t ts s sound found)
]

-- the satisfier's vertex has a term: its assignment changes no other vertex, and made the difference
term_there : (es : List EntryView) (t : TrailView) (ts : List TermView) (s : Satisfier) → IsSound t
    → IsSatisfierOf es t ts s → (o : Option Members) → states_at ts s.vertex ≡ o → is_some o ≡ true
term_there es t ts s sound found (Some x) e = refl
term_there es t ts s sound found None e =
    absurd (found.satisfied.first s.place (omega arith) (λ u. elim (cases_eq u s.vertex) [
      | inl same ↦ subst (λ w. HoldsAt (set_of (sets_at t s.place) w) (states_at ts w)) (sym same)
          (subst (HoldsAt (set_of (sets_at t s.place) s.vertex)) (sym e) tt)
      | inr ne ↦ subst (λ x. HoldsAt x (states_at ts u)) ((sound.places s.place found.satisfied.within).there u
          (λ at. ne (at ∙ sym found.satisfied.vertex))) (found.satisfied.after u)
    ]))

-- before the satisfier's level an incompatibility was satisfied at no level's end
pub before_level : (t : TrailView) (ts : List TermView) (s : Satisfier) → IsSatisfied t (states_at ts) s → (l : ℕ)
    → l < s.level → ¬ Sat (end_sets t l) (states_at ts)
before_level t ts s found l lt now = elim (cases_lt s.place (kept l t.steps)) [
  | inl less ↦ absurd (let low = past_end l s.place t.steps less in let is = found.level in
      omega (arith, lt, low, is))
  | inr le ↦ found.first (kept l t.steps) le
      (subst (λ (ss : List Members). Sat ss (states_at ts)) (end_is_place t l) now)
]

-- the resolution begins with an entry that is satisfied
pub start_lies : (es : List EntryView) (t : TrailView) (id : ℕ) (ts : List TermView) → IsTrail es t → id < length es
    → ts ≡ (entry es id).terms → LiesIn (space_of t) (states_at ts)
start_lies es t id ts trail within same =
    subst (λ (us : List TermView). LiesIn (space_of t) (states_at us)) (sym same) (trail.lies id within)

-- the chain that is an entry alone
pub held_alone : (es : List EntryView) (t : TrailView) (id : ℕ) (ts : List TermView) (chain : ChainView) → IsTrail es t
    → id < length es → ts ≡ (entry es id).terms → chain.first ≡ id → chain.links ≡ [] → IsHeld es t ts chain
held_alone es t id ts chain trail within same first none = record {
  first = subst (λ n. n < length es) (sym first) within;
  comes_out = subst (λ ls. ComesOut es (length es) (entry es chain.first).terms ls ts) (sym none)
      (same ∙ ap (λ n. (entry es n).terms) (sym first));
  lies = start_lies es t id ts trail within same;
}

pub start_is : (es : List EntryView) (t : TrailView) (id : ℕ) (ts : List TermView) (chain : ChainView)
    (found : Option Satisfier) → IsTrail es t → id < length es → ts ≡ (entry es id).terms → chain.first ≡ id
    → chain.links ≡ [] → (Quiet es t t.level → IsLone t ts)
    → ((xs : List EntryView) → IsTrail xs t → IsFound xs t ts found) → IsLesson es t ts chain found
start_is es t id ts chain found trail within same first none lone f = record {
  held = held_alone es t id ts chain trail within same first none;
  some = inl none;
  lone = lone;
  here = f;
}

-- an entry of a store in which none is satisfied at an earlier level's end isn't
pub quiet_lone : (es : List EntryView) (t : TrailView) (id : ℕ) (ts : List TermView) → id < length es
    → ts ≡ (entry es id).terms → Quiet es t t.level → IsLone t ts
quiet_lone es t id ts within same quiet l lt sat =
    quiet l lt id within (subst (λ (us : List TermView). Sat (end_sets t l) (states_at us)) same sat)

-- a satisfier that was found stands by the others
pub placed : (es : List EntryView) (t : TrailView) (ts : List TermView) (found : Option Satisfier)
    → IsFound es t ts found
    → IsPlaced found
placed es t ts None f = tt
placed es t ts (Some s) f = (
  f.satisfier.opens.not_later,
  λ none. subst (ForcedFits es t ts s) none f.satisfier.cause,
)

-- one combination more
module _ (es : List EntryView) (t : TrailView) (ts us : List TermView) (chain : ChainView) (l : Link)
    (made : List TermView) (trail : IsTrail es t) (held : IsHeld es t ts chain) (within : l.with < length es)
    (same : us ≡ (entry es l.with).terms) (out : IsCombination l.vertex ts us made) where
  is : IsCombination l.vertex ts (entry es l.with).terms made
  is = subst (λ (xs : List TermView). IsCombination l.vertex ts xs made) same out

  pub lies_with : LiesIn (space_of t) (states_at made)
  lies_with = lies_combined l.vertex (states_at ts) (terms_of es l.with) (states_at made) is.each (space_of t) held.lies
      (trail.lies l.with within)

  pub held_with : (new : ChainView) → touches l.vertex ts ≡ true → new.first ≡ chain.first
      → new.links ≡ chain.links ++ l ∷ [] → IsHeld es t made new
  held_with new term first more = record {
    first = subst (λ n. n < length es) (sym first) held.first;
    comes_out = subst (λ n. ComesOut es (length es) (entry es n).terms new.links made) (sym first)
        (subst (λ ls. ComesOut es (length es) (entry es chain.first).terms ls made) (sym more)
        (out_push es (length es) (entry es chain.first).terms chain.links ts l made
        held.comes_out (record { earlier = within; term = term; is = is })));
    lies = lies_with;
  }

-- where it goes on, the satisfier's vertex has a term, and there are places
pub goes_on : (es : List EntryView) (t : TrailView) (ts : List TermView) (chain : ChainView) (found : Option Satisfier)
    (l : Link) → IsTrail es t → IsLesson es t ts chain found → IsNext found (Some l)
    → (touches l.vertex ts ≡ true) × (0 < length t.steps) × (places_left found ≡ suc (place_of found))
goes_on es t ts chain None l trail lesson next = absurd next
goes_on es t ts chain (Some s) l trail lesson next =
    let f = (lesson.here es trail).satisfier in
    let w = f.satisfied.within in (
      subst (λ v. touches v ts ≡ true) (sym next.2) (term_there es t ts s trail.sound f (states_at ts s.vertex) refl),
      omega (arith, w),
      refl,
    )

pub cause_within : (es : List EntryView) (t : TrailView) (ts : List TermView) (chain : ChainView)
    (found : Option Satisfier) (l : Link) → IsTrail es t → IsLesson es t ts chain found → IsNext found (Some l)
    → l.with < length es
cause_within es t ts chain None l trail lesson next = absurd next
cause_within es t ts chain (Some s) l trail lesson next =
    (subst (ForcedFits es t ts s) next.1 (lesson.here es trail).satisfier.cause).0.within

-- the combination with what forced the satisfier
pub record IsCombined (t : TrailView) (lone : Type 0) (made : List TermView) (places : ℕ) : Type 0 where
  pub sat : Sat t.sets (states_at made)
  pub still : lone → IsLone t made
  pub near : (es : List EntryView) (found : Option Satisfier) → IsFound es t made found → places_left found < places

pub combined_is : (es : List EntryView) (t : TrailView) (ts us : List TermView) (chain : ChainView)
    (found : Option Satisfier) (l : Link) (made : List TermView) → IsTrail es t → IsLesson es t ts chain found
    → IsNext found (Some l) → us ≡ (entry es l.with).terms → IsCombination l.vertex ts us made
    → IsCombined t (Quiet es t t.level) made (places_left found)
combined_is es t ts us chain None l made trail lesson next same out = absurd next
combined_is es t ts us chain (Some s) l made trail lesson next same out = record {
  sat = subst (λ (ss : List Members). Sat ss (states_at made)) (sets_now t)
      (sat_later t trail.sound (states_at made) s.place (length t.steps)
      (let w = here.satisfied.within in omega (arith, w)) (omega arith) sat_before);
  -- were the combination satisfied at the end of a lower level, the other terms of what it was made of would be
  -- satisfied there
  still = λ quiet n lt sat. here.satisfied.others_no n
      (let top = level_top es t ts s trail.sound (lesson.lone quiet) here next.0 in omega (arith, lt, top))
      (combined_others (space_of t) (end_sets t n) s.vertex ts (entry es l.with).terms made (lesson.here es trail).is
      lesson.held.lies (trail.lies l.with forced.0.within) is sat);
  near = near;
}
  where
    here : IsSatisfierOf es t ts s
    here = (lesson.here es trail).satisfier

    forced : ForcedFits es t ts s (Some l.with)
    forced = subst (ForcedFits es t ts s) next.1 here.cause

    is : IsCombination s.vertex ts (entry es l.with).terms made
    is = subst (λ v. IsCombination v ts (entry es l.with).terms made) next.2
        (subst (λ (xs : List TermView). IsCombination l.vertex ts xs made) same out)

    sat_before : Sat (sets_at t s.place) (states_at made)
    sat_before = forced.1 made is

    -- its own satisfier stands earlier on the trail
    near : (xs : List EntryView) (o : Option Satisfier) → IsFound xs t made o → places_left o < suc s.place
    near xs None f = omega arith
    near xs (Some r) f = elim (cases_lt r.place s.place) [
      | inl lt ↦ omega (arith, lt)
      | inr le ↦ absurd (f.satisfier.satisfied.first s.place le sat_before)
    ]

-- at the level before, the term at the satisfier's vertex is open
pub open_by : (sets : List Members) (f : Terms) (s : Satisfier) (after : Members) (o : Option Members) → f s.vertex ≡ o
    → HoldsAt after o → inside after (set_of sets s.vertex) ≡ true → 0 < size (set_of sets s.vertex)
    → OthersHold sets f s.vertex → (Sat sets f → ⊥) → (x : Members) × IsOneOpen sets f s.vertex x
open_by sets f s after None is h shrinks some others not = absurd (not (λ u. elim (cases_eq u s.vertex) [
  | inl e ↦ subst (λ w. HoldsAt (set_of sets w) (f w)) (sym e) (subst (HoldsAt (set_of sets s.vertex)) (sym is) tt)
  | inr ne ↦ others u ne
]))
open_by sets f s after (Some x) is h shrinks some others not = (
  x,
  record {
    term = is;
    common = meets_of after (set_of sets s.vertex) x h.0 shrinks h.1;
    apart = apart (inside (set_of sets s.vertex) x) refl;
    others = others;
  },
)
  where
    apart : (b : Bool) → inside (set_of sets s.vertex) x ≡ b → inside (set_of sets s.vertex) x ≡ false
    apart true e = absurd (not (λ u. elim (cases_eq u s.vertex) [
      | inl at ↦ subst (λ w. HoldsAt (set_of sets w) (f w)) (sym at)
          (subst (HoldsAt (set_of sets s.vertex)) (sym is) (some, e))
      | inr ne ↦ others u ne
    ]))
    apart false e = e

-- so it is from the level where the others came to be satisfied up to the satisfier's
pub open_at : (es : List EntryView) (t : TrailView) (ts : List TermView) (s : Satisfier) → IsSound t
    → IsSatisfierOf es t ts s → (l : ℕ) → s.before ≤ l → l < s.level
    → (x : Members) × IsOneOpen (end_sets t l) (states_at ts) s.vertex x
open_at es t ts s sound found l ge lt = open_by (end_sets t l) (states_at ts) s
    (set_of (sets_at t (suc s.place)) s.vertex) (states_at ts s.vertex) refl (found.satisfied.after s.vertex)
    (subst (λ (ss : List Members). inside (set_of (sets_at t (suc s.place)) s.vertex) (set_of ss s.vertex) ≡ true)
    (sym (end_is_place t l)) (shrinks t sound s.vertex (kept l t.steps) (suc s.place) earlier found.satisfied.within))
    (subst (λ (ss : List Members). 0 < size (set_of ss s.vertex)) (sym (end_is_place t l))
    (some_at t sound s.vertex (kept l t.steps) (kept_le l t.steps) some))
    (λ u ne. holds_at_ends t sound u s.before l ge (states_at ts u) (found.satisfied.others_at u ne))
    (before_level t ts s found.satisfied l lt)
  where
    earlier : kept l t.steps ≤ suc s.place
    earlier = elim (cases_lt s.place (kept l t.steps)) [
      | inl less ↦ absurd (let low = past_end l s.place t.steps less in let is = found.satisfied.level in
          omega (arith, lt, low, is))
      | inr le ↦ omega (arith, le)
    ]

    some : 0 < space_of t s.vertex
    some = let here = found.opens.some in
        omega (arith, here, size-le (set_of (end_sets t s.before) s.vertex), found.opens.ends)

-- no lower level has one open term: at the satisfier's vertex, the others would be satisfied before the level where
-- they came to be; elsewhere, all would be satisfied at that level, below the trail's own
pub least_is : (es : List EntryView) (t : TrailView) (ts : List TermView) (s : Satisfier) → IsSound t
    → IsSatisfierOf es t ts s → s.before < s.level → (l : ℕ) → l < s.before → (v : ℕ) (x : Members)
    → IsOneOpen (end_sets t l) (states_at ts) v x → ⊥
least_is es t ts s sound found low l lt v x one = elim (cases_eq v s.vertex) [
  | inl e ↦ found.satisfied.others_no l lt (subst (OthersHold (end_sets t l) (states_at ts)) e one.others)
  | inr ne ↦ before_level t ts s found.satisfied s.before low (λ u. elim (cases_eq u s.vertex) [
    | inl e ↦ subst (λ w. HoldsAt (set_of (end_sets t s.before) w) (states_at ts w)) (sym e) (holds_at_ends t sound
        s.vertex l s.before (omega (arith, lt)) (states_at ts s.vertex) (one.others s.vertex (λ at. ne (sym at))))
    | inr apart ↦ found.satisfied.others_at u apart
  ])
]
