-- A guide that asks for a pair does what the search wants of it.
use Rattle.std.proofs.Common.{◌≡◌, ℕ, zero, suc, ◌+◌, ◌-◌, ◌<◌, ◌≤◌, ◌==◌, ◌||◌, Bool, true, false, List, [], ◌∷◌, ◌++◌}
use Rattle.std.proofs.Common.{length, map, append_assoc, Contains, Option, Some, None, slice_get, refl, sym, ap}
use Rattle.std.proofs.Common.{ap₂, ◌∙◌, subst, ◌⊎◌, inl, inr, arith}
use Rattle.std.specs.Prelude.{if◌then◌else◌, option_map}
use Rattle.std.proofs.lemmas.Bool.{cases_lt, false≢true, ne_eqb}
use Rattle.std.proofs.lemmas.List.{get_or_append_left, get_or-append_right, length-append, length-map}
use Rattle.std.proofs.lemmas.Option.{none-some, same_Some, slice_get_within}
use Rattle.version_sets.specs.Sets.{Members, has, is_full}
use Rattle.version_sets.proofs.Laws.{has_below}
use Rattle.terms.specs.Terms.{TermView}
use Rattle.incompatibilities.specs.Incompatibilities as numbered
use Rattle.incompatibilities.specs.Incompatibilities.{unless_full}
use Rattle.incompatibilities.specs.Stores.{EntryView, IsAxiom, entry}
use Rattle.incompatibilities.specs.declared.origin.Origin.TheVariants.{Axiom}
use Rattle.propagation.specs.Trails.{TrailView, set_of, space_of}
use Rattle.propagation.specs.Promises.{IsTrail, LieIn}
use Rattle.model.specs.Content.{Problem}
use Rattle.model.specs.Axioms.{Term}
use Rattle.model.specs.Derivation.{states_at}
use Rattle.model.specs.Vertices.{State, Vertex, space}
use Rattle.model.specs.Causes.{Cause, is_cause, kind_of, of_root, terms_of_cause}
use Rattle.model.proofs.CauseLaws.{cause_instance}
use Rattle.numbering.specs.inner.AskedFor.{IsGivenFirst}
use Rattle.numbering.specs.inner.Assignments.{state_at}
use Rattle.numbering.specs.Numberings.{Numbering, Says, members_at}
use Rattle.numbering.specs.Pairs.{AreGiven, Given, IsGivenAt, Pair, first_pair, pairs_of}
use Rattle.numbering.proofs.Needing.{still_at}
use Rattle.numbering.proofs.ByKind.{first_named}
use Rattle.model.proofs.Lists.{in_cons, in_none, in_first, in_rest}
use Rattle.guiding.specs.inner.Searching.{AreMore, HasSpaces, IsOfNew, IsSeen}
use Rattle.guiding.specs.inner.Turning.{IsAdding}
use Rattle.guiding.specs.inner.Following as following
use Rattle.guiding.proofs.Guides.{lone_one, spaces_wider}
use Rattle.guiding.proofs.Noting.{given_less}
use Rattle.guiding.proofs.Seen.{seen_wider}
use Rattle.guiding.specs.inner.Guides.{AreAll, AreFirst, AreStored, CanAsk, EncodedView, IsAskedFor, IsAsking}
use Rattle.guiding.specs.inner.Guides.{IsOfInstance}
use Rattle.guiding.specs.inner.Guides.{IsPut, as_entry}
use Rattle.guiding.specs.inner.Guides.{asked_at, asked_of, on_trail, late_with, left_with, with_given}
use Rattle.vertices.specs.Texts.{kind_number}
use Rattle.guiding.specs.inner.Remaining.{open_of, spaces_of}
use Rattle.guiding.proofs.FirstTerms.{named_only}
use Rattle.guiding.specs.inner.Going.{added_grown, added_on, says_on}
use Rattle.guiding.proofs.Marks.{lengths_at, marked_either, marked_lengths, marked_more, marked_now}
use Rattle.guiding.proofs.Marks.{wide_either, wide_has, wide_lengths}
use Rattle.guiding.proofs.OnTrail.{asked_is, asked_stays, on_trail_at, late_comes, there_at}
use Rattle.guiding.proofs.Remaining.{open_le, open_lt}

-- ---- what is given, at its places

pub with_given_is : (es : List EntryView) (xs : List Given) → with_given es xs ≡ es ++ map as_entry xs
with_given_is es [] = same es
  where
    same : (ys : List EntryView) → ys ≡ ys ++ []
    same [] = refl
    same (y ∷ ys) = ap (λ l. y ∷ l) (same ys)
with_given_is es (x ∷ xs) =
    with_given_is (es ++ as_entry x ∷ []) xs ∙ append_assoc es (as_entry x ∷ []) (map as_entry xs)

abbrev no_entry : EntryView
no_entry = record { terms = []; origin = Axiom 0 }

-- an entry that is given is the instance of a cause
pub record IsOfCause (q : Problem) (vs : Numbering) (cs : List Cause) (e : EntryView) : Type 0 where
  pub cause : Cause
  pub listed : Contains cs cause
  pub says : Says q vs e.terms (terms_of_cause q cause)
  pub origin : e.origin ≡ Axiom (kind_number (kind_of cause))

pub given_at : (q : Problem) (vs : Numbering) (cs : List Cause) (xs : List Given) (k : ℕ) → AreGiven q vs cs xs
    → k < length (map as_entry xs) → IsOfCause q vs cs (entry (map as_entry xs) k)
given_at q vs [] [] k are lt = absurd (omega (arith, lt))
given_at q vs [] (x ∷ xs) k are lt = absurd are
given_at q vs (c ∷ cs) [] k are lt = absurd are
given_at q vs (c ∷ cs) (x ∷ xs) zero are lt =
    record { cause = c; listed = in_first c cs; says = are.1; origin = ap (λ k. Axiom (kind_number k)) are.0 }
given_at q vs (c ∷ cs) (x ∷ xs) (suc k) are lt = let r = given_at q vs cs xs k are.2 (omega (arith, lt)) in
    record { cause = r.cause; listed = in_rest c r.cause cs r.listed; says = r.says; origin = r.origin }

-- and each cause has its entry
pub given_of : (q : Problem) (vs : Numbering) (cs : List Cause) (xs : List Given) (c : Cause) → AreGiven q vs cs xs
    → Contains cs c → (k : ℕ) × (k < length (map as_entry xs)) × IsAxiom (entry (map as_entry xs) k).origin
    × Says q vs (entry (map as_entry xs) k).terms (terms_of_cause q c)
given_of q vs [] xs c are i = absurd (in_none c i)
given_of q vs (d ∷ cs) [] c are i = absurd are
given_of q vs (d ∷ cs) (x ∷ xs) c are i = elim (in_cons d c cs i) [
  | inl e ↦ (zero, omega arith, tt, subst (λ c. Says q vs x.1 (terms_of_cause q c)) e are.1)
  | inr there ↦ let r = given_of q vs cs xs c are.2 there in let lt = r.1 in (suc r.0, omega (arith, lt), r.2, r.3)
]

kept_long : (o : Option Members) (z : Members) (n : ℕ) → unless_full o ≡ Some z
    → ((x : Members) → o ≡ Some x → length x ≡ n) → length z ≡ n
kept_long None z n e long = absurd (none-some z e)
kept_long (Some x) z n e long = by (is_full x) refl e
  where
    by : (b : Bool) → is_full x ≡ b → (if b then None else Some x) ≡ Some z → length z ≡ n
    by true f e = absurd (none-some z e)
    by false f e = ap length (sym (same_Some x z e)) ∙ long x refl

mapped_long : (q : Problem) (w : Vertex) (o : Option (List State)) (x : Members)
    → option_map (members_at q w) o ≡ Some x → length x ≡ length (space q w)
mapped_long q w None x e = absurd (none-some x e)
mapped_long q w (Some ss) x e = ap length (sym (same_Some (members_at q w ss) x e))
    ∙ length-map (space q w) (Rattle.model.specs.Vertices.has_state ss)

-- an instance lies in the universes of the trail's vertices
pub said_long : (q : Problem) (vs : Numbering) (asked : List Members) (wide : TrailView)
    → map length asked ≡ spaces_of q (on_trail vs asked) → length vs ≤ length asked → HasSpaces (map length asked) wide
    → (x : List TermView) (ts : List Term) → Says q vs x ts → (u : ℕ) (z : Members) → numbered.states_at x u ≡ Some z
    → length z ≡ space_of wide u
said_long q vs asked wide spaces whole spaced x ts says u z e = by (slice_get vs u) refl
  where
    by : (o : Option Vertex) → slice_get vs u ≡ o → length z ≡ space_of wide u
    by None f = absurd (none-some z (sym (says.none u f) ∙ e))
    by (Some y) f =
        let r = on_trail_at q vs asked u spaces (let l = slice_get_within vs u y f in omega (arith, l, whole)) in
        let same : r.0 ≡ y = same_Some r.0 y (sym r.1 ∙ f) in
        let long : length z ≡ length (space q y) = kept_long (option_map (members_at q y) (states_at ts y)) z
        (length (space q y)) (sym (says.each u y f) ∙ e) (λ m h. mapped_long q y (states_at ts y) m h) in
        long ∙ ap (λ w. length (space q w)) (sym same) ∙ sym r.2 ∙ sym (lengths_at asked u) ∙ sym (spaced.each u)

pub of_all : (q : Problem) (vs : Numbering) (p : Pair) (xs : List Given) → IsGivenAt q vs p xs → IsGivenFirst q vs p xs
of_all q vs p xs is = record {
  causes = is.causes;
  there = λ c h. let r = (is.are.listed c).0 h in (r.0, subst (Contains (pairs_of c)) r.1 (first_named c));
  all = λ c t here alone. elim (alone (first_pair c) (first_named c)) [
    | inl e ↦ (is.are.listed c).1 (t, e)
    | inr x ↦ absurd x
  ];
  once = is.are.once;
  given = is.given;
}

-- in both cases those that name no other pair come, and all that come name this one
pub given_how : {v i : ℕ} {old new : EncodedView} {t wide : TrailView} {es more : List EntryView}
    (a : IsAsking v i old new t wide es more) (w : Vertex) → slice_get old.vertices v ≡ Some w
    → IsGivenFirst old.problem new.vertices (w, state_at old.problem w i) a.given
given_how {i = i} {old = old} {new = new} a w at = elim a.how [
  | inl all ↦ given_less old.problem new.vertices (IsAskedFor old.problem old.vertices old.asked) (λ r. ⊥)
      (w, state_at old.problem w i) a.given (λ r x. absurd x) (all.is w at)
  | inr first ↦ first.is w at
]

-- one of several is this one, or another thing holds of all
pub one_or_all : {X : Type 0} (x : X) (P : X → Type 0) (ys : List X)
    → ((y : X) → Contains ys y → (y ≡ x) ⊎ P y) → Contains ys x ⊎ ((y : X) → Contains ys y → P y)
one_or_all x P [] each = inr (λ y h. absurd (in_none y h))
one_or_all x P (z ∷ ys) each = elim (each z (in_first z ys)) [
  | inl e ↦ inl (subst (Contains (z ∷ ys)) e (in_first z ys))
  | inr p ↦ elim (one_or_all x P ys (λ y h. each y (in_rest z y ys h))) [
    | inl there ↦ inl (in_rest z x ys there)
    | inr all ↦ inr (λ y h. elim (in_cons z y ys h) [ inl e ↦ subst P e p | inr d ↦ all y d ])
  ]
]

-- what comes where a pair is asked for, or begun with, that may be
pub record IsAsked (v i : ℕ) (old new : EncodedView) (t wide : TrailView) (es more : List EntryView) : Type 0 where
  pub asking : IsAsking v i old new t wide es more
  pub spaced : HasSpaces (map length old.asked) t
  pub trail : IsTrail es t
  pub can : CanAsk t old.asked v i

module _ {v i : ℕ} {old new : EncodedView} {t wide : TrailView} {es more : List EntryView}
    (is : IsAsked v i old new t wide es more) where
  abbrev a : IsAsking v i old new t wide es more
  a = is.asking

  abbrev spaced : HasSpaces (map length old.asked) t
  spaced = is.spaced

  abbrev low : v < length t.sets
  low = is.can.0

  abbrev some : 0 < i
  some = is.can.1

  abbrev fresh : has (set_of old.asked v) i ≡ false
  fresh = is.can.2

  abbrev lt : i < length (set_of old.asked v)
  lt = is.can.3

  entries : more ≡ es ++ map as_entry a.given
  entries = a.stored ∙ with_given_is es a.given

  inside : v < length old.asked
  inside = omega (arith, low, spaced.vertices, length-map old.asked length)

  at_v : (w : Vertex) × (slice_get old.vertices v ≡ Some w)
      × (length (set_of old.asked v) ≡ length (space old.problem w))
  at_v = on_trail_at old.problem old.vertices old.asked v a.spaces inside

  is_given : IsGivenFirst old.problem new.vertices (at_v.0, state_at old.problem at_v.0 i) a.given
  is_given = given_how a at_v.0 at_v.1

  now_at : slice_get new.vertices v ≡ Some at_v.0
  now_at = still_at old.vertices new.vertices v at_v.0 a.grown at_v.1

  fits : i < length (space old.problem at_v.0)
  fits = subst (λ n. i < n) at_v.2 lt

  lengths : map length new.asked ≡ map length old.asked ++ a.came
  lengths = elim a.how [
    | inl all ↦ ap (map length) all.marks ∙ marked_lengths old.asked a.came v i inside lt
    | inr first ↦ ap (map length) first.marks ∙ wide_lengths old.asked a.came
  ]

  stays : (u j : ℕ) → has (set_of old.asked u) j ≡ true → has (set_of new.asked u) j ≡ true
  stays u j h = elim a.how [
    | inl all ↦ subst (λ (l : List Members). has (set_of l u) j ≡ true) (sym all.marks)
        (marked_more old.asked a.came v i inside lt u j h)
    | inr first ↦
        subst (λ (l : List Members). has (set_of l u) j ≡ true) (sym first.marks) (wide_has old.asked a.came u j h)
  ]

  or_more : (b c d : Bool) → (c ≡ true → d ≡ true) → (b || c) ≡ true → (b || d) ≡ true
  or_more true c d f e = refl
  or_more false c d f e = f e

  pub grows : AreMore (asked_of old.asked) (asked_of new.asked)
  grows u j h = or_more (j == 0) (has (set_of old.asked u) j) (has (set_of new.asked u) j) (stays u j) h

  pub asked_spaces : HasSpaces (map length new.asked) wide
  asked_spaces =
      subst (λ l. HasSpaces l wide) (sym lengths) (spaces_wider (map length old.asked) a.came t wide spaced a.wider)

  zero_asked : (j u : ℕ) → j ≡ 0 → asked_of new.asked u j ≡ true
  zero_asked j u e = subst (λ k. asked_of new.asked u k ≡ true) (sym e) refl

  pub lone : Rattle.guiding.specs.inner.Searching.LoneAsked (length t.sets) (asked_of new.asked) wide.sets
  lone u j ge within only =
      let one = lone_one (map length old.asked) a.came t wide spaced a.wider u j ge only in
      let space_is = (spaces_wider (map length old.asked) a.came t wide spaced a.wider).each u in
      let below = has_below (set_of wide.sets u) j only.1 in
      zero_asked j u (omega (arith, one, space_is, below))

  new_one : (k : ℕ) → k < length (map as_entry a.given)
      → IsOfNew (length t.sets) (asked_of old.asked) (entry (map as_entry a.given) k)
  new_one k within =
      let g = given_at old.problem new.vertices is_given.causes a.given k is_given.given within in
      let is = is_given.there g.cause g.listed in
      let first = named_only old.problem new.vertices
      (entry (map as_entry a.given) k).terms g.cause v i at_v.0 a.catalogue is.0 g.says now_at some fits is.1 in
      record {
        vertex = v;
        state = i;
        below = low;
        is_new = not_asked i some fresh;
        states = first.0;
        term = first.1;
        only = first.2;
        given = subst IsAxiom (sym g.origin) tt;
      }
    where
      not_asked : (j : ℕ) → 0 < j → has (set_of old.asked v) j ≡ false → asked_of old.asked v j ≡ false
      not_asked j some h = ap₂ (λ b d. b || d) (ne_eqb j 0 (λ e. omega (arith, some, e))) h

  lies : LieIn wide more
  lies id within u z e = elim (cases_lt id (length es)) [
    | inl less ↦ a.trail.lies id less u z
        (subst (λ (x : EntryView). numbered.states_at x.terms u ≡ Some z) (ap (λ (l : List EntryView).
        entry l id) entries ∙ get_or_append_left es (map as_entry a.given) no_entry id less) e)
    | inr ge ↦
        let g = given_at old.problem new.vertices is_given.causes a.given (id - length es) is_given.given
        (omega (arith, within, ge, ap length entries, length-append es (map as_entry a.given))) in
        said_long old.problem new.vertices new.asked wide a.spaced a.whole asked_spaces
        (entry (map as_entry a.given) (id - length es)).terms (terms_of_cause old.problem g.cause) g.says u z
        (subst (λ (x : EntryView). numbered.states_at x.terms u ≡ Some z) (ap (λ (l : List EntryView). entry l id)
        entries ∙ get_or-append_right es (map as_entry a.given) (length es) id no_entry refl ge) e)
  ]

  -- fewer pairs are open where one is asked for, and no more where one is begun with
  more_asked : (w : Vertex) (j : ℕ) → asked_at old.vertices old.asked w j ≡ true
      → asked_at new.vertices new.asked w j ≡ true
  more_asked = asked_stays old.problem old.vertices new.vertices old.asked new.asked a.grown a.numbering stays

  abbrev open_before : ℕ
  open_before = open_of old.problem (asked_at old.vertices old.asked)

  fewer_open : AreAll v i old new a.came a.given → open_of old.problem (asked_at new.vertices new.asked) < open_before
  fewer_open all =
      open_lt old.problem (asked_at old.vertices old.asked) (asked_at new.vertices new.asked) at_v.0 i more_asked
      (there_at old.problem new.vertices v at_v.0 a.numbering now_at) fits (was_at ∙ fresh)
      (asked_is old.problem new.vertices new.asked at_v.0 v i a.numbering now_at ∙ now)
    where
      was_at : asked_at old.vertices old.asked at_v.0 i ≡ has (set_of old.asked v) i
      was_at = asked_is old.problem old.vertices old.asked at_v.0 v i a.was_numbering at_v.1

      now : has (set_of new.asked v) i ≡ true
      now = subst (λ (l : List Members). has (set_of l v) i ≡ true) (sym all.marks)
          (marked_now old.asked a.came v i inside lt)

  no_more_open : open_of old.problem (asked_at new.vertices new.asked) ≤ open_before
  no_more_open = open_le old.problem (asked_at old.vertices old.asked) (asked_at new.vertices new.asked) more_asked

  fewer : left_with new < left_with old
  fewer = subst (λ p. open_of p (asked_at new.vertices new.asked) + new.to_begin < left_with old) (sym a.same)
      (elim a.how [
        | inl all ↦ let lt = fewer_open all in omega (arith, lt, all.begins)
        | inr first ↦ let le = no_more_open in omega (arith, le, first.begins)
      ])

  pub asked_adding : IsAdding (asked_of old.asked) (asked_of new.asked) (left_with old) (left_with new) (late_with old)
      (late_with new) t wide es more true
  asked_adding = record {
    spaces = a.came;
    wider = a.wider;
    came = ap (λ p. Rattle.propagation.specs.inner.Widening.sum_of a.came
        + Rattle.guiding.specs.inner.Remaining.late_of p (on_trail new.vertices new.asked)) a.same
        ∙ late_comes old.problem old.vertices new.vertices old.asked new.asked a.came a.grown a.numbering a.spaces
        a.spaced a.whole lengths;
    lone = lone;
    gained = map as_entry a.given;
    grown = entries;
    of_new = new_one;
    lies = lies;
    grows = grows;
    goes = λ e. fewer;
    stays = λ e. absurd (false≢true (sym e));
  }

  pub asked_seen : IsSeen old.seen (asked_of old.asked) t → IsSeen new.seen (asked_of new.asked) wide
  asked_seen seen = subst (λ n. IsSeen n (asked_of new.asked) wide) (sym a.seen_is)
      (seen_wider old.seen (asked_of old.asked) (asked_of new.asked) a.came t wide is.trail.sound a.wider grows lone
      seen)

  pub asked_given : following.AreGiven (IsOfInstance old.problem old.vertices) es
      → following.AreGiven (IsOfInstance new.problem new.vertices) more
  asked_given was id within ax =
      subst (λ p. IsOfInstance p new.vertices (entry more id)) (sym a.same) (elim (cases_lt id (length es)) [
        | inl less ↦
            let same : entry more id ≡ entry es id = ap (λ (l : List EntryView). entry l id) entries
            ∙ get_or_append_left es (map as_entry a.given) no_entry id less in
            let r = was id less (subst (λ (e : EntryView). IsAxiom e.origin) same ax) in
            subst (IsOfInstance old.problem new.vertices) (sym same)
            (record {
              kind = r.kind;
              terms = r.terms;
              is = r.is;
              says = says_on old.problem old.vertices new.vertices
                  a.grown a.numbering (entry es id).terms r.terms r.says;
              origin = r.origin;
            })
        | inr ge ↦
            let same : entry more id ≡ entry (map as_entry a.given) (id - length es) =
            ap (λ (l : List EntryView). entry l id) entries
            ∙ get_or-append_right es (map as_entry a.given) (length es) id no_entry refl ge in
            let g = given_at old.problem new.vertices is_given.causes a.given (id - length es) is_given.given
            (omega (arith, within, ge, ap length entries, length-append es (map as_entry a.given))) in
            let is = is_given.there g.cause g.listed in
            subst (IsOfInstance old.problem new.vertices) (sym same)
            (record {
              kind = kind_of g.cause;
              terms = terms_of_cause old.problem g.cause;
              is =
                  cause_instance old.problem g.cause is.0;
              says = g.says;
              origin = g.origin;
            })
      ])

  -- what was asked for before
  was_asked : (p : Pair) (n j : ℕ) → n < length old.asked → has (set_of old.asked n) j ≡ true
      → slice_get new.vertices n ≡ Some p.0 → state_at old.problem p.0 j ≡ p.1
      → IsAskedFor old.problem old.vertices old.asked p
  was_asked p n j low h at is =
      let o = on_trail_at old.problem old.vertices old.asked n a.spaces low in
      let same : o.0 ≡ p.0 = same_Some o.0 p.0 (sym (still_at old.vertices new.vertices n o.0 a.grown o.1) ∙ at) in
      (n, j, o.1 ∙ ap Some same, h, is)

  -- each instance of earlier pairs stays
  kept : AreStored old.problem old.vertices old.asked es → (c : Cause) → is_cause old.problem c ≡ true
      → ((p : Pair) → Contains (pairs_of c) p → IsAskedFor old.problem old.vertices old.asked p)
      → IsPut old.problem new.vertices (es ++ map as_entry a.given) c
  kept was c t all = added_on old.problem new.vertices es (map as_entry a.given) c
      (added_grown old.problem old.vertices new.vertices es c a.grown a.numbering (was.pairs c t all))

  -- and those that wait for no other pair than the one that is asked for come
  abbrev now_asked : Pair
  now_asked = (at_v.0, state_at old.problem at_v.0 i)

  here : AreAll v i old new a.came a.given → (c : Cause) → is_cause old.problem c ≡ true
      → Contains (pairs_of c) now_asked
      → ((p : Pair) → Contains (pairs_of c) p
      → (p ≡ now_asked) ⊎ IsAskedFor old.problem old.vertices old.asked p)
      → IsPut old.problem new.vertices (es ++ map as_entry a.given) c
  here all c is named rest =
      let given = all.is at_v.0 at_v.1 in
      let r = given_of old.problem new.vertices given.causes a.given c given.given (given.all c is named rest) in
      let k = r.1 in
      let same : entry (es ++ map as_entry a.given) (length es + r.0) ≡ entry (map as_entry a.given) r.0 =
      get_or-append_right es (map as_entry a.given) (length es) (length es + r.0) no_entry refl (omega arith)
      ∙ ap (entry (map as_entry a.given)) (omega arith) in (
        length es + r.0,
        omega (arith, k, length-append es (map as_entry a.given)),
        subst (λ (e : EntryView). IsAxiom e.origin) (sym same) r.2,
        subst (λ (e : EntryView).
            Says old.problem new.vertices e.terms (terms_of_cause old.problem c)) (sym same) r.3,
      )

  -- a pair that is asked for afterwards is the one, or was so
  which : AreAll v i old new a.came a.given → (p : Pair) → IsAskedFor old.problem new.vertices new.asked p
      → (p ≡ now_asked) ⊎ IsAskedFor old.problem old.vertices old.asked p
  which all p (n, j, at, h, is) = elim (marked_either old.asked a.came v i inside lt n j
      (subst (λ (l : List Members). has (set_of l n) j ≡ true) all.marks h)) [
        | inl e ↦
            let same : at_v.0 ≡ p.0 = same_Some at_v.0 p.0 (sym now_at ∙ ap (slice_get new.vertices) (sym e.0) ∙ at) in
            let state : state_at old.problem at_v.0 i ≡ p.1 =
            ap₂ (state_at old.problem) same (sym e.1) ∙ is in
            inl (λ i. (sym same i, sym state i))
        | inr r ↦ inr (was_asked p n j r.0 r.1 at is)
      ]

  pairs_all : AreAll v i old new a.came a.given → AreStored old.problem old.vertices old.asked es → (c : Cause)
      → is_cause old.problem c ≡ true
      → ((p : Pair) → Contains (pairs_of c) p → IsAskedFor old.problem new.vertices new.asked p)
      → IsPut old.problem new.vertices (es ++ map as_entry a.given) c
  pairs_all all was c t asked =
      let rest : (p : Pair) → Contains (pairs_of c) p
      → (p ≡ now_asked) ⊎ IsAskedFor old.problem old.vertices old.asked p = λ p h. which all p (asked p h) in
      elim (one_or_all now_asked (IsAskedFor old.problem old.vertices old.asked) (pairs_of c) rest) [
        | inl named ↦ here all c t named rest
        | inr before ↦ kept was c t before
      ]

  pairs_first : AreFirst v i old new a.came a.given → AreStored old.problem old.vertices old.asked es → (c : Cause)
      → is_cause old.problem c ≡ true
      → ((p : Pair) → Contains (pairs_of c) p → IsAskedFor old.problem new.vertices new.asked p)
      → IsPut old.problem new.vertices (es ++ map as_entry a.given) c
  pairs_first first was c t asked = kept was c t (λ p h.
      let f = asked p h in
      let r = wide_either old.asked a.came f.0 f.1
      (subst (λ (l : List Members). has (set_of l f.0) f.1 ≡ true) first.marks f.3) in
      was_asked p f.0 f.1 r.0 r.1 f.2 f.4)

  pub asked_stored : AreStored old.problem old.vertices old.asked es → AreStored new.problem new.vertices new.asked more
  asked_stored was = subst (λ p. AreStored p new.vertices new.asked more) (sym a.same)
      (subst (AreStored old.problem new.vertices new.asked) (sym entries) (record {
        root_is = λ t. added_on old.problem new.vertices es (map as_entry a.given) of_root
            (added_grown old.problem old.vertices new.vertices es of_root a.grown a.numbering (was.root_is t));
        pairs = elim a.how [
          | inl all ↦ pairs_all all was
          | inr first ↦ pairs_first first was
        ];
      }))
