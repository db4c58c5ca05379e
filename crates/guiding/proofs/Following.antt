-- A content that is followed: its states break no instance that comes, are within the sets of vertices that come, and
-- are what is decided.
use Rattle.std.proofs.Common.{◌≡◌, ◌≢◌, ℕ, zero, suc, ◌-◌, ◌<◌, true, false, List, [], ◌∷◌, ◌++◌, length, map, Option}
use Rattle.std.proofs.Common.{Some, None, slice_get, refl, sym, ap, ◌∙◌, subst, inl, inr, arith}
use Rattle.std.specs.List.{AllPairs}
use Rattle.std.specs.Prelude.{IsSome, unwrap_or}
use Rattle.std.proofs.lemmas.Bool.{cases_lt, false≢true}
use Rattle.std.proofs.lemmas.List.{get_or_append_left, get_or-append_right, length-append, length-map, length-replicate}
use Rattle.std.proofs.lemmas.Option.{none-some, same_Some}
use Rattle.version_sets.specs.Sets.{Members, every, has}
use Rattle.incompatibilities.specs.Incompatibilities.{Assignment, Breaks, states_at}
use Rattle.incompatibilities.specs.Stores.{EntryView, entry}
use Rattle.incompatibilities.specs.declared.origin.Origin.TheVariants.{Axiom}
use Rattle.propagation.specs.Satisfaction.{Agrees, BreaksNone}
use Rattle.propagation.specs.Trails.{TrailView, set_of, space_of}
use Rattle.propagation.specs.inner.Widening.{IsWider}
use Rattle.model.specs.inner.Assignment.{Assigns, Has}
use Rattle.model.specs.Content.{Content, Problem}
use Rattle.model.specs.Selection.{IsValidSelection}
use Rattle.model.specs.Vertices.{State, Vertex, absent, space}
use Rattle.model.specs.Order.{IsCatalogue}
use Rattle.model.proofs.Lists.{pairs_first, pairs_rest}
use Rattle.model.proofs.Places.{got_in}
use Rattle.model.specs.Causes.{kind_of, terms_of_cause}
use Rattle.model.proofs.CauseLaws.{cause_instance}
use Rattle.numbering.specs.inner.AskedFor.{IsGivenFirst}
use Rattle.numbering.specs.inner.Assignments.{IsOf, state_at}
use Rattle.numbering.specs.Numberings.{IsGrown, Numbering}
use Rattle.numbering.specs.Pairs.{Given, Pair}
use Rattle.numbering.proofs.Distinct.{states_once}
use Rattle.numbering.proofs.Needing.{still_at}
use Rattle.numbering.proofs.Sound.{breaks_none, has_assignment}
use Rattle.guiding.specs.inner.Searching.{HasSpaces}
use Rattle.guiding.specs.inner.Following.{IsLeft, IsSelection, KeepsFollowed}
use Rattle.guiding.specs.declared.turns.Answer.{Answer}
use Rattle.guiding.specs.declared.turns.Answer.TheVariants.{Selection, Unsolvable}
use Rattle.guiding.specs.inner.Guides.{CanFollow, EncodedView, Follows, GoesOn, HasBegun, HasFollowed, IsAsking}
use Rattle.guiding.specs.inner.Guides.{IsFollowed}
use Rattle.guiding.specs.inner.Guides.{as_entry, on_trail}
use Rattle.guiding.specs.inner.Remaining.{spaces_of}
use Rattle.guiding.proofs.Adding.{IsAsked, asked_spaces, given_at, given_how, with_given_is}
use Rattle.guiding.proofs.FirstTerms.{space_starts, state_is}
use Rattle.guiding.proofs.Marks.{lengths_at}
use Rattle.guiding.proofs.OnTrail.{on_trail_at}

abbrev no_entry : EntryView
no_entry = record { terms = []; origin = Axiom 0 }

-- ---- vertices that come

has_every : (n i : ℕ) → i < n → has (every n) i ≡ true
has_every zero i lt = absurd (omega (arith, lt))
has_every (suc n) zero lt = refl
has_every (suc n) (suc i) lt = has_every n i (omega (arith, lt))

has_each : (came : List ℕ) (k i : ℕ) → i < length (set_of (map every came) k) → has (set_of (map every came) k) i ≡ true
has_each [] zero i lt = absurd (omega (arith, lt))
has_each [] (suc k) i lt = absurd (omega (arith, lt))
has_each (n ∷ came) zero i lt = has_every n i (subst (λ m. i < m) (length-replicate n true) lt)
has_each (n ∷ came) (suc k) i lt = has_each came k i lt

module _ (q : Problem) (vs : Numbering) (content : Content) (x : Assignment) (of : IsOf q vs content x) where
  -- a state of a vertex is below the size of its universe
  of_below : (asked : List Members) (wide : TrailView) → map length asked ≡ spaces_of q (on_trail vs asked)
      → HasSpaces (map length asked) wide → (u : ℕ) → u < length wide.sets → x u < space_of wide u
  of_below asked wide spaces spaced u lt =
      let r = on_trail_at q vs asked u spaces (omega (arith, lt, spaced.vertices, length-map asked length)) in
      subst (λ n. x u < n) (sym (spaced.each u ∙ lengths_at asked u ∙ r.2)) (of u r.0 r.1).0

  -- vertices that come have their full sets
  pub wider_agrees : (asked : List Members) (came : List ℕ) (t wide : TrailView) → map length asked ≡ spaces_of q
      (on_trail vs asked) → HasSpaces (map length asked) wide → IsWider came t wide
      → Agrees x t.sets → Agrees x wide.sets
  wider_agrees asked came t wide spaces spaced wider agrees u lt = elim (cases_lt u (length t.sets)) [
    | inl less ↦ subst (λ s. has s (x u) ≡ true)
        (sym (ap (λ ss. set_of ss u) wider.sets ∙ get_or_append_left t.sets (map every came) [] u less)) (agrees u less)
    | inr ge ↦
        let same : set_of wide.sets u ≡ set_of (map every came) (u - length t.sets) = ap (λ ss. set_of ss u) wider.sets
        ∙ get_or-append_right t.sets (map every came) (length t.sets) u [] refl ge in
        subst (λ s. has s (x u) ≡ true) (sym same) (has_each came (u - length t.sets) (x u)
        (subst (λ s. x u < length s) same (of_below asked wide spaces spaced u lt)))
  ]

  -- instances that come aren't broken
  pub more_unbroken : (p : Pair) (es more : List EntryView) (given : List Given) → IsCatalogue q
      → IsValidSelection q content → IsGivenFirst q vs p given → more ≡ es ++ map as_entry given
      → BreaksNone x es → BreaksNone x more
  more_unbroken p es more given known valid is entries none id within broken = elim (cases_lt id (length es)) [
    | inl less ↦
        let same : entry more id ≡ entry es id = ap (λ (l : List EntryView). entry l id) entries
        ∙ get_or_append_left es (map as_entry given) no_entry id less in
        none id less (subst (λ (e : EntryView). Breaks x (states_at e.terms)) same broken)
    | inr ge ↦
        let same : entry more id ≡ entry (map as_entry given) (id - length es) =
        ap (λ (l : List EntryView). entry l id) entries
        ∙ get_or-append_right es (map as_entry given) (length es) id no_entry refl ge in
        let g = given_at q vs is.causes given (id - length es) is.given
        (omega (arith, within, ge, ap length entries, length-append es (map as_entry given))) in
        let there = is.there g.cause g.listed in
        breaks_none q vs content x of (kind_of g.cause) (terms_of_cause q g.cause)
        (entry (map as_entry given) (id - length es)).terms known valid (cause_instance q g.cause there.0) g.says
        (subst (λ (e : EntryView). Breaks x (states_at e.terms)) same broken)
  ]

-- ---- as a guide goes on

of_before : (q : Problem) (old new : Numbering) (content : Content) (x : Assignment) → IsGrown old new
    → IsOf q new content x → IsOf q old content x
of_before q old new content x grown of n v at = of n v (still_at old new n v grown at)

module _ {v i : ℕ} {old new : EncodedView} {t wide : TrailView} {es more : List EntryView}
    (a : IsAsking v i old new t wide es more) where
  follows_before : (x : Assignment) → Follows new x → Follows old x
  follows_before x f = (
    f.0,
    sym a.follows_is ∙ f.1,
    subst (λ q. IsValidSelection q f.0) a.same f.2,
    of_before
        old.problem old.vertices new.vertices f.0 x a.grown (subst (λ q. IsOf q new.vertices f.0 x) a.same f.3),
  )

  left_on : (p : Pair) → IsGivenFirst old.problem new.vertices p a.given → HasSpaces (map length new.asked) wide
      → (x : Assignment) → Follows new x → IsLeft x es t → IsLeft x more wide
  left_on p is spaced x f is_left =
      let of : IsOf old.problem new.vertices f.0 x = subst (λ q. IsOf q new.vertices f.0 x) a.same f.3 in
      let valid : IsValidSelection old.problem f.0 = subst (λ q. IsValidSelection q f.0) a.same f.2 in (
        more_unbroken old.problem new.vertices f.0 x of p es more a.given a.catalogue valid is
            (a.stored ∙ with_given_is es a.given) is_left.0,
        wider_agrees old.problem new.vertices f.0 x of new.asked a.came t wide a.spaced spaced a.wider is_left.1,
      )

pub asked_follows : {v i : ℕ} {old new : EncodedView} {t wide : TrailView} {es more : List EntryView}
    → IsAsked v i old new t wide es more → KeepsFollowed (Follows old) es t (Follows new) more wide
asked_follows {v = v} {i = i} {old = old} is x f =
    let at = on_trail_at old.problem old.vertices old.asked v is.asking.spaces
    (omega (arith, is.can.0, is.spaced.vertices, length-map old.asked length)) in (
      follows_before is.asking x f,
      left_on is.asking (at.0, state_at old.problem at.0 i) (given_how is.asking at.0 at.1) (asked_spaces is) x f,
    )

-- ---- what is decided

-- a state has one place
one_place : (ss : List State) (i j : ℕ) (s : State) → AllPairs (λ s r. s ≢ r) ss → slice_get ss i ≡ Some s
    → slice_get ss j ≡ Some s → i ≡ j
one_place [] i j s once e f = absurd (none-some s e)
one_place (r ∷ ss) zero zero s once e f = refl
one_place (r ∷ ss) zero (suc j) s once e f =
    absurd (pairs_first (λ s r. s ≢ r) r s ss once (got_in ss j s f) (same_Some r s e))
one_place (r ∷ ss) (suc i) zero s once e f =
    absurd (pairs_first (λ s r. s ≢ r) r s ss once (got_in ss i s e) (same_Some r s f))
one_place (r ∷ ss) (suc i) (suc j) s once e f = ap suc (one_place ss i j s (pairs_rest (λ s r. s ≢ r) r ss once) e f)

module _ (q : Problem) (v : Vertex) (known : IsCatalogue q) where
  same_place : (i j : ℕ) → i < length (space q v) → j < length (space q v) → state_at q v i ≡ state_at q v j → i ≡ j
  same_place i j low below e = one_place (space q v) i j (state_at q v j) (states_once q known v)
      (state_is q v i low ∙ ap Some e) (state_is q v j below)

  spacious : 0 < length (space q v)
  spacious = let s = space_starts q v in subst (λ (l : List State). 0 < length l) (sym s.1) (omega arith)

  first_absent : state_at q v 0 ≡ absent
  first_absent = let s = space_starts q v in ap (λ (l : List State). unwrap_or (slice_get l 0) absent) s.1

  -- what `state_in` says of a content
  abbrev pub IsStateIn : Content → Option ℕ → Type 0
  IsStateIn content o =
      (s : State) → Has q content v s → (n : ℕ) × (o ≡ Some n) × (n < length (space q v)) × (state_at q v n ≡ s)

  -- a state that is left, where absent isn't, has that number
  pub place_in : (content : Content) (o : Option ℕ) (left : Members) (i : ℕ) → IsStateIn content o → i < length
      (space q v) → Assigns q content v (state_at q v i) → has left i ≡ true → has left 0 ≡ false → o ≡ Some i
  place_in content o left i is low assigns here lost = elim assigns [
    | inl h ↦ let r = is (state_at q v i) h in r.1 ∙ ap Some (same_place r.0 i r.2 low r.3)
    | inr a ↦
        let none : i ≡ 0 = same_place i 0 low spacious (a.0 ∙ sym first_absent) in
        absurd (false≢true (sym lost ∙ subst (λ k. has left k ≡ true) none here))
  ]

  -- so it is the one that is decided, if it is left
  pub followed_at : (follows : Option Content) (content : Content) (left : Members) (o r : Option ℕ)
      → follows ≡ Some content → IsStateIn content o → ((i : ℕ) → o ≡ Some i → has left i ≡ true → r ≡ Some i)
      → IsFollowed q follows v left r
  followed_at follows content left o r is state taken c i e low assigns here lost =
      let same : c ≡ content = same_Some c content (sym e ∙ is) in
      taken i (place_in content o left i state low
      (subst (λ c. Assigns q c v (state_at q v i)) same assigns) here lost) here

-- a vertex with a number is decided as the content says
pub decided_by : (g : EncodedView) (n : ℕ) (v : Vertex) (left : Members) (o : Option ℕ)
    → slice_get g.vertices n ≡ Some v → IsFollowed g.problem g.follows v left o → has left 0 ≡ false → (x : Assignment)
    → Follows g x → has left (x n) ≡ true → o ≡ Some (x n)
decided_by g n v left o at followed lost x f here = let of = f.3 n v at in followed f.0 (x n) f.1 of.0 of.1 here lost

-- ---- at the end

pub selects_by : (q : Problem) (vs : Numbering) (content : Content) (a : Answer) → IsValidSelection q content
    → ((x : Assignment) → IsOf q vs content x → IsSelection a) → IsSelection a
selects_by q vs content Selection valid each = tt
selects_by q vs content (Unsolvable id) valid each = has_assignment q vs content valid each

pub followed_by : (q : Problem) (follows : Option Content) (old g : EncodedView) (t0 t : TrailView)
    (es0 es : List EntryView) (a : Answer) → HasBegun q follows old t0 es0 → GoesOn old g
    → ((x : Assignment) → Follows g x → Follows old x × (IsLeft x es0 t0 → IsLeft x es t))
    → ((x : Assignment) → Follows g x → IsLeft x es0 t0 → IsSelection a) → HasFollowed g t a
followed_by q follows old g t0 t es0 es a begun goes keeps selects = record {
  can_follow = can;
  selects = selected g.follows refl;
  agrees = λ x f. let k = keeps x f in (k.1 (begun.is_left x k.0)).1;
}
  where
    can : CanFollow g.problem g.follows
    can = subst (λ p. CanFollow p g.follows) (sym goes.problem)
        (subst (CanFollow old.problem) (sym goes.follows_is) begun.can_follow)

    selected : (o : Option Content) → g.follows ≡ o → IsSome o → IsSelection a
    selected None e some = absurd (false≢true some)
    selected (Some content) e some =
        let valid : IsValidSelection g.problem content = subst (CanFollow g.problem) e can in
        selects_by g.problem g.vertices content a valid
        (λ x of. let f : Follows g x = (content, e, valid, of) in selects x f (begun.is_left x (keeps x f).0))
