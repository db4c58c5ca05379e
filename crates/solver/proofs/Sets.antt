-- Sets of places of a space, as states.
use Rattle.std.proofs.Common.{◌≡◌, ◌≢◌, ℕ, ◌<◌, length, List, [], ◌∷◌, ◌++◌, map, Bool, true, false, ◌&&◌, ◌||◌}
use Rattle.std.proofs.Common.{Contains, Some, slice_get, inl, inr, refl, sym, ap, ap₂, ◌∙◌, true≢false, arith}
use Rattle.std.specs.List.{AllPairs, list_all}
use Rattle.std.proofs.lemmas.List.{length-map}
use Rattle.std.proofs.lemmas.Bool.{or_cases, and_parts, and_from, false_from_ne_true}
use Rattle.std.proofs.lemmas.List.Folds.{list_any-append}
use Rattle.std.proofs.lemmas.Option.{slice_get_within}
use Rattle.version_sets.specs.Sets.{Members, has, is_full, join, meet}
use Rattle.version_sets.proofs.Laws.{has-join, has-meet, length-join, length-meet}
use Rattle.model.specs.Vertices.{State, same_state, has_state}
use Rattle.model.specs.Derivation.{SameStates, both}
use Rattle.model.proofs.Same.{state-same}
use Rattle.model.proofs.Lists.{in_first, in_rest, pairs_first, pairs_rest, to_filter}
use Rattle.model.proofs.Spaces.{state_in, state_from}
use Rattle.model.proofs.Combined.{both_left, both_right}
use Rattle.model.proofs.Tests.{one_test}
use Rattle.model.proofs.Places.{place_of}
use Rattle.numbering.proofs.Places.{has_map}
use Rattle.solver.specs.inner.Decoding.{states_in}

map_there : {X Y : Type 0} (f g : X → Y) (xs : List X) → ((x : X) → Contains xs x → f x ≡ g x) → map f xs ≡ map g xs
map_there f g [] h = refl
map_there f g (x ∷ xs) h = ap₂ (λ y ys. y ∷ ys) (h x (in_first x xs)) (map_there f g xs (λ y c. h y (in_rest x y xs c)))

all_map : {X : Type 0} (f : X → Bool) (xs : List X) → list_all (λ b. b) (map f xs) ≡ list_all f xs
all_map f [] = refl
all_map f (x ∷ xs) = ap (λ b. f x && b) (all_map f xs)

-- the states of a set are among all
states_of : (ss : List State) (m : Members) (s : State) → has_state (states_in ss m) s ≡ true → has_state ss s ≡ true
states_of [] m s h = h
states_of (r ∷ ss) [] s h = absurd (true≢false (sym h))
states_of (r ∷ ss) (true ∷ m) s h = by (λ h. states_of ss m s h) (same_state s r) refl h
  where
    by : (has_state (states_in ss m) s ≡ true → has_state ss s ≡ true) → (b : Bool) → same_state s r ≡ b
        → (b || has_state (states_in ss m) s) ≡ true → (same_state s r || has_state ss s) ≡ true
    by rest true e h = ap (λ b. b || has_state ss s) e
    by rest false e h = ap (λ b. b || has_state ss s) e ∙ rest h
states_of (r ∷ ss) (false ∷ m) s h = by (states_of ss m s h) (same_state s r) refl
  where
    by : (has_state ss s ≡ true) → (b : Bool) → same_state s r ≡ b → (same_state s r || has_state ss s) ≡ true
    by rest true e = ap (λ b. b || has_state ss s) e
    by rest false e = ap (λ b. b || has_state ss s) e ∙ rest

pub has_both : (a b : List State) (s : State) → has_state (both a b) s ≡ (has_state a s && has_state b s)
has_both a b s = one_test (has_state (both a b) s) (has_state a s && has_state b s)
    (λ h. and_from (has_state a s) (has_state b s) (both_left a b s h) (both_right a b s h))
    (λ h. let p = and_parts (has_state a s) (has_state b s) h in
    state_in (both a b) s (to_filter (has_state b) a s (state_from a s p.0) p.1))

not_same : (s r : State) → s ≢ r → same_state s r ≡ false
not_same s r n = false_from_ne_true (same_state s r) (λ h. n (state-same s r h))

-- the tests of the states of a set are the set
pub tests_back : (ss : List State) (m : Members) → AllPairs (λ s r. s ≢ r) ss → length m ≡ length ss
    → map (has_state (states_in ss m)) ss ≡ m
tests_back [] [] once e = refl
tests_back [] (b ∷ m) once e = absurd (omega (arith, e))
tests_back (s ∷ ss) [] once e = absurd (omega (arith, e))
tests_back (s ∷ ss) (true ∷ m) once e =
    let here : has_state (s ∷ states_in ss m) s ≡ true =
    state_in (s ∷ states_in ss m) s (in_first s (states_in ss m)) in
    ap₂ (λ x xs. x ∷ xs) here
    (map_there (has_state (s ∷ states_in ss m)) (has_state (states_in ss m)) ss
    (λ r c. ap (λ b. b || has_state (states_in ss m) r)
    (not_same r s (λ k. pairs_first (λ s r. s ≢ r) s r ss once c (sym k))))
    ∙ tests_back ss m (pairs_rest (λ s r. s ≢ r) s ss once) (omega (arith, e)))
tests_back (s ∷ ss) (false ∷ m) once e =
    let rest : AllPairs (λ s r. s ≢ r) ss = pairs_rest (λ s r. s ≢ r) s ss once in
    ap₂ (λ x xs. x ∷ xs)
    (false_from_ne_true (has_state (states_in ss m) s)
    (λ h. pairs_first (λ s r. s ≢ r) s s ss once (state_from ss s (states_of ss m s h)) refl))
    (tests_back ss m rest (omega (arith, e)))

-- the places of a set have just its states
pub at_place : (ss : List State) (m : Members) → AllPairs (λ s r. s ≢ r) ss → length m ≡ length ss → (i : ℕ) (s : State)
    → slice_get ss i ≡ Some s
    → has_state (states_in ss m) s ≡ has m i
at_place ss m once e i s got =
    sym (has_map (has_state (states_in ss m)) ss i s got) ∙ ap (λ x. has x i) (tests_back ss m once e)

abbrev pub Within : List State → List State → Type 0
Within ss us = (s : State) → has_state us s ≡ true → has_state ss s ≡ true

-- two lists of some states are one set if they agree at each place
pub same_in : (ss a b : List State) → Within ss a → Within ss b
    → ((i : ℕ) (s : State) → slice_get ss i ≡ Some s → has_state a s ≡ has_state b s) → SameStates a b
same_in ss a b in_a in_b h s = by (has_state ss s) refl
  where
    by : (t : Bool) → has_state ss s ≡ t → has_state a s ≡ has_state b s
    by true e = let r = place_of ss s (state_from ss s e) in h r.0 s r.1
    by false e =
        false_from_ne_true (has_state a s) (λ x. true≢false (sym (in_a s x) ∙ e))
        ∙ sym (false_from_ne_true (has_state b s) (λ x. true≢false (sym (in_b s x) ∙ e)))

module _ (ss : List State) (once : AllPairs (λ s r. s ≢ r) ss) where
  below : (m : Members) → length m ≡ length ss → (i : ℕ) (s : State) → slice_get ss i ≡ Some s → i < length m
  below m e i s got = let lt : i < length ss = slice_get_within ss i s got in omega (arith, lt, e)

  -- the union, and the intersection
  pub joined : (x y : Members) → length x ≡ length ss → length y ≡ length ss
      → SameStates (states_in ss (join x y)) (states_in ss x ++ states_in ss y)
  joined x y e f =
      same_in ss (states_in ss (join x y)) (states_in ss x ++ states_in ss y) (states_of ss (join x y)) within each
    where
      split : (s : State) → has_state (states_in ss x ++ states_in ss y) s
          ≡ (has_state (states_in ss x) s || has_state (states_in ss y) s)
      split s = list_any-append (same_state s) (states_in ss x) (states_in ss y)

      within : Within ss (states_in ss x ++ states_in ss y)
      within s h = elim (or_cases (has_state (states_in ss x) s) (has_state (states_in ss y) s) (sym (split s) ∙ h))
          [ inl a ↦ states_of ss x s a | inr b ↦ states_of ss y s b ]

      each : (i : ℕ) (s : State) → slice_get ss i ≡ Some s
          → has_state (states_in ss (join x y)) s ≡ has_state (states_in ss x ++ states_in ss y) s
      each i s got =
          at_place ss (join x y) once (length-join x y (e ∙ sym f) ∙ e) i s got
          ∙ has-join x y i (below x e i s got) (below y f i s got)
          ∙ ap₂ (λ a b. a || b) (sym (at_place ss x once e i s got))
          (sym (at_place ss y once f i s got)) ∙ sym (split s)

  pub met : (x y : Members) → length x ≡ length ss → length y ≡ length ss
      → SameStates (states_in ss (meet x y)) (both (states_in ss x) (states_in ss y))
  met x y e f = same_in ss (states_in ss (meet x y)) (both (states_in ss x) (states_in ss y))
      (states_of ss (meet x y)) within each
    where
      within : Within ss (both (states_in ss x) (states_in ss y))
      within s h = states_of ss x s (both_left (states_in ss x) (states_in ss y) s h)

      split : (s : State) → has_state (both (states_in ss x) (states_in ss y)) s
          ≡ (has_state (states_in ss x) s && has_state (states_in ss y) s)
      split s = has_both (states_in ss x) (states_in ss y) s

      each : (i : ℕ) (s : State) → slice_get ss i ≡ Some s
          → has_state (states_in ss (meet x y)) s ≡ has_state (both (states_in ss x) (states_in ss y)) s
      each i s got =
          at_place ss (meet x y) once (length-meet x y (e ∙ sym f) ∙ e) i s got
          ∙ has-meet x y i (below x e i s got) (below y f i s got)
          ∙ ap₂ (λ a b. a && b) (sym (at_place ss x once e i s got))
          (sym (at_place ss y once f i s got)) ∙ sym (split s)

  -- states that were tested are the states again
  pub tested : (us : List State) → Within ss us → SameStates (states_in ss (map (has_state us) ss)) us
  tested us within = same_in ss (states_in ss (map (has_state us) ss)) us (states_of ss (map (has_state us) ss)) within
      (λ i s got. at_place ss (map (has_state us) ss) once (length-map ss (has_state us)) i s got
      ∙ has_map (has_state us) ss i s got)

  -- the set is full just where it has all states
  pub full_states : (m : Members) (us : List State) → length m ≡ length ss → SameStates (states_in ss m) us
      → list_all (has_state us) ss ≡ is_full m
  full_states m us e same = sym (all_map (has_state us) ss) ∙ ap (λ x. list_all (λ b. b) x)
      (sym (map_there (has_state (states_in ss m)) (has_state us) ss (λ s c. same s)) ∙ tests_back ss m once e)

pub full_tests : (us ss : List State) → is_full (map (has_state us) ss) ≡ list_all (has_state us) ss
full_tests us ss = all_map (has_state us) ss
