-- The instances of pairs, put one pair after another.
use Rattle.std.proofs.Common.{◌≡◌, ◌≢◌, ◌<◌, ◌≤◌, ℕ, zero, suc, List, [], ◌∷◌, ◌++◌, length, map, take, take_all, true}
use Rattle.std.proofs.Common.{false, is_some, nat_lt, Contains, Some, slice_get, refl, sym, ap, ◌∙◌}
use Rattle.std.proofs.Common.{subst, inl, inr, arith}
use Rattle.std.specs.Prelude.{option_and_then, option_map, unwrap_or}
use Rattle.std.specs.List.{AllPairs, flat_map}
use Rattle.std.proofs.lemmas.List.{append_assoc, map-append, append-nil}
use Rattle.std.proofs.lemmas.List.Kept.{AllPairs-cons}
use Rattle.std.proofs.lemmas.Option.{none-some, same_Some, slice_get_past}
use Rattle.model.specs.Content.{Problem}
use Rattle.model.specs.Order.{IsCatalogue}
use Rattle.model.specs.Vertices.{State, Vertex, absent, root, space}
use Rattle.model.proofs.Lists.{in_none, in_cons, in_first, in_rest, in_map, to_map, pairs_first, pairs_get, pairs_none}
use Rattle.model.proofs.Lists.{pairs_rest}
use Rattle.model.proofs.Flat.{to_flat, in_flat}
use Rattle.model.proofs.Mapped.{flat_last}
use Rattle.model.proofs.Places.{some_at}
use Rattle.model.proofs.Members.{all_in}
use Rattle.model.specs.Causes.{Cause, is_cause}
use Rattle.std.proofs.lemmas.List.Elements.{Contains-append_cases, Contains-append_right, Contains-append_left}
use Rattle.std.proofs.lemmas.List.Elements.{Contains-push_cases}
use Rattle.numbering.specs.inner.Assignments.{state_at}
use Rattle.numbering.specs.inner.CausesAt.{causes_at, with_causes}
use Rattle.numbering.specs.Numberings.{IsNumbering, IsWhole, Numbering}
use Rattle.numbering.specs.Pairs.{AreCausesAt, AreGiven, Given, IsGivenAt, Pair, first_pair}
use Rattle.numbering.proofs.ByKind.{first_there}
use Rattle.numbering.proofs.CausesLaws.{at_exact}
use Rattle.numbering.proofs.Distinct.{states_once}
use Rattle.encoding.specs.Encodings.{IsGivenIf, beside, pair_at}
use Rattle.encoding.specs.Everywhere.{ComesOnce, IsGivenAll, IsGivenFor, all_pairs, pairs_of}

-- ---- lists

pairs_append : {X : Type 0} (xs ys : List X) → AllPairs (λ a b. a ≢ b) xs → AllPairs (λ a b. a ≢ b) ys
    → ((x y : X) → Contains xs x → Contains ys y → x ≢ y) → AllPairs (λ a b. a ≢ b) (xs ++ ys)
pairs_append [] ys a b apart = b
pairs_append {X} (x ∷ xs) ys a b apart =
    AllPairs-cons (λ a b. a ≢ b) x (xs ++ ys) (all_in (λ w. x ≢ w) (xs ++ ys) first)
    (pairs_append xs ys (pairs_rest (λ a b. a ≢ b) x xs a) b (λ z y c d. apart z y (in_rest x z xs c) d))
  where
    first : (w : X) → Contains (xs ++ ys) w → x ≢ w
    first w c = elim
        (Contains-append_cases xs ys w c) [
          | inl d ↦ pairs_first (λ a b. a ≢ b) x w xs a d
          | inr d ↦ apart x w (in_first x xs) d
        ]

given_append : (q : Problem) (vs : Numbering) (cs ds : List Cause) (xs ys : List Given) → AreGiven q vs cs xs
    → AreGiven q vs ds ys → AreGiven q vs (cs ++ ds) (xs ++ ys)
given_append q vs [] ds [] ys a b = b
given_append q vs [] ds (x ∷ xs) ys a b = absurd a
given_append q vs (c ∷ cs) ds [] ys a b = absurd a
given_append q vs (c ∷ cs) ds (x ∷ xs) ys a b = (a.0, a.1, given_append q vs cs ds xs ys a.2 b)

-- an element of the first of a list stands before that place
pub taken_at : {X : Type 0} (xs : List X) (n : ℕ) (x : X) → Contains (take n xs) x
    → (i : ℕ) × (i < n) × (slice_get xs i ≡ Some x)
taken_at [] zero x c = absurd (in_none x c)
taken_at [] (suc n) x c = absurd (in_none x c)
taken_at (y ∷ xs) zero x c = absurd (in_none x c)
taken_at (y ∷ xs) (suc n) x c = elim (in_cons y x (take n xs) c) [
  | inl e ↦ (zero, omega arith, ap Some e)
  | inr d ↦ let r = taken_at xs n x d in let lt = r.1 in (suc r.0, omega (arith, lt), r.2)
]

pub take_none : {X : Type 0} (xs : List X) → take 0 xs ≡ []
take_none [] = refl
take_none (x ∷ xs) = refl

-- in a list where each stands once, none of the first is that which comes next
pub not_before : {X : Type 0} (xs : List X) (n : ℕ) (x : X) → AllPairs (λ a b. a ≢ b) xs → slice_get xs n ≡ Some x
    → Contains (take n xs) x → ⊥
not_before xs n x once at c = let r = taken_at xs n x c in pairs_get (λ a b. a ≢ b) xs r.0 n x x once r.1 r.2 at refl

pub taken_next : {X : Type 0} (xs : List X) (n : ℕ) (x : X) → slice_get xs n ≡ Some x
    → take (suc n) xs ≡ take n xs ++ x ∷ []
taken_next [] n x e = absurd (none-some x e)
taken_next (y ∷ xs) zero x e = ap (λ z. z ∷ []) (same_Some y x e)
taken_next (y ∷ xs) (suc n) x e = ap (λ l. y ∷ l) (taken_next xs n x e)

module _ (q : Problem) where
  -- ---- nothing is given for no pairs

  pub given_none : (vs : Numbering) → IsGivenFor q vs [] []
  given_none vs = record {
    causes = [];
    listed = λ c. (λ h. absurd (in_none c h), λ h. absurd (in_none (first_pair c) h.1));
    once = pairs_none (λ a b. a ≢ b);
    given = tt;
  }

  pub no_pairs : (vs all : Numbering) → IsGivenFor q vs (all_pairs q (take 0 all)) []
  no_pairs vs [] = given_none vs
  no_pairs vs (v ∷ all) = given_none vs

  -- those of one more pair
  pub given_pair : (vs : Numbering) (ps : List Pair) (p : Pair) (xs ys : List Given) → IsGivenFor q vs ps xs
      → IsGivenAt q vs p ys → (Contains ps p → ⊥) → IsGivenFor q vs (ps ++ p ∷ []) (xs ++ ys)
  given_pair vs ps p xs ys a b fresh = record {
    causes = a.causes ++ b.causes;
    listed = λ c. (there c, back c);
    once = pairs_append a.causes b.causes a.once (b.are).once
        (λ x y c d e. fresh (subst (Contains ps) (ap first_pair e ∙ (((b.are).listed y).0 d).1) ((a.listed x).0 c).1));
    given = given_append q vs a.causes b.causes xs ys a.given b.given;
  }
    where
      there : (c : Cause) → Contains (a.causes ++ b.causes) c
          → (is_cause q c ≡ true) × Contains (ps ++ p ∷ []) (first_pair c)
      there c h = elim (Contains-append_cases a.causes b.causes c h) [
        | inl d ↦ let r = (a.listed c).0 d in (r.0, Contains-append_left ps (p ∷ []) (first_pair c) r.1)
        | inr d ↦ let r = ((b.are).listed c).0 d in (
          r.0,
          Contains-append_right ps (p ∷ []) (first_pair c) (subst (Contains (p ∷ [])) (sym r.1) (in_first p [])),
        )
      ]

      back : (c : Cause) → (is_cause q c ≡ true) × Contains (ps ++ p ∷ []) (first_pair c)
          → Contains (a.causes ++ b.causes) c
      back c (t, h) = elim (Contains-push_cases ps p (first_pair c) h) [
        | inl d ↦ Contains-append_left a.causes b.causes c ((a.listed c).1 (t, d))
        | inr e ↦ Contains-append_right a.causes b.causes c (((b.are).listed c).1 (t, sym e))
      ]

  -- ---- the states of a vertex, one after another

  pub states_none : (v : Vertex) (ps : List Pair) → ps ++ map (λ s. (v, s)) (take 0 (space q v)) ≡ ps
  states_none v ps = ap (λ l. ps ++ map (λ s. (v, s)) l) (take_none (space q v)) ∙ append-nil ps

  pub state_next : (v : Vertex) (n : ℕ) → n < length (space q v) → slice_get (space q v) n ≡ Some (state_at q v n)
  state_next v n lt = let r =
      some_at (space q v) n lt in r.1 ∙ ap (λ o. Some (unwrap_or o absent)) (sym r.1)

  pub states_next : (v : Vertex) (ps : List Pair) (n : ℕ) → n < length (space q v)
      → (ps ++ map (λ s. (v, s)) (take n (space q v))) ++ (v, state_at q v n) ∷ []
      ≡ ps ++ map (λ s. (v, s)) (take (suc n) (space q v))
  states_next v ps n lt =
      let ss = space q v in
      let at = state_next v n lt in
      append_assoc ps (map (λ s. (v, s)) (take n ss)) ((v, state_at q v n) ∷ [])
      ∙ ap (λ l. ps ++ l) (sym (map-append (λ s. (v, s)) (take n ss) (state_at q v n ∷ []))
      ∙ ap (map (λ s. (v, s))) (sym (taken_next ss n (state_at q v n) at)))

  pub state_fresh : IsCatalogue q → (v : Vertex) (ps : List Pair) (n : ℕ) → n < length (space q v)
      → ((s : State) → Contains ps (v, s) → ⊥)
      → Contains (ps ++ map (λ s. (v, s)) (take n (space q v))) (v, state_at q v n) → ⊥
  state_fresh known v ps n lt fresh c =
      elim (Contains-append_cases ps (map (λ s. (v, s)) (take n (space q v))) (v, state_at q v n) c) [
        | inl d ↦ fresh (state_at q v n) d
        | inr d ↦ let r = in_map (λ s. (v, s)) (take n (space q v)) (v, state_at q v n) d in
            let same : r.0 ≡ state_at q v n = ap (λ (p : Pair). p.1) r.2 in
            not_before (space q v) n (state_at q v n) (states_once q known v) (state_next v n lt)
            (subst (Contains (take n (space q v))) same r.1)
      ]

  -- ---- the vertices, one after another

  pub vertex_fresh : (vs : Numbering) (n : ℕ) (v : Vertex) → IsNumbering q vs → slice_get vs n ≡ Some v → (s : State)
      → Contains (all_pairs q (take n vs)) (v, s) → ⊥
  vertex_fresh vs n v ok at s c =
      let r = in_flat (pairs_of q) (take n vs) (v, s) c in
      let m = in_map (λ s. (r.0, s)) (space q r.0) (v, s) r.2 in
      let same : r.0 ≡ v = ap (λ (p : Pair). p.0) m.2 in
      not_before vs n v ok.once at (subst (Contains (take n vs)) same r.1)

  pub vertices_next : (vs : Numbering) (n : ℕ) (v : Vertex) → slice_get vs n ≡ Some v
      → all_pairs q (take n vs) ++ pairs_of q v ≡ all_pairs q (take (suc n) vs)
  vertices_next vs n v at =
      sym (flat_last (pairs_of q) (take n vs) v) ∙ ap (flat_map (pairs_of q)) (sym (taken_next vs n v at))

  -- each cause has its first term at one of all pairs
  pub given_all : (vs : Numbering) (xs : List Given) → IsWhole q vs → IsGivenFor q vs (all_pairs q vs) xs
      → IsGivenAll q vs xs
  given_all vs xs whole given = record {
    causes = given.causes;
    are = record {
      listed = λ c. (λ h. ((given.listed c).0 h).0, λ t. (given.listed c).1 (t, pair_there c t));
      once = given.once;
    };
    given = given.given;
  }
    where
      pair_there : (c : Cause) → is_cause q c ≡ true → Contains (all_pairs q vs) (first_pair c)
      pair_there c t =
          let p = first_pair c in
          let r = first_there q c t in
          to_flat (pairs_of q) vs p.0 p (whole p.0 r.0) (to_map (λ s. (p.0, s)) (space q p.0) p.1 r.1)

  -- ---- the pairs as they are gone through

  abbrev pub vertex_at : Numbering → ℕ → Vertex
  vertex_at vs n = unwrap_or (slice_get vs n) root

  -- those of the vertices before the number n, and those of that one with the states before i
  abbrev pub so_far : Numbering → ℕ → ℕ → List Pair
  so_far vs n i = all_pairs q (take n vs) ++ map (λ s. (vertex_at vs n, s)) (take i (space q (vertex_at vs n)))

  pub vertex_there : (vs : Numbering) (n : ℕ) → n < length vs → slice_get vs n ≡ Some (vertex_at vs n)
  vertex_there vs n lt =
      let r = some_at vs n lt in r.1 ∙ ap (λ o. Some (unwrap_or o root)) (sym r.1)

  pub begins : (vs : Numbering) (n : ℕ) (xs : List Given) → IsGivenFor q vs (all_pairs q (take n vs)) xs
      → IsGivenFor q vs (so_far vs n 0) xs
  begins vs n xs given = subst (λ l. IsGivenFor q vs l xs)
      (sym (states_none (vertex_at vs n) (all_pairs q (take n vs)))) given

  pub ends : (vs : Numbering) (n i : ℕ) (xs : List Given) → n < length vs → length (space q (vertex_at vs n)) ≤ i
      → IsGivenFor q vs (so_far vs n i) xs → IsGivenFor q vs (all_pairs q (take (suc n) vs)) xs
  ends vs n i xs lt le given =
      let v = vertex_at vs n in
      subst (λ l. IsGivenFor q vs l xs) (vertices_next vs n v (vertex_there vs n lt))
      (subst (λ ss. IsGivenFor q vs (all_pairs q (take n vs) ++ map (λ s. (v, s)) ss) xs) (take_all i (space q v) le)
      given)

  -- the pair of numbers that are there
  pub pair_there : (vs : Numbering) (n s : ℕ) (v : Vertex) → slice_get vs n ≡ Some v → s < length (space q v)
      → pair_at (record { problem = q; vertices = vs }) n s ≡ Some (v, state_at q v s)
  pair_there vs n s v at lt =
      ap (λ o. option_and_then (λ v. option_map (beside v) (slice_get (space q v) s)) o) at
      ∙ ap (option_map (beside v)) (state_next v s lt)

  pub next : (vs : Numbering) (n i : ℕ) (xs ys : List Given) → IsCatalogue q → IsNumbering q vs → n < length vs
      → i < length (space q (vertex_at vs n)) → IsGivenFor q vs (so_far vs n i) xs
      → IsGivenIf q vs (pair_at (record { problem = q; vertices = vs }) n i) ys
      → IsGivenFor q vs (so_far vs n (suc i)) (xs ++ ys)
  next vs n i xs ys known ok lt less given more =
      let v = vertex_at vs n in
      let at = vertex_there vs n lt in
      let ps = all_pairs q (take n vs) in
      subst (λ l. IsGivenFor q vs l (xs ++ ys)) (states_next v ps i less)
      (given_pair vs (so_far vs n i) (v, state_at q v i) xs ys given
      (subst (λ o. IsGivenIf q vs o ys) (pair_there vs n i v at less) more)
      (state_fresh known v ps i less (vertex_fresh vs n v ok at)))

  -- ---- whether there is a pair of numbers, by the size of the space

  pub no_size : (vs : Numbering) (n s : ℕ) → length vs ≤ n
      → false ≡ is_some (pair_at (record { problem = q; vertices = vs }) n s)
  no_size vs n s le = ap (λ o. is_some (option_and_then
      (λ v. option_map (beside v) (slice_get (space q v) s)) o)) (sym (slice_get_past vs n le))

  pub one_size : (vs : Numbering) (n s k : ℕ) → n < length vs
      → ((v : Vertex) → slice_get vs n ≡ Some v → k ≡ length (space q v))
      → nat_lt s k ≡ is_some (pair_at (record { problem = q; vertices = vs }) n s)
  one_size vs n s k lt is =
      let v = vertex_at vs n in
      let at = vertex_there vs n lt in
      ap (nat_lt s) (is v at) ∙ within v (space q v) s ∙ ap (λ o. is_some (option_and_then
      (λ v. option_map (beside v) (slice_get (space q v) s)) o)) (sym at)
    where
      within : (v : Vertex) (ss : List State) (s : ℕ)
          → nat_lt s (length ss) ≡ is_some (option_map (beside v) (slice_get ss s))
      within v [] s = let f : nat_lt s 0 ≡ false = grind arith in f
      within v (r ∷ ss) zero = let f : nat_lt 0 (suc (length ss)) ≡ true = grind arith in f
      within v (r ∷ ss) (suc s) = let f : nat_lt (suc s) (suc (length ss)) ≡ nat_lt s (length ss) =
          grind arith in f ∙ within v ss s

  -- ---- each cause at one pair

  pub come_once : (c : Cause) → is_cause q c ≡ true → ComesOnce q c
  come_once c t =
      let p = first_pair c in
      let there = first_there q c t in
      let cs = with_causes [] (causes_at q p.0 p.1) in
      let are : AreCausesAt q p cs = at_exact q p.0 p.1 there.0 there.1 cs refl in
      record {
        pair = p;
        is = there;
        comes = (cs, are, (are.listed c).1 (t, refl));
        only = λ r h. sym (((h.1).listed c).0 h.2).1;
      }
