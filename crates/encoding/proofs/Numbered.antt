-- Vertices that get numbers one after another, until every vertex has one.
use Rattle.std.proofs.Common.{◌≡◌, ◌≢◌, ◌+◌, ℕ, suc, List, [], ◌∷◌, ◌++◌, length, map, Bool, true, false, cond, nat_lt}
use Rattle.std.proofs.Common.{Contains, Some, None, refl, sym, ap, ◌∙◌, subst, inl, inr, arith}
use Rattle.std.specs.Prelude.{option_map, position}
use Rattle.std.specs.List.{AllPairs, list_any}
use Rattle.std.proofs.lemmas.List.Recursion.{is_position_or_len}
use Rattle.std.proofs.lemmas.List.{append-nil, append_assoc}
use Rattle.std.proofs.lemmas.List.Elements.{Contains-append_left, Contains-append_right}
use Rattle.model.specs.Content.{Problem}
use Rattle.model.specs.Order.{IsCatalogue}
use Rattle.model.specs.Vertices.{Vertex, same_vertex}
use Rattle.model.specs.Axioms.{IsVertex}
use Rattle.model.proofs.Same.{vertex-same}
use Rattle.model.proofs.Lists.{any_of, in_cons, in_first, in_none, in_rest, pairs_first, pairs_none, pairs_rest}
use Rattle.model.proofs.Members.{each_at}
use Rattle.numbering.specs.Numberings.{IsGrown, IsNumbering, IsWhole, Numbering, number_in, with_vertex}
use Rattle.numbering.proofs.Needing.{grows_on, numbering_put, put_grows}
use Rattle.encoding.specs.Encodings.{AreVertices, numbered}
use Rattle.encoding.specs.inner.Everything.{named}
use Rattle.encoding.proofs.Everything.{all_named, named_are}

still_in : (vs new : Numbering) (v : Vertex) → IsGrown vs new → Contains vs v → Contains new v
still_in vs new v grown c = subst (λ w. Contains w v) (sym grown.1) (Contains-append_left vs grown.0 v c)

has_put : (vs : Numbering) (v : Vertex) → Contains (with_vertex vs v) v
has_put vs v = by (list_any (same_vertex v) vs) refl
  where
    by : (b : Bool) → list_any (same_vertex v) vs ≡ b → Contains (cond b vs (vs ++ v ∷ [])) v
    by true e = let r = any_of (same_vertex v) vs e in subst (Contains vs) (sym (vertex-same v r.0 r.2)) r.1
    by false e = Contains-append_right vs (v ∷ []) v (in_first v [])

grows : (vs : Numbering) (ws : List Vertex) → IsGrown vs (numbered vs ws)
grows vs [] = ([], sym (append-nil vs))
grows vs (w ∷ ws) = grows_on vs (with_vertex vs w) (numbered (with_vertex vs w) ws) (put_grows vs w)
    (grows (with_vertex vs w) ws)

are_in : (vs : Numbering) (ws : List Vertex) (v : Vertex) → Contains ws v → Contains (numbered vs ws) v
are_in vs [] v c = absurd (in_none v c)
are_in vs (w ∷ ws) v c = elim (in_cons w v ws c) [
  | inl e ↦ subst (Contains (numbered (with_vertex vs w) ws)) e (still_in (with_vertex vs w)
      (numbered (with_vertex vs w) ws) w (grows (with_vertex vs w) ws) (has_put vs w))
  | inr d ↦ are_in (with_vertex vs w) ws v d
]

stays_numbering : (q : Problem) (vs : Numbering) (ws : List Vertex) → IsNumbering q vs
    → ((v : Vertex) → Contains ws v → IsVertex q v) → IsNumbering q (numbered vs ws)
stays_numbering q vs [] ok are = ok
stays_numbering q vs (w ∷ ws) ok are = stays_numbering q (with_vertex vs w) ws
    (numbering_put q vs w ok (are w (in_first w ws))) (λ v c. are v (in_rest w v ws c))

pub every_vertex : (q : Problem) → IsCatalogue q → AreVertices q (numbered [] (named q))
every_vertex q known = record {
  numbering = stays_numbering q [] (named q) (record { once = pairs_none (λ v w. v ≢ w); there = tt }) (named_are q);
  whole = λ v is. are_in [] (named q) v (all_named q known v is);
}

-- ---- those that are there once are numbered as they are

apart : {X : Type 0} (R : X → X → Type 0) (xs ys : List X) (x y : X) → AllPairs R (xs ++ ys) → Contains xs x
    → Contains ys y → R x y
apart R [] ys x y h c d = absurd (in_none x c)
apart {X} R (z ∷ xs) ys x y h c d = elim (in_cons z x xs c) [
  | inl e ↦ subst (λ (w : X). R w y) e (pairs_first R z y (xs ++ ys) h (Contains-append_right xs ys y d))
  | inr i ↦ apart R xs ys x y (pairs_rest R z (xs ++ ys) h) i d
]

fresh : (vs : Numbering) (w : Vertex) (ws : List Vertex) → AllPairs (λ a b. a ≢ b) (vs ++ w ∷ ws)
    → with_vertex vs w ≡ vs ++ w ∷ []
fresh vs w ws once = by (list_any (same_vertex w) vs) refl
  where
    by : (b : Bool) → list_any (same_vertex w) vs ≡ b → cond b vs (vs ++ w ∷ []) ≡ vs ++ w ∷ []
    by true e = let r = any_of (same_vertex w) vs e in
        absurd (apart (λ a b. a ≢ b) vs (w ∷ ws) r.0 w once r.1 (in_first w ws) (sym (vertex-same w r.0 r.2)))
    by false e = refl

as_they_are : (vs : Numbering) (ws : List Vertex) → AllPairs (λ a b. a ≢ b) (vs ++ ws) → numbered vs ws ≡ vs ++ ws
as_they_are vs [] once = sym (append-nil vs)
as_they_are vs (w ∷ ws) once =
    ap (λ l. numbered l ws) (fresh vs w ws once)
    ∙ as_they_are (vs ++ w ∷ []) ws
    (subst (AllPairs (λ a b. a ≢ b)) (sym (append_assoc vs (w ∷ []) ws)) once)
    ∙ append_assoc vs (w ∷ []) ws

pub same_again : (q : Problem) (vs : Numbering) → IsNumbering q vs → numbered [] vs ≡ vs
same_again q vs ok = as_they_are [] vs ok.once

-- where every vertex has a number no other comes
pub none_comes : (q : Problem) (vs new : Numbering) → IsWhole q vs → IsNumbering q new → IsGrown vs new → new ≡ vs
none_comes q vs new whole ok (more, e) = e ∙ none more (subst (IsNumbering q) e ok)
  where
    none : (more : List Vertex) → IsNumbering q (vs ++ more) → vs ++ more ≡ vs
    none [] ok = append-nil vs
    none (w ∷ ws) ok =
        let there : Contains (vs ++ w ∷ ws) w = Contains-append_right vs (w ∷ ws) w (in_first w ws) in
        absurd (apart (λ a b. a ≢ b) vs (w ∷ ws) w w ok.once
        (whole w (each_at (λ v. IsVertex q v) (vs ++ w ∷ ws) w ok.there there)) (in_first w ws) refl)

-- ---- found by looking through them

module _ {X : Type 0} (f : X → Vertex) (v : Vertex) where
  abbrev same : X → Bool
  same x = same_vertex v (f x)

  abbrev place : List X → ℕ
  place [] = 0
  place (x ∷ xs) = cond (same x) 0 (1 + place xs)

  at_place : (xs : List X)
      → cond (nat_lt (place xs) (length xs)) (Some (place xs)) None ≡ number_in (map f xs) v
  at_place [] = let e : nat_lt 0 0 ≡ false = grind arith in ap (λ b. cond b (Some 0) None) e
  at_place (x ∷ xs) = by (same x) (at_place xs)
    where
      n : ℕ
      n = place xs

      under : (b : Bool) → cond b (Some (1 + n)) None ≡ option_map suc (cond b (Some n) None)
      under true = let e : 1 + n ≡ suc n = omega arith in ap Some e
      under false = refl

      by : (b : Bool) → cond (nat_lt n (length xs)) (Some n) None ≡ number_in (map f xs) v
          → cond (nat_lt (cond b 0 (1 + n)) (suc (length xs))) (Some (cond b 0 (1 + n))) None
          ≡ cond b (Some 0) (option_map suc (number_in (map f xs) v))
      by true rest = let e : nat_lt 0 (suc (length xs)) ≡ true = grind arith in ap (λ b. cond b (Some 0) None) e
      by false rest = let e : nat_lt (1 + n) (suc (length xs)) ≡ nat_lt n (length xs) = grind arith in
          ap (λ b. cond b (Some (1 + n)) None) e ∙ under (nat_lt n (length xs)) ∙ ap (option_map suc) rest

  pub number_is : (xs : List X) → position same xs ≡ number_in (map f xs) v
  number_is xs = ap (λ n. cond (nat_lt n (length xs)) (Some n) None)
      (sym (is_position_or_len place same refl (λ x xs. refl) xs)) ∙ at_place xs
