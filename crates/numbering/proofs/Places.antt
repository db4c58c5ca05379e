-- Places of lists: numbers of vertices, and sets of states as tests of a space.
use Rattle.std.proofs.Common.{◌≡◌, ◌≢◌, ℕ, zero, suc, List, [], ◌∷◌, map, Bool, true, false, cond}
use Rattle.std.proofs.Common.{Option, Some, None, slice_get, refl, sym, ap, ◌∙◌, subst}
use Rattle.std.specs.Prelude.{option_map}
use Rattle.std.specs.List.{AllPairs, list_all}
use Rattle.std.proofs.lemmas.Option.{none-some, same_Some}
use Rattle.version_sets.specs.Sets.{has}
use Rattle.model.specs.Vertices.{Vertex, same_vertex}
use Rattle.model.proofs.Same.{both, vertex-same, vertex-refl, vertex-other}
use Rattle.model.proofs.Lists.{pairs_first, pairs_rest}
use Rattle.model.proofs.Places.{got_in}
use Rattle.numbering.specs.Numberings.{Numbering, number_in}

module _ {X : Type 0} where
  pub has_map : (f : X → Bool) (xs : List X) (i : ℕ) (x : X) → slice_get xs i ≡ Some x → has (map f xs) i ≡ f x
  has_map f [] i x e = absurd (none-some x e)
  has_map f (y ∷ xs) zero x e = ap f (same_Some y x e)
  has_map f (y ∷ xs) (suc i) x e = has_map f xs i x e

  pub full_at : (f : X → Bool) (xs : List X) (i : ℕ) (x : X) → list_all (λ b. b) (map f xs) ≡ true
      → slice_get xs i ≡ Some x → f x ≡ true
  full_at f [] i x h e = absurd (none-some x e)
  full_at f (y ∷ xs) zero x h e = ap f (sym (same_Some y x e)) ∙ (both (f y) (list_all (λ b. b) (map f xs)) h).0
  full_at f (y ∷ xs) (suc i) x h e = full_at f xs i x (both (f y) (list_all (λ b. b) (map f xs)) h).1 e

-- a number is that of the vertex at its place
pub number_at : (vs : Numbering) (v : Vertex) (n : ℕ) → number_in vs v ≡ Some n → slice_get vs n ≡ Some v
number_at [] v n e = absurd (none-some n e)
number_at (w ∷ ws) v n e = by (number_at ws v) (same_vertex v w) refl e
  where
    under : ((m : ℕ) → number_in ws v ≡ Some m → slice_get ws m ≡ Some v) → (o : Option ℕ) → number_in ws v ≡ o
        → option_map suc o ≡ Some n → slice_get (w ∷ ws) n ≡ Some v
    under rest None f e = absurd (none-some n e)
    under rest (Some m) f e = subst (λ k. slice_get (w ∷ ws) k ≡ Some v) (same_Some (suc m) n e) (rest m f)

    by : ((m : ℕ) → number_in ws v ≡ Some m → slice_get ws m ≡ Some v) → (b : Bool) → same_vertex v w ≡ b
        → cond b (Some 0) (option_map suc (number_in ws v)) ≡ Some n → slice_get (w ∷ ws) n ≡ Some v
    by rest true s e = subst (λ k. slice_get (w ∷ ws) k ≡ Some v) (same_Some 0 n e) (ap Some (sym (vertex-same v w s)))
    by rest false s e = under rest (number_in ws v) refl e

-- and back, where each vertex has one number
pub number_of : (vs : Numbering) (v : Vertex) (n : ℕ) → AllPairs (λ v w. v ≢ w) vs → slice_get vs n ≡ Some v
    → number_in vs v ≡ Some n
number_of [] v n once e = absurd (none-some v e)
number_of (w ∷ ws) v zero once e = ap (λ b. cond b (Some 0) (option_map suc (number_in ws v)))
    (subst (λ x. same_vertex x w ≡ true) (same_Some w v e) (vertex-refl w))
number_of (w ∷ ws) v (suc n) once e =
    let apart : same_vertex v w ≡ false =
    vertex-other v w (λ s. pairs_first (λ v w. v ≢ w) w v ws once (got_in ws n v e) (sym s)) in
    ap (λ b. cond b (Some 0) (option_map suc (number_in ws v))) apart
    ∙ ap (option_map suc) (number_of ws v n (pairs_rest (λ v w. v ≢ w) w ws once) e)
