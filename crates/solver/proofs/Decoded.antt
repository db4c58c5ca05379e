-- What decoded terms say of each vertex.
use Rattle.std.proofs.Common.{◌≡◌, ◌≢◌, ℕ, ◌==◌, length, List, [], ◌∷◌, Bool, true, false, cond, Option, Some}
use Rattle.std.proofs.Common.{None, slice_get, refl, sym, ap, ◌∙◌, subst, true≢false, arith}
use Rattle.std.specs.Prelude.{option_map}
use Rattle.std.specs.List.{AllPairs}
use Rattle.std.proofs.lemmas.Option.{none-some, same_Some}
use Rattle.std.proofs.lemmas.Bool.{eqb-true, eq-eqb, false_from_ne_true}
use Rattle.version_sets.specs.Sets.{Members}
use Rattle.terms.specs.Terms.{TermView}
use Rattle.incompatibilities.specs.Incompatibilities as numbered
use Rattle.incompatibilities.specs.Incompatibilities.{unless_full}
use Rattle.incompatibilities.proofs.Lookups.{all_kept}
use Rattle.model.specs.Content.{Problem}
use Rattle.model.specs.Vertices.{Vertex, same_vertex, space}
use Rattle.model.specs.Derivation as model
use Rattle.model.proofs.Same.{vertex-same, vertex-refl, vertex-other}
use Rattle.numbering.specs.Numberings.{Numbering}
use Rattle.numbering.proofs.Saying.{one_place}
use Rattle.solver.specs.inner.Decoding.{states_in, with_term, terms_of, size_of, IsOver}

module _ (q : Problem) (vs : Numbering) (once : AllPairs (λ v w. v ≢ w) vs) where
  -- two numbers are one just where their vertices are
  pub same_number : (m n : ℕ) (w v : Vertex) → slice_get vs m ≡ Some w → slice_get vs n ≡ Some v
      → (m == n) ≡ same_vertex v w
  same_number m n w v e f = by (m == n) refl
    where
      by : (b : Bool) → (m == n) ≡ b → b ≡ same_vertex v w
      by true s =
          let same : w ≡ v = same_Some w v (sym e ∙ ap (slice_get vs) (eqb-true m n s) ∙ f) in
          sym (subst (λ x. same_vertex v x ≡ true) (sym same) (vertex-refl v))
      by false s = sym (vertex-other v w (λ same. differ (one_place vs m n v once (e ∙ ap Some (sym same)) f) s))
        where
          differ : m ≡ n → (m == n) ≡ false → ⊥
          differ k s = true≢false (sym (eq-eqb m n k) ∙ s)

  -- at a vertex with a number the states of the set that stands there
  pub said : (ts : List TermView) (n : ℕ) (v : Vertex) → slice_get vs n ≡ Some v
      → model.states_at (terms_of q vs ts) v ≡ option_map (states_in (space q v)) (numbered.states_at ts n)
  said [] n v f = refl
  said (t ∷ ts) n v f = by (said ts n v f) (slice_get vs t.vertex) refl
    where
      here : model.states_at (terms_of q vs ts) v ≡ option_map (states_in (space q v)) (numbered.states_at ts n)
          → (w : Vertex) → slice_get vs t.vertex ≡ Some w → (b : Bool) → same_vertex v w ≡ b
          → cond (same_vertex v w) (Some (states_in (space q w) t.states)) (model.states_at (terms_of q vs ts) v)
          ≡ option_map (states_in (space q v)) (cond (t.vertex == n) (Some t.states) (numbered.states_at ts n))
      here rest w e true s =
          ap (λ b. cond b (Some (states_in (space q w) t.states)) (model.states_at (terms_of q vs ts) v)) s
          ∙ ap (λ x. Some (states_in (space q x) t.states)) (sym (vertex-same v w s))
          ∙ ap (λ b. option_map (states_in (space q v)) (cond b (Some t.states) (numbered.states_at ts n)))
          (sym (same_number t.vertex n w v e f ∙ s))
      here rest w e false s =
          ap (λ b. cond b (Some (states_in (space q w) t.states)) (model.states_at (terms_of q vs ts) v)) s ∙ rest
          ∙ ap (λ b. option_map (states_in (space q v)) (cond b (Some t.states) (numbered.states_at ts n)))
          (sym (same_number t.vertex n w v e f ∙ s))

      by : model.states_at (terms_of q vs ts) v ≡ option_map (states_in (space q v)) (numbered.states_at ts n)
          → (o : Option Vertex) → slice_get vs t.vertex ≡ o
          → model.states_at (with_term q o t.states (terms_of q vs ts)) v
          ≡ option_map (states_in (space q v)) (cond (t.vertex == n) (Some t.states) (numbered.states_at ts n))
      by rest None e =
          let apart : (t.vertex == n) ≡ false = false_from_ne_true (t.vertex == n)
          (λ s. none-some v (sym e ∙ ap (slice_get vs) (eqb-true t.vertex n s) ∙ f)) in
          rest ∙ ap (λ b.
          option_map (states_in (space q v)) (cond b (Some t.states) (numbered.states_at ts n))) (sym apart)
      by rest (Some w) e = here rest w e (same_vertex v w) refl

-- nothing is said of a vertex without a number
pub unsaid : (q : Problem) (vs : Numbering) (ts : List TermView) (v : Vertex) → ((n : ℕ) → slice_get vs n ≡ Some v → ⊥)
    → model.states_at (terms_of q vs ts) v ≡ None
unsaid q vs [] v none = refl
unsaid q vs (t ∷ ts) v none = by (unsaid q vs ts v none) (slice_get vs t.vertex) refl
  where
    by : model.states_at (terms_of q vs ts) v ≡ None → (o : Option Vertex) → slice_get vs t.vertex ≡ o
        → model.states_at (with_term q o t.states (terms_of q vs ts)) v ≡ None
    by rest None e = rest
    by rest (Some w) e =
        ap (λ b. cond b (Some (states_in (space q w) t.states)) (model.states_at (terms_of q vs ts) v))
        (vertex-other v w (λ same. none t.vertex (e ∙ ap Some (sym same)))) ∙ rest

module _ (q : Problem) (vs : Numbering) (made : List TermView) (over : IsOver q vs made) where
  -- nothing stands at a number that no vertex has, since its set would be full
  pub none_at : (n : ℕ) → slice_get vs n ≡ None → numbered.states_at made n ≡ None
  none_at n e = by (numbered.states_at made n) refl
    where
      empty : (m : Members) → numbered.states_at made n ≡ Some m → length m ≡ 0 → ⊥
      empty [] f z = none-some [] (sym (ap unless_full f) ∙ all_kept made n over.is.none_full ∙ f)
      empty (b ∷ m) f z = omega (arith, z)

      by : (o : Option Members) → numbered.states_at made n ≡ o → o ≡ None
      by None f = refl
      by (Some m) f = absurd (empty m f (over.lies n m f ∙ ap (size_of q) e))

  pub long_at : (n : ℕ) (v : Vertex) (m : Members) → slice_get vs n ≡ Some v → numbered.states_at made n ≡ Some m
      → length m ≡ length (space q v)
  long_at n v m e f = over.lies n m f ∙ ap (size_of q) e
