-- What numbered terms say, once full ones are dropped, and as more vertices get numbers.
use Rattle.std.proofs.Common.{◌≡◌, ◌≢◌, ℕ, ◌≤◌, ◌+◌, ◌==◌, List, [], ◌∷◌, Bool, true, false, cond, Contains, Some, None}
use Rattle.std.proofs.Common.{slice_get, refl, sym, ap, ◌∙◌, subst, arith}
use Rattle.std.specs.Prelude.{option_map}
use Rattle.std.specs.List.{AllPairs, AllByRecursion}
use Rattle.std.proofs.lemmas.Option.{none-some, same_Some}
use Rattle.std.proofs.lemmas.Bool.{eqb-true, eq-eqb, false_from_ne_true}
use Rattle.terms.specs.Terms.{TermView}
use Rattle.incompatibilities.specs.Incompatibilities as numbered
use Rattle.incompatibilities.specs.Incompatibilities.{OneEach, IsMadeOf, terms_on, unless_full}
use Rattle.model.specs.Content.{Problem}
use Rattle.model.specs.Vertices.{Vertex, same_vertex}
use Rattle.model.specs.Axioms.{Term, AreApart}
use Rattle.model.specs.Derivation as model
use Rattle.model.proofs.Same.{vertex-same, vertex-refl, vertex-other}
use Rattle.model.proofs.Places.{got_in}
use Rattle.numbering.specs.Numberings.{Numbering, members_at, Says}
use Rattle.numbering.specs.inner.Numbered.{IsNumbered, AreNumbered}
use Rattle.numbering.proofs.Places.{number_of}

-- in a list where each vertex stands once, it stands at one place
pub one_place : (vs : Numbering) (n m : ℕ) (v : Vertex) → AllPairs (λ v w. v ≢ w) vs → slice_get vs n ≡ Some v
    → slice_get vs m ≡ Some v → n ≡ m
one_place vs n m v once e f = same_Some n m (sym (number_of vs v n once e) ∙ number_of vs v m once f)

module _ (q : Problem) (vs : Numbering) (once : AllPairs (λ v w. v ≢ w) vs) where
  -- a term is on a number exactly where it is on the vertex that has it
  on_it : (t : TermView) (m : Term) (u : ℕ) (v : Vertex) → IsNumbered q vs t m → slice_get vs u ≡ Some v
      → (t.vertex == u) ≡ same_vertex v m.vertex
  on_it t m u v is e = by (t.vertex == u) refl
    where
      by : (b : Bool) → (t.vertex == u) ≡ b → b ≡ same_vertex v m.vertex
      by true s =
          let k : t.vertex ≡ u = eqb-true t.vertex u s in
          let same : m.vertex ≡ v = same_Some m.vertex v (sym is.vertex ∙ ap (slice_get vs) k ∙ e) in
          sym (subst (λ w. same_vertex v w ≡ true) (sym same) (vertex-refl v))
      by false s = sym (vertex-other v m.vertex
          (λ same. differ (one_place vs t.vertex u v once (is.vertex ∙ ap Some (sym same)) e) s))
        where
          differ : t.vertex ≡ u → (t.vertex == u) ≡ false → ⊥
          differ k s = let x : true ≡ false = sym (eq-eqb t.vertex u k) ∙ s in cc

  -- so both say one thing of each vertex
  said : (ts : List TermView) (ms : List Term) → AreNumbered q vs ts ms → (u : ℕ) (v : Vertex) → slice_get vs u ≡ Some v
      → numbered.states_at ts u ≡ option_map (members_at q v) (model.states_at ms v)
  said [] [] are u v e = refl
  said [] (m ∷ ms) are u v e = absurd are
  said (t ∷ ts) [] are u v e = absurd are
  said (t ∷ ts) (m ∷ ms) are u v e = by (said ts ms are.1 u v e) (same_vertex v m.vertex) refl
    where
      by : numbered.states_at ts u ≡ option_map (members_at q v) (model.states_at ms v) → (b : Bool)
          → same_vertex v m.vertex ≡ b
          → cond (t.vertex == u) (Some t.states) (numbered.states_at ts u)
          ≡ option_map (members_at q v) (cond (same_vertex v m.vertex) (Some m.states) (model.states_at ms v))
      by rest true s =
          ap (λ b. cond b (Some t.states) (numbered.states_at ts u)) (on_it t m u v are.0 e ∙ s)
          ∙ ap Some ((are.0).states ∙ ap (λ w. members_at q w m.states) (sym (vertex-same v m.vertex s)))
          ∙ ap (λ b. option_map (members_at q v) (cond b (Some m.states) (model.states_at ms v))) (sym s)
      by rest false s =
          ap (λ b. cond b (Some t.states) (numbered.states_at ts u)) (on_it t m u v are.0 e ∙ s)
          ∙ rest
          ∙ ap (λ b. option_map (members_at q v) (cond b (Some m.states) (model.states_at ms v))) (sym s)

  -- and nothing of a number that no vertex has
  unsaid : (ts : List TermView) (ms : List Term) → AreNumbered q vs ts ms → (u : ℕ) → slice_get vs u ≡ None
      → numbered.states_at ts u ≡ None
  unsaid [] [] are u e = refl
  unsaid [] (m ∷ ms) are u e = absurd are
  unsaid (t ∷ ts) [] are u e = absurd are
  unsaid (t ∷ ts) (m ∷ ms) are u e =
      ap (λ b. cond b (Some t.states) (numbered.states_at ts u))
      (false_from_ne_true (t.vertex == u) (λ s. apart (eqb-true t.vertex u s))) ∙ unsaid ts ms are.1 u e
    where
      apart : t.vertex ≡ u → ⊥
      apart k = none-some m.vertex (sym e ∙ ap (slice_get vs) (sym k) ∙ (are.0).vertex)

  in_numbers : (ts : List TermView) (ms : List Term) → AreNumbered q vs ts ms
      → AllByRecursion (λ m. Contains vs m.vertex) ms
  in_numbers [] [] are = tt
  in_numbers [] (m ∷ ms) are = absurd are
  in_numbers (t ∷ ts) [] are = absurd are
  in_numbers (t ∷ ts) (m ∷ ms) are = (got_in vs t.vertex m.vertex (are.0).vertex, in_numbers ts ms are.1)

  -- An incompatibility that is made of numbered terms says what they say.
  pub made_says : (ts : List TermView) (ms : List Term) (made : List TermView) → AreNumbered q vs ts ms
      → IsMadeOf ts made → Says q vs made ms
  made_says ts ms made are of = record {
    is = of.is;
    each = λ u v e. of.each u ∙ ap unless_full (said ts ms are u v e);
    none = λ u e. of.each u ∙ ap unless_full (unsaid ts ms are u e);
    numbers = in_numbers ts ms are;
  }

  -- No two of them stand at one number, where no two of the terms speak of one vertex.
  none_on : (u : ℕ) (v : Vertex) → slice_get vs u ≡ Some v
      → (ts : List TermView) (ms : List Term) → AreNumbered q vs ts ms
      → AllByRecursion (λ m. same_vertex v m.vertex ≡ false) ms → terms_on u ts ≡ 0
  none_on u v e [] [] are h = refl
  none_on u v e [] (m ∷ ms) are h = absurd are
  none_on u v e (t ∷ ts) [] are h = absurd are
  none_on u v e (t ∷ ts) (m ∷ ms) are h =
      let r : terms_on u ts ≡ 0 = none_on u v e ts ms are.1 h.1 in
      let s : (t.vertex == u) ≡ false = on_it t m u v are.0 e ∙ h.0 in
      ap (λ b. cond b 1 0 + terms_on u ts) s ∙ omega (arith, r)

  pub one_each : (ts : List TermView) (ms : List Term) → AreNumbered q vs ts ms → AreApart ms → OneEach ts
  one_each [] [] are apart u = omega arith
  one_each [] (m ∷ ms) are apart u = absurd are
  one_each (t ∷ ts) [] are apart u = absurd are
  one_each (t ∷ ts) (m ∷ ms) are apart u = by (one_each ts ms are.1 apart.1 u) (t.vertex == u) refl
    where
      by : terms_on u ts ≤ 1 → (b : Bool) → (t.vertex == u) ≡ b → cond (t.vertex == u) 1 0 + terms_on u ts ≤ 1
      by rest true s =
          let k : t.vertex ≡ u = eqb-true t.vertex u s in
          let z : terms_on u ts ≡ 0 =
          subst (λ n. terms_on n ts ≡ 0) k (none_on t.vertex m.vertex (are.0).vertex ts ms are.1 apart.0) in
          subst (λ b. cond b 1 0 + terms_on u ts ≤ 1) (sym s) (omega (arith, z))
      by rest false s = subst (λ b. cond b 1 0 + terms_on u ts ≤ 1) (sym s) (omega (arith, rest))
