-- Terms that fit at each vertex that is spoken of are the combination.
use Rattle.std.proofs.Common.{◌≡◌, List, true, false, cond, ◌&&◌, ◌||◌, is_some, Option, Some, None, refl, sym}
use Rattle.std.proofs.Common.{ap, ◌∙◌, subst}
use Rattle.std.specs.List.{list_all}
use Rattle.std.proofs.lemmas.Bool.{and_from, or_right}
use Rattle.model.specs.Content.{Problem}
use Rattle.model.specs.Vertices.{Vertex, State, same_vertex}
use Rattle.model.specs.Axioms.{Term}
use Rattle.model.specs.Derivation.{states_at, SameAt, union_at, meet_at, combined_at, IsCombined}
use Rattle.model.proofs.Lists.{all_at}
use Rattle.model.proofs.Same.{both, vertex-same}
use Rattle.model.proofs.Tests.{one_test}
use Rattle.model.specs.inner.Terms.{same_at, is_combination, speaks_of}
use Rattle.model.proofs.Bools.{all_pass}
use Rattle.model.proofs.Sets.{same_at-is, silent, term_at, is_combination-is}
use Rattle.checker.specs.inner.Combinations.{fits, fits_or_said, all_fit}

module _ (q : Problem) (v : Vertex) (a b ts : List Term) where
  -- at the vertex of the combination
  pub fits_there : (t : Term) → same_vertex v t.vertex ≡ true
      → same_at (states_at ts t.vertex) (union_at q v (states_at a t.vertex) (states_at b t.vertex)) ≡ fits q v a b ts t
  fits_there t e =
      let one : v ≡ t.vertex = vertex-same v t.vertex e in
      ap (same_at (states_at ts t.vertex))
      (ap (λ w. union_at q w (states_at a t.vertex) (states_at b t.vertex)) one
      ∙ ap (λ x. cond x (union_at q t.vertex (states_at a t.vertex) (states_at b t.vertex))
      (meet_at (states_at a t.vertex) (states_at b t.vertex))) (sym e))

  -- and elsewhere
  pub fits_elsewhere : (t : Term) → same_vertex v t.vertex ≡ false
      → same_at (states_at ts t.vertex) (meet_at (states_at a t.vertex) (states_at b t.vertex)) ≡ fits q v a b ts t
  fits_elsewhere t e =
      ap (same_at (states_at ts t.vertex)) (ap (λ x. cond x (union_at q t.vertex (states_at a t.vertex)
      (states_at b t.vertex)) (meet_at (states_at a t.vertex) (states_at b t.vertex))) (sym e))

  abbrev Fit : Vertex → Type 0
  Fit w = SameAt (states_at ts w) (combined_at q a b v w)

  fit_says : (t : Term) (w : Vertex) → w ≡ t.vertex → fits q v a b ts t ≡ true → Fit w
  fit_says t w e h = subst Fit (sym e) ((same_at-is (states_at ts t.vertex) (combined_at q a b v t.vertex)).0 h)

  abbrev Passes : List Term → Type 0
  Passes us = list_all (fits q v a b ts) us ≡ true

  abbrev PassOthers : List Term → Type 0
  PassOthers us = list_all (fits_or_said q v a b ts) us ≡ true

  -- a term at whose vertex nothing is said
  unsaid : (t : Term) (w : Vertex) → w ≡ t.vertex → states_at ts w ≡ None → fits_or_said q v a b ts t ≡ true
      → fits q v a b ts t ≡ true
  unsaid t w e none h = ap (λ o. is_some o || fits q v a b ts t) (sym (ap (states_at ts) (sym e) ∙ none)) ∙ h

  to_at : Passes ts → PassOthers a → PassOthers b → (w : Vertex) (x y z : Option (List State)) → states_at ts w ≡ x
      → states_at a w ≡ y → states_at b w ≡ z → Fit w
  to_at h k l w (Some ss) y z d e f = let r =
      term_at ts w ss d in fit_says r.0 w r.2 (all_at (fits q v a b ts) ts r.0 h r.1)
  to_at h k l w None (Some ss) z d e f = let r =
      term_at a w ss e in fit_says r.0 w r.2 (unsaid r.0 w r.2 d (all_at (fits_or_said q v a b ts) a r.0 k r.1))
  to_at h k l w None None (Some ss) d e f = let r =
      term_at b w ss f in fit_says r.0 w r.2 (unsaid r.0 w r.2 d (all_at (fits_or_said q v a b ts) b r.0 l r.1))
  to_at h k l w None None None d e f = rw (d, silent q v a b w e f) tt

  to : all_fit q v a b ts ≡ true → IsCombined q v a b ts
  to h w =
      let first = both (list_all (fits q v a b ts) ts)
      (list_all (fits_or_said q v a b ts) a && list_all (fits_or_said q v a b ts) b) h in
      let rest = both (list_all (fits_or_said q v a b ts) a) (list_all (fits_or_said q v a b ts) b) first.1 in
      to_at first.0 rest.0 rest.1 w (states_at ts w) (states_at a w) (states_at b w) refl refl refl

  from : IsCombined q v a b ts → all_fit q v a b ts ≡ true
  from h =
      let each = λ (t : Term). (same_at-is (states_at ts t.vertex) (combined_at q a b v t.vertex)).1 (h t.vertex) in
      let others = λ (t : Term). or_right (speaks_of ts t.vertex) (fits q v a b ts t) (each t) in
      and_from (list_all (fits q v a b ts) ts) (list_all (fits_or_said q v a b ts) a
      && list_all (fits_or_said q v a b ts) b) (all_pass (fits q v a b ts) ts (λ t c. each t))
      (and_from (list_all (fits_or_said q v a b ts) a) (list_all (fits_or_said q v a b ts) b)
      (all_pass (fits_or_said q v a b ts) a (λ t c. others t))
      (all_pass (fits_or_said q v a b ts) b (λ t c. others t)))

  pub all_fit_is : all_fit q v a b ts ≡ is_combination q v a b ts
  all_fit_is = one_test (all_fit q v a b ts) (is_combination q v a b ts)
      (λ h. (is_combination-is q v a b ts).1 (to h)) (λ h. from ((is_combination-is q v a b ts).0 h))
