-- A valid content of two packages, in a catalogue of one candidate.
use Rattle.std.proofs.Common.{◌≡◌, ◌≢◌, ◌⊎◌, ℕ, zero, suc, List, [], ◌∷◌, ◌<◌, Less, Contains, Some, slice_get, is_some}
use Rattle.std.proofs.Common.{refl, sym, ap, ◌∙◌, subst, inl, inr, true, true≢false, arith}
use Rattle.std.specs.List.{All, AllPairs}
use Rattle.std.proofs.lemmas.Option.{none-some, same_Some}
use Rattle.model.specs.Summary.{Dependency, KnowsFeatures, asked_of_target}
use Rattle.model.specs.Order.{precedence, IsCatalogue}
use Rattle.model.specs.Selection.{enabled, IsValidSelection, IsFact, IsTarget, IsRootAt, IsOther, IsReached}
use Rattle.model.specs.Selection.Holds.{starts, root_needs}
use Rattle.model.specs.Content.{Problem, Content, Package, Candidate, candidate_of, is_root, summary_at, target_of}
use Rattle.model.specs.Selection.IsReached.{root as at_root, listed}
use Rattle.model.proofs.Lists.{in_none, in_first, all_none, all_cons, pairs_one}
use Rattle.model.proofs.Examples.Small.{text_a, version_1_0, on_any, candidate, asked_by_demo, locked, demo, in_one}
use Rattle.model.proofs.Examples.Small.{formed, no_feature_on}

abbrev pub one_candidate : Candidate
one_candidate = candidate version_1_0 [] []

abbrev pub serving : Problem
serving = asked_by_demo (on_any text_a ∷ []) ((text_a, one_candidate ∷ []) ∷ [])

abbrev pub selected : Content
selected = locked text_a version_1_0 [] ∷ demo (0 ∷ []) ∷ []

one_dep : (n i : ℕ) (d : Dependency) → slice_get (summary_at serving selected n).dependencies i ≡ Some d
    → (n ≡ 1) × (i ≡ 0) × (on_any text_a ≡ d)
one_dep zero i d e = absurd (none-some d e)
one_dep (suc zero) zero d e = (refl, refl, same_Some (on_any text_a) d e)
one_dep (suc zero) (suc i) d e = absurd (none-some d e)
one_dep (suc (suc n)) i d e = absurd (none-some d e)

asks_none : (n i : ℕ) (d : Dependency) (f : List ℕ) → slice_get (summary_at serving selected n).dependencies i ≡ Some d
    → Contains (asked_of_target d) f → ⊥
asks_none n i d f b c = in_none f (subst (λ x. Contains (asked_of_target x) f) (sym (one_dep n i d b).2) c)

root_at : IsRootAt serving selected 1
root_at = (demo (0 ∷ []), refl, refl)

is_on_it : IsFact serving selected (enabled 1 0)
is_on_it = root_needs 1 0 (on_any text_a) (starts 1 (omega arith)) root_at refl

at_place : (n : ℕ) (p : Package) → slice_get selected n ≡ Some p
    → ((n ≡ 0) × (locked text_a version_1_0 [] ≡ p)) ⊎ ((n ≡ 1) × (demo (0 ∷ []) ≡ p))
at_place zero p e = inl (refl, same_Some (locked text_a version_1_0 []) p e)
at_place (suc zero) p e = inr (refl, same_Some (demo (0 ∷ [])) p e)
at_place (suc (suc n)) p e = absurd (none-some p e)

other_place : (n : ℕ) (p : Package) → IsOther serving selected n p → (n ≡ 0) × (locked text_a version_1_0 [] ≡ p)
other_place n p o = elim (at_place n p o.0) [
  | inl h ↦ h
  | inr h ↦ absurd (true≢false (ap (is_root serving) h.1 ∙ o.1))
]

lists_there : (n t : ℕ) (p : Package) → slice_get selected n ≡ Some p → Contains p.list t
    → IsTarget serving selected n t
lists_there n t p got c = elim (at_place n p got) [
  | inl h ↦ absurd (in_none t (subst (λ (x : Package). Contains x.list t) (sym h.1) c))
  | inr h ↦
      let e : 0 ≡ t = in_one 0 t (subst (λ (x : Package). Contains x.list t) (sym h.1) c) in
      subst (λ m. IsTarget serving selected m t) (sym h.0) (0, on_any text_a, (refl, is_on_it), ap Some e)
]

lists_back : (n t : ℕ) (p : Package) → slice_get selected n ≡ Some p → IsTarget serving selected n t → Contains p.list t
lists_back n t p got (i, d, (b, fact), target) =
    let x = one_dep n i d b in
    let to : target_of selected 1 (on_any text_a) ≡ Some t =
    ap (target_of selected 1) x.2 ∙ subst (λ m. target_of selected m d ≡ Some t) x.0 target in
    let e : 0 ≡ t = same_Some 0 t to in
    elim (at_place n p got) [
      | inl h ↦ absurd (let z : 0 ≡ 1 = sym h.0 ∙ x.0 in omega arith)
      | inr h ↦ subst (λ (y : Package). Contains y.list t) h.1 (subst (λ u. Contains (0 ∷ []) u) e (in_first 0 []))
    ]

reached_there : (n : ℕ) → n < 2 → IsReached serving selected n
reached_there zero lt = listed 1 0 (demo (0 ∷ [])) (at_root 1 root_at) refl (in_first 0 [])
reached_there (suc zero) lt = at_root 1 root_at
reached_there (suc (suc n)) lt = absurd (omega arith)

pub selected-valid : IsValidSelection serving selected
selected-valid = record {
  is_content = formed selected refl;
  root = (1, root_at);
  candidates = λ n p o. subst (λ x. is_some (candidate_of serving x) ≡ true) (other_place n p o).1 refl;
  one_in_class = λ n m p r o u name class. (other_place n p o).0 ∙ sym (other_place m r u).0;
  met = λ n i d e. let x = one_dep n i d e.0 in
      (0, subst (λ m. target_of selected m d ≡ Some 0) (sym x.0) (ap (target_of selected 1) (sym x.2)));
  features_exist = λ n f h. absurd (no_feature_on serving selected asks_none refl n f h);
  lists = λ n t p got. (lists_there n t p got, lists_back n t p got);
  reached = reached_there;
}

pub serving-catalogue : IsCatalogue serving
serving-catalogue = record {
  names_distinct = pairs_one (λ a b. a.0 ≢ b.0) (text_a, one_candidate ∷ []);
  versions_rise =
      all_cons (λ row. AllPairs (λ c e. precedence c.version e.version ≡ Less) row.1) (text_a, one_candidate ∷ []) []
      (pairs_one (λ c e. precedence c.version e.version ≡ Less) one_candidate)
      (all_none (λ row. AllPairs (λ c e. precedence c.version e.version ≡ Less) row.1));
  features_known =
      all_cons (λ row. All (λ (c : Candidate). KnowsFeatures c.brings.features) row.1) (text_a, one_candidate ∷ []) []
      (all_cons (λ (c : Candidate). KnowsFeatures c.brings.features) one_candidate []
      (λ f g es e c. absurd (none-some es e)) (all_none (λ (c : Candidate). KnowsFeatures c.brings.features)))
      (all_none (λ row. All (λ (c : Candidate). KnowsFeatures c.brings.features) row.1));
}
