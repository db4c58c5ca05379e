-- A combination over numbers is one of the terms that are decoded.
use Rattle.std.proofs.Common.{◌≡◌, ℕ, ◌==◌, length, List, ◌++◌, Bool, true, false, cond, Option, Some, None, slice_get}
use Rattle.std.proofs.Common.{refl, sym, ap, ◌∙◌, subst}
use Rattle.std.specs.Prelude.{option_map}
use Rattle.std.proofs.lemmas.Option.{none-some}
use Rattle.std.proofs.lemmas.Bool.{false_from_ne_true}
use Rattle.version_sets.specs.Sets as sets
use Rattle.version_sets.specs.Sets.{Members, join, meet}
use Rattle.version_sets.proofs.Laws.{length-join}
use Rattle.terms.specs.Terms.{TermView}
use Rattle.incompatibilities.specs.Incompatibilities as numbered
use Rattle.incompatibilities.specs.Incompatibilities.{IsCombination, unless_full}
use Rattle.incompatibilities.proofs.Lookups.{all_kept}
use Rattle.incompatibilities.proofs.Broken.{lies_combined}
use Rattle.model.specs.Content.{Problem}
use Rattle.model.specs.Order.{IsCatalogue}
use Rattle.model.specs.Vertices.{Vertex, State, same_vertex, has_state, space}
use Rattle.model.specs.Axioms.{at, is_full}
use Rattle.model.specs.Derivation.{SameAt, union_at, meet_at, combined_at, IsCombined}
use Rattle.model.specs.Derivation as model
use Rattle.numbering.specs.Numberings.{Numbering, IsNumbering}
use Rattle.numbering.proofs.Distinct.{states_once}
use Rattle.solver.specs.inner.Decoding.{states_in, terms_of, sizes, IsOver}
use Rattle.propagation.proofs.Combining.{meet_full}
use Rattle.solver.proofs.Sets.{joined, met, full_states}
use Rattle.solver.proofs.Decoded.{same_number, said, unsaid, long_at}
use Rattle.solver.proofs.Unique.{by_number, same_self}

module _ (q : Problem) (vs : Numbering) (known : IsCatalogue q) (ok : IsNumbering q vs) where
  -- a combination is over these numbers too
  pub over_combined : (n : ℕ) (a b c : List TermView) → IsOver q vs a → IsOver q vs b
      → IsCombination n a b c → IsOver q vs c
  over_combined n a b c over_a over_b is = record {
    is = is.is;
    lies = lies_combined n (numbered.states_at a) (numbered.states_at b) (numbered.states_at c) is.each
        (sizes q vs) over_a.lies over_b.lies;
  }

  module _ (a b c : List TermView) (n : ℕ) (v : Vertex) (at_v : slice_get vs n ≡ Some v) (over_a : IsOver q vs a)
      (over_b : IsOver q vs b) (is : IsCombination n a b c) where
    module _ (w : Vertex) (u : ℕ) (e : slice_get vs u ≡ Some w) where
      abbrev seen : Option Members → Option (List State)
      seen o = option_map (states_in (space q w)) o

      long_in : (d : List TermView) → IsOver q vs d → (x : Members) → numbered.states_at d u ≡ Some x
          → length x ≡ length (space q w)
      long_in d over x f = long_at q vs d over u w x e f

      kept_in : (d : List TermView) → IsOver q vs d → (o : Option Members)
          → numbered.states_at d u ≡ o → unless_full o ≡ o
      kept_in d over o f = ap unless_full (sym f) ∙ all_kept d u over.is.none_full ∙ f

      some_kept : (x : Members) → unless_full (Some x) ≡ Some x → sets.is_full x ≡ true → ⊥
      some_kept x k full = none-some x (sym (ap (λ b. cond b None (Some x)) full) ∙ k)

      union_here : (o p : Option Members) → numbered.states_at a u ≡ o → numbered.states_at b u ≡ p
          → SameAt (seen (unless_full (numbered.union_at o p))) (union_at q w (seen o) (seen p))
      union_here None None f g = tt
      union_here None (Some y) f g = tt
      union_here (Some x) None f g = tt
      union_here (Some x) (Some y) f g =
          let lx = long_in a over_a x f in
          let ly = long_in b over_b y g in
          let same = joined (space q w) (states_once q known w) x y lx ly in
          let full : is_full q (at w (states_in (space q w) x ++ states_in (space q w) y)) ≡ sets.is_full (join x y) =
          full_states (space q w) (states_once q known w) (join x y)
          (states_in (space q w) x ++ states_in (space q w) y) (length-join x y (lx ∙ sym ly) ∙ lx) same in
          subst (λ t. SameAt (seen (unless_full (Some (join x y))))
          (cond t None (Some (states_in (space q w) x ++ states_in (space q w) y)))) (sym full)
          (by (sets.is_full (join x y)) same)
        where
          by : (t : Bool) → ((s : State) → has_state (states_in (space q w) (join x y)) s
              ≡ has_state (states_in (space q w) x ++ states_in (space q w) y) s)
              → SameAt (seen (cond t None (Some (join x y))))
              (cond t None (Some (states_in (space q w) x ++ states_in (space q w) y)))
          by true same = tt
          by false same = same

      meet_here : (o p : Option Members) → numbered.states_at a u ≡ o → numbered.states_at b u ≡ p
          → SameAt (seen (unless_full (numbered.meet_at o p))) (meet_at (seen o) (seen p))
      meet_here None p f g = same_self (seen (unless_full p)) (seen p) (ap seen (kept_in b over_b p g))
      meet_here (Some x) None f g =
          same_self (seen (unless_full (Some x))) (seen (Some x)) (ap seen (kept_in a over_a (Some x) f))
      meet_here (Some x) (Some y) f g =
          let lx = long_in a over_a x f in
          let ly = long_in b over_b y g in
          let not_full : sets.is_full (meet x y) ≡ false = false_from_ne_true (sets.is_full (meet x y))
          (λ h. some_kept x (kept_in a over_a (Some x) f) (meet_full x y (lx ∙ sym ly) h)) in
          subst (λ t. SameAt (seen (cond t None (Some (meet x y)))) (meet_at (seen (Some x)) (seen (Some y))))
          (sym not_full) (met (space q w) (states_once q known w) x y lx ly)

      here : (t : Bool) → same_vertex v w ≡ t
          → SameAt (model.states_at (terms_of q vs c) w) (combined_at q (terms_of q vs a) (terms_of q vs b) v w)
      here t s =
          let left : model.states_at (terms_of q vs c) w
          ≡ seen (unless_full (cond t (numbered.union_at (numbered.states_at a u) (numbered.states_at b u))
          (numbered.meet_at (numbered.states_at a u) (numbered.states_at b u)))) =
          said q vs ok.once c u w e ∙ ap seen (is.each u
          ∙ ap (λ z. unless_full (cond z (numbered.union_at (numbered.states_at a u) (numbered.states_at b u))
          (numbered.meet_at (numbered.states_at a u) (numbered.states_at b u)))) (turned ∙ s)) in
          let right : combined_at q (terms_of q vs a) (terms_of q vs b) v w
          ≡ cond t (union_at q w (seen (numbered.states_at a u)) (seen (numbered.states_at b u)))
          (meet_at (seen (numbered.states_at a u)) (seen (numbered.states_at b u))) =
          ap (λ z. cond z (union_at q w (model.states_at (terms_of q vs a) w) (model.states_at (terms_of q vs b) w))
          (meet_at (model.states_at (terms_of q vs a) w) (model.states_at (terms_of q vs b) w))) s
          ∙ (λ i. cond t (union_at q w (said q vs ok.once a u w e i) (said q vs ok.once b u w e i))
          (meet_at (said q vs ok.once a u w e i) (said q vs ok.once b u w e i))) in
          subst (λ o. SameAt o (combined_at q (terms_of q vs a) (terms_of q vs b) v w)) (sym left) (subst
          (SameAt (seen (unless_full (cond t (numbered.union_at (numbered.states_at a u) (numbered.states_at b u))
          (numbered.meet_at (numbered.states_at a u) (numbered.states_at b u)))))) (sym right) (each t))
        where
          turned : (u == n) ≡ same_vertex v w
          turned = same_number q vs ok.once u n w v e at_v

          each : (t : Bool)
              → SameAt (seen (unless_full (cond t (numbered.union_at (numbered.states_at a u) (numbered.states_at b u))
              (numbered.meet_at (numbered.states_at a u) (numbered.states_at b u)))))
              (cond t (union_at q w (seen (numbered.states_at a u)) (seen (numbered.states_at b u)))
              (meet_at (seen (numbered.states_at a u)) (seen (numbered.states_at b u))))
          each true = union_here (numbered.states_at a u) (numbered.states_at b u) refl refl
          each false = meet_here (numbered.states_at a u) (numbered.states_at b u) refl refl

    pub decoded_combination : IsCombined q v (terms_of q vs a) (terms_of q vs b) (terms_of q vs c)
    decoded_combination w = by_number q vs known ok
        (λ w. SameAt (model.states_at (terms_of q vs c) w) (combined_at q (terms_of q vs a) (terms_of q vs b) v w)) w
        (λ u e. here w u e (same_vertex v w) refl)
        (λ none. same_self (model.states_at (terms_of q vs c) w) (combined_at q (terms_of q vs a) (terms_of q vs b) v w)
        (unsaid q vs c w none
        ∙ sym ((λ i. cond (same_vertex v w) (union_at q w (unsaid q vs a w none i) (unsaid q vs b w none i))
        (meet_at (unsaid q vs a w none i) (unsaid q vs b w none i))) ∙ silent (same_vertex v w))))
      where
        silent : (t : Bool) → cond t (union_at q w None None) (meet_at None None) ≡ None
        silent true = refl
        silent false = refl
