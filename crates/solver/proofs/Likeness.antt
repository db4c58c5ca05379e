-- What says the same combines to the same.
use Rattle.std.proofs.Common.{◌≡◌, List, [], ◌∷◌, ◌++◌, Bool, true, false, cond, ◌&&◌, ◌||◌, Option, Some, None, refl}
use Rattle.std.proofs.Common.{sym, ap₂, ◌∙◌, subst}
use Rattle.std.specs.List.{list_all}
use Rattle.std.proofs.lemmas.List.Folds.{list_any-append}
use Rattle.model.specs.Content.{Problem}
use Rattle.model.specs.Vertices.{Vertex, State, same_state, has_state, same_vertex, space}
use Rattle.model.specs.Axioms.{Term, at, is_full}
use Rattle.model.specs.Derivation.{states_at, SameStates, SameAt, SameTerms, both, union_at, meet_at, combined_at}
use Rattle.model.specs.Derivation.{IsCombined}
use Rattle.model.proofs.InOrder.{same_at-back}
use Rattle.solver.proofs.Sets.{has_both}

pub like_trans : (o p r : Option (List State)) → SameAt o p → SameAt p r → SameAt o r
like_trans None None r h k = k
like_trans None (Some b) r h k = absurd h
like_trans (Some a) None r h k = absurd h
like_trans (Some a) (Some b) None h k = absurd k
like_trans (Some a) (Some b) (Some c) h k = λ s. h s ∙ k s

all_alike : (f g : State → Bool) (ss : List State) → ((s : State) → f s ≡ g s) → list_all f ss ≡ list_all g ss
all_alike f g [] h = refl
all_alike f g (s ∷ ss) h = ap₂ (λ x y. x && y) (h s) (all_alike f g ss h)

append_alike : (a b c d : List State) → SameStates a c → SameStates b d → SameStates (a ++ b) (c ++ d)
append_alike a b c d h k s =
    list_any-append (same_state s) a b ∙ ap₂ (λ x y. x || y) (h s) (k s) ∙ sym (list_any-append (same_state s) c d)

both_alike : (a b c d : List State) → SameStates a c → SameStates b d → SameStates (both a b) (both c d)
both_alike a b c d h k s = has_both a b s ∙ ap₂ (λ x y. x && y) (h s) (k s) ∙ sym (has_both c d s)

union_alike : (q : Problem) (w : Vertex) (o p r t : Option (List State)) → SameAt o r → SameAt p t
    → SameAt (union_at q w o p) (union_at q w r t)
union_alike q w None p None t h k = tt
union_alike q w None p (Some c) t h k = absurd h
union_alike q w (Some a) p None t h k = absurd h
union_alike q w (Some a) None (Some c) None h k = tt
union_alike q w (Some a) None (Some c) (Some d) h k = absurd k
union_alike q w (Some a) (Some b) (Some c) None h k = absurd k
union_alike q w (Some a) (Some b) (Some c) (Some d) h k =
    by (is_full q (at w (a ++ b))) (is_full q (at w (c ++ d)))
    (all_alike (has_state (a ++ b)) (has_state (c ++ d)) (space q w) (append_alike a b c d h k))
  where
    by : (x y : Bool) → x ≡ y → SameAt (cond x None (Some (a ++ b))) (cond y None (Some (c ++ d)))
    by true y e = subst (λ z. SameAt None (cond z None (Some (c ++ d)))) e tt
    by false y e = subst (λ z. SameAt (Some (a ++ b)) (cond z None (Some (c ++ d)))) e (append_alike a b c d h k)

meet_alike : (o p r t : Option (List State)) → SameAt o r → SameAt p t → SameAt (meet_at o p) (meet_at r t)
meet_alike None p None t h k = k
meet_alike None p (Some c) t h k = absurd h
meet_alike (Some a) p None t h k = absurd h
meet_alike (Some a) None (Some c) None h k = h
meet_alike (Some a) None (Some c) (Some d) h k = absurd k
meet_alike (Some a) (Some b) (Some c) None h k = absurd k
meet_alike (Some a) (Some b) (Some c) (Some d) h k = both_alike a b c d h k

-- terms may be replaced by such as say the same
pub combined_alike : (q : Problem) (v : Vertex) (a b c d e f : List Term) → SameTerms d a → SameTerms e b
    → SameTerms f c → IsCombined q v a b c → IsCombined q v d e f
combined_alike q v a b c d e f da eb fc is w =
    like_trans (states_at f w) (states_at c w) (combined_at q d e v w) (fc w)
    (like_trans (states_at c w) (combined_at q a b v w) (combined_at q d e v w) (is w) (by (same_vertex v w)))
  where
    ad : SameAt (states_at a w) (states_at d w)
    ad = same_at-back (states_at d w) (states_at a w) (da w)

    be : SameAt (states_at b w) (states_at e w)
    be = same_at-back (states_at e w) (states_at b w) (eb w)

    by : (t : Bool)
        → SameAt (cond t (union_at q w (states_at a w) (states_at b w)) (meet_at (states_at a w) (states_at b w)))
        (cond t (union_at q w (states_at d w) (states_at e w)) (meet_at (states_at d w) (states_at e w)))
    by true = union_alike q w (states_at a w) (states_at b w) (states_at d w) (states_at e w) ad be
    by false = meet_alike (states_at a w) (states_at b w) (states_at d w) (states_at e w) ad be
