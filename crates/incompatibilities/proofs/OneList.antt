-- A rising list of terms is given by its look-ups.
use Rattle.std.proofs.Common.{◌≡◌, ℕ, ◌<◌, List, [], ◌∷◌, refl, ap₂, sym, ◌∙◌, arith, inl, inr}
use Rattle.std.proofs.lemmas.Bool.{cases_eq, cases_order}
use Rattle.std.proofs.lemmas.Option.{none-some, same_Some}
use Rattle.version_sets.specs.Sets.{Members}
use Rattle.terms.specs.Terms.{TermView}
use Rattle.incompatibilities.specs.Incompatibilities.{AllPast, IsCombination, IsRising, states_at}
use Rattle.incompatibilities.proofs.Lookups.{absent, at_first, at_later}

same_term : (t u : TermView) → t.vertex ≡ u.vertex → t.states ≡ u.states → t ≡ u
same_term t u e f = ap₂ make e f
  where
    make : ℕ → Members → TermView
    make v s = record { vertex = v; states = s }

same_rest : (t u : TermView) (ts us : List TermView) → AllPast t.vertex ts → AllPast u.vertex us → t.vertex ≡ u.vertex
    → ((w : ℕ) → states_at (t ∷ ts) w ≡ states_at (u ∷ us) w) → (w : ℕ) → states_at ts w ≡ states_at us w
same_rest t u ts us a b e same w = elim (cases_eq t.vertex w) [
  | inl s ↦ absent t.vertex w ts a (omega arith) ∙ sym (absent u.vertex w us b (omega arith))
  | inr o ↦ sym (at_later t ts w o) ∙ same w ∙ at_later u us w (λ (s : u.vertex ≡ w). o (e ∙ s))
]

not_first : (t u : TermView) (ts us : List TermView) → AllPast u.vertex us → t.vertex < u.vertex
    → states_at (t ∷ ts) t.vertex ≡ states_at (u ∷ us) t.vertex → ⊥
not_first t u ts us b low same =
    none-some t.states (sym (at_later u us t.vertex (λ (s : u.vertex ≡ t.vertex). omega arith)
    ∙ absent u.vertex t.vertex us b (omega arith)) ∙ sym same ∙ at_first t ts t.vertex refl)

pub one_list : (ts us : List TermView) → IsRising ts → IsRising us
    → ((w : ℕ) → states_at ts w ≡ states_at us w) → ts ≡ us
one_list [] [] a b same = refl
one_list [] (u ∷ us) a b same = absurd (none-some u.states (same u.vertex ∙ at_first u us u.vertex refl))
one_list (t ∷ ts) [] a b same = absurd (none-some t.states (sym (same t.vertex) ∙ at_first t ts t.vertex refl))
one_list (t ∷ ts) (u ∷ us) a b same = elim (cases_order t.vertex u.vertex) [
  | inl e ↦
      ap₂ (λ x xs. x ∷ xs) (same_term t u e (same_Some t.states u.states
      (sym (at_first t ts t.vertex refl) ∙ same t.vertex ∙ at_first u us t.vertex (sym e))))
      (one_list ts us a.1 b.1 (same_rest t u ts us a.0 b.0 e same))
  | inr o ↦ elim o [
    | inl h ↦ absurd (not_first t u ts us b.0 h (same t.vertex))
    | inr h ↦ absurd (not_first u t us ts a.0 h (sym (same u.vertex)))
  ]
]

pub one_combination : (v : ℕ) (a b c d : List TermView) → IsCombination v a b c → IsCombination v a b d → c ≡ d
one_combination v a b c d p q = one_list c d p.is.rising q.is.rising (λ w. p.each w ∙ sym (q.each w))
