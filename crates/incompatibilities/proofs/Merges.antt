-- What each loop of a merge keeps, and that sets which fit vertex by vertex fit term by term.
use Rattle.std.proofs.Common.{◌≡◌, ℕ, suc, ◌+◌, ◌<◌, List, [], ◌∷◌, ◌++◌, drop, length, get_or, Some, refl, ap, sym}
use Rattle.std.proofs.Common.{◌∙◌, subst, append_assoc, arith, ◌⊎◌, inl, inr}
use Rattle.std.proofs.Math.Seq.{drop-cons}
use Rattle.std.proofs.lemmas.Bool.{cases_order}
use Rattle.std.proofs.lemmas.Option.{none-some}
use Rattle.version_sets.specs.Sets.{Members}
use Rattle.terms.specs.Terms.{TermView, term_view, terms_view}
use Rattle.terms.specs.declared.term.Term.{Term}
use Rattle.incompatibilities.specs.Incompatibilities.{Fit, IsRising, states_at}
use Rattle.incompatibilities.specs.inner.Merging.{FitAll, FitsIn, merged, past, up_to}
use Rattle.incompatibilities.proofs.Lookups.{absent, at_first, at_later}
use Rattle.incompatibilities.proofs.Merged.{after, before, same_vertex}

-- up to a term: what is made, with what is still to come, is the whole
pub record IsUpTo (v : ℕ) (t : TermView) (start made : List TermView) (others rest : List TermView) : Type 0 where
  pub made_is : made ++ up_to v t rest ≡ start ++ up_to v t others
  pub past_is : past t rest ≡ past t others
  pub fits : FitsIn t rest

pub record IsMerging (v : ℕ) (made first second left rest : List TermView) : Type 0 where
  pub made_is : made ++ merged v left rest ≡ merged v first second
  pub fits : FitAll left rest

fits_past : (t u : TermView) (us : List TermView) → FitsIn t us → FitsIn t (past u us)
fits_past t u [] fits = fits
fits_past t u (x ∷ us) fits = elim (cases_order x.vertex u.vertex) [
  | inl e ↦ subst (FitsIn t) (sym (same_vertex 0 u x us e).1) fits.1
  | inr o ↦ elim o [
    | inl h ↦ subst (FitsIn t) (sym (before 0 u x us h).1) (fits_past t u us fits.1)
    | inr h ↦ subst (FitsIn t) (sym (after 0 u x us h).1) fits
  ]
]

all_fit_past : (ts : List TermView) (u : TermView) (us : List TermView) → FitAll ts us → FitAll ts (past u us)
all_fit_past [] u us fits = tt
all_fit_past (t ∷ ts) u us fits = (fits_past t u us fits.0, all_fit_past ts u us fits.1)

-- one more term of the first list
pub merging_more : {S : Type 0} (tests : S → Members) (v : ℕ) (first : List (Term S)) (i : ℕ) (t : Term S)
    (second made rest made_next rest_next : List TermView)
    → i < length first → t ≡ get_or first i t
    → IsMerging v made (terms_view tests first) second (terms_view tests (drop i first)) rest
    → made_next ≡ made ++ up_to v (term_view tests t) rest → rest_next ≡ past (term_view tests t) rest
    → IsMerging v made_next (terms_view tests first) second (terms_view tests (drop (i + 1) first)) rest_next
merging_more tests v first i t second made rest made_next rest_next within here m made_is rest_is =
    let more : suc i ≡ i + 1 = omega arith in
    let split : terms_view tests (drop i first) ≡ term_view tests t ∷ terms_view tests (drop (i + 1) first) =
    ap (terms_view tests) (drop-cons first i t within ∙ ap (λ x. x ∷ drop (suc i) first) (sym here))
    ∙ ap (λ k. term_view tests t ∷ terms_view tests (drop k first)) more in
    let left : List TermView = terms_view tests (drop (i + 1) first) in
    let fits : FitAll (term_view tests t ∷ left) rest = subst (λ l. FitAll l rest) split m.fits in
    record {
      made_is =
          ap (λ l. l ++ merged v left rest_next) made_is
          ∙ ap (λ r. (made ++ up_to v (term_view tests t) rest) ++ merged v left r) rest_is
          ∙ append_assoc made (up_to v (term_view tests t) rest) (merged v left (past (term_view tests t) rest))
          ∙ ap (λ l. made ++ merged v l rest) (sym split) ∙ m.made_is;
      fits = subst (FitAll left) (sym rest_is) (all_fit_past left (term_view tests t) rest fits.1);
    }

-- sets that fit at each vertex
fits_in : (t : TermView) (us : List TermView) → IsRising us
    → ((y : Members) → states_at us t.vertex ≡ Some y → length t.states ≡ length y) → FitsIn t us
fits_in t [] r fit = tt
fits_in t (u ∷ us) r fit = (
  (λ e. fit u.states (at_first u us t.vertex e)),
  fits_in t us r.1 (λ y e. later y e (cases_order u.vertex t.vertex)),
)
  where
    later : (y : Members) → states_at us t.vertex ≡ Some y
        → (u.vertex ≡ t.vertex) ⊎ ((u.vertex < t.vertex) ⊎ (t.vertex < u.vertex)) → length t.states ≡ length y
    later y e (inl s) = absurd (none-some y (sym (absent u.vertex t.vertex us r.0 (omega arith)) ∙ e))
    later y e (inr (inl h)) = fit y (at_later u us t.vertex (λ (s : u.vertex ≡ t.vertex). omega arith) ∙ e)
    later y e (inr (inr h)) = absurd (none-some y (sym (absent u.vertex t.vertex us r.0 (omega arith)) ∙ e))

fits_each : (g : List TermView) (ts us : List TermView) → IsRising ts → IsRising us
    → ((w : ℕ) (x : Members) → states_at ts w ≡ Some x → states_at g w ≡ Some x)
    → Fit (states_at g) (states_at us) → FitAll ts us
fits_each g [] us a b part fit = tt
fits_each g (t ∷ ts) us a b part fit = (
  fits_in t us b (λ y e. fit t.vertex t.states y (part t.vertex t.states (at_first t ts t.vertex refl)) e),
  fits_each g ts us a.1 b (λ w x e. part w x (from_later w x e (cases_order t.vertex w))) fit,
)
  where
    from_later : (w : ℕ) (x : Members) → states_at ts w ≡ Some x → (t.vertex ≡ w) ⊎ ((t.vertex < w) ⊎ (w < t.vertex))
        → states_at (t ∷ ts) w ≡ Some x
    from_later w x e (inl s) = absurd (none-some x (sym (absent t.vertex w ts a.0 (omega arith)) ∙ e))
    from_later w x e (inr (inl h)) = at_later t ts w (λ (s : t.vertex ≡ w). omega arith) ∙ e
    from_later w x e (inr (inr h)) = at_later t ts w (λ (s : t.vertex ≡ w). omega arith) ∙ e

pub fits_all : (ts us : List TermView) → IsRising ts → IsRising us → Fit (states_at ts) (states_at us) → FitAll ts us
fits_all ts us a b fit = fits_each ts ts us a b (λ w x e. e) fit
