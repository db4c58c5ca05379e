-- A row, decoded, is an accepted derivation.
use Rattle.std.proofs.Common.{◌≡◌, ℕ, zero, suc, ◌-◌, ◌<◌, List, [], ◌∷◌, ◌++◌, length, take, append_assoc, cond}
use Rattle.std.proofs.Common.{Option}
use Rattle.std.proofs.Common.{Some, None, slice_get, refl, sym, ap, ◌∙◌, subst, arith, true, true≢false}
use Rattle.std.specs.Option.{is_some}
use Rattle.std.proofs.lemmas.Option.{none-some, same_Some}
use Rattle.version_sets.specs.Sets.{Members}
use Rattle.terms.specs.Terms.{TermView}
use Rattle.incompatibilities.specs.Incompatibilities.{states_at as numbered_at}
use Rattle.incompatibilities.specs.Stores.{EntryView, touches}
use Rattle.solver.specs.inner.Flats.{AreFlat, FlatView, IsUnrolled, SourceFits, flat}
use Rattle.solver.specs.declared.flat.Source.{Source}
use Rattle.solver.specs.declared.flat.Source.TheVariants.{Axiom, Combined}
use Rattle.model.specs.Content.{Problem}
use Rattle.model.specs.Order.{IsCatalogue}
use Rattle.model.specs.Vertices.{Vertex}
use Rattle.model.specs.Axioms.{Term, IsInstance, without_full}
use Rattle.model.specs.Derivation.{states_at, SameAt, SameTerms, Step, given, combine, IsStep, AreSteps, none_yet}
use Rattle.model.specs.Derivation.{one_more, IsAccepted}
use Rattle.model.specs.Derivation as model
use Rattle.model.proofs.Same.{vertex-refl}
use Rattle.model.proofs.Accepted.{instance_apart}
use Rattle.numbering.specs.Numberings.{Numbering, IsNumbering}
use Rattle.numbering.proofs.ByKind.{instance_there}
use Rattle.solver.specs.inner.Decoding.{terms_of, IsOver}
use Rattle.solver.specs.inner.Steps.{AreGiven, IsGiven, IsBy, IsStepOf, AreStepsOf}
use Rattle.vertices.specs.Texts.{kind_at}
use Rattle.solver.proofs.Growth.{has_vertex}
use Rattle.solver.proofs.Unique.{one_reading, says_over}
use Rattle.solver.proofs.Combining.{over_combined, decoded_combination}
use Rattle.solver.proofs.Likeness.{like_trans, combined_alike}

get_take : {X : Type 0} (xs : List X) (i k : ℕ) (x : X) → slice_get xs i ≡ Some x → i < k
    → slice_get (take k xs) i ≡ Some x
get_take [] i k x e lt = absurd (none-some x e)
get_take (y ∷ xs) i zero x e lt = absurd (omega (arith, lt))
get_take (y ∷ xs) zero (suc k) x e lt = e
get_take (y ∷ xs) (suc i) (suc k) x e lt = get_take xs i k x e (omega (arith, lt))

-- steps each of which is one after those before it
steps_after : (q : Problem) (done rest : List Step) → AreSteps q done
    → ((k : ℕ) (s : Step) → slice_get rest k ≡ Some s → IsStep q (done ++ take k rest) s) → AreSteps q (done ++ rest)
steps_after q done [] are h = subst (AreSteps q) (sym (append_none done)) are
  where
    append_none : (xs : List Step) → xs ++ [] ≡ xs
    append_none [] = refl
    append_none (x ∷ xs) = ap (λ l. x ∷ l) (append_none xs)
steps_after q done (s ∷ rest) are h =
    subst (AreSteps q) (append_assoc done (s ∷ []) rest)
    (steps_after q (done ++ s ∷ []) rest
    (one_more done s are (subst (λ l. IsStep q l s) (none_more done) (h zero s refl)))
    (λ k r e. subst (λ l. IsStep q l r) (sym (append_assoc done (s ∷ []) (take k rest))) (h (suc k) r e)))
  where
    none_more : (xs : List Step) → xs ++ [] ≡ xs
    none_more [] = refl
    none_more (x ∷ xs) = ap (λ l. x ∷ l) (none_more xs)

module _ (q : Problem) (vs : Numbering) where
  -- the step at a place is that of the one there
  step_at : (fs : List FlatView) (steps : List Step) → AreStepsOf q vs fs steps → (k : ℕ) → k < length fs
      → (s : Step) × (slice_get steps k ≡ Some s) × IsStepOf q vs (flat fs k) s
  step_at [] steps are k lt = absurd (omega (arith, lt))
  step_at (f ∷ fs) [] are k lt = absurd are
  step_at (f ∷ fs) (s ∷ steps) are zero lt = (s, refl, are.0)
  step_at (f ∷ fs) (s ∷ steps) are (suc k) lt = step_at fs steps are.1 k (omega (arith, lt))

  flat_at : (fs : List FlatView) (steps : List Step) → AreStepsOf q vs fs steps → (k : ℕ) (s : Step)
      → slice_get steps k ≡ Some s → (k < length fs) × IsStepOf q vs (flat fs k) s
  flat_at fs [] are k s e = absurd (none-some s e)
  flat_at [] (r ∷ steps) are k s e = absurd are
  flat_at (f ∷ fs) (r ∷ steps) are zero s e = (omega arith, subst (IsStepOf q vs f) (same_Some r s e) are.0)
  flat_at (f ∷ fs) (r ∷ steps) are (suc k) s e =
      let rest = flat_at fs steps are.1 k s e in ((let lt = rest.0 in omega (arith, lt)), rest.1)

  last_step : (fs : List FlatView) (steps : List Step) (k : ℕ) → AreStepsOf q vs fs steps → length fs ≡ suc k
      → (before : List Step) × (s : Step) × (steps ≡ before ++ s ∷ []) × IsStepOf q vs (flat fs k) s
  last_step [] steps k are long = absurd (omega (arith, long))
  last_step (f ∷ fs) [] k are long = absurd are
  last_step (f ∷ []) (s ∷ []) zero are long = ([], s, refl, are.0)
  last_step (f ∷ []) (s ∷ r ∷ steps) zero are long = absurd are.1
  last_step (f ∷ g ∷ fs) (s ∷ steps) zero are long = absurd (omega (arith, long))
  last_step (f ∷ []) (s ∷ steps) (suc k) are long = absurd (omega (arith, long))
  last_step (f ∷ g ∷ fs) (s ∷ steps) (suc k) are long =
      let r = last_step (g ∷ fs) steps k are.1 (omega (arith, long)) in (s ∷ r.0, r.1, ap (λ l. s ∷ l) r.2, r.3)

  module _ (known : IsCatalogue q) (ok : IsNumbering q vs) (es : List EntryView) (axioms : AreGiven q vs es)
      (fs : List FlatView) (founded : AreFlat es fs) where
    -- an axiom of the row is an instance
    given_at : (k n : ℕ) (ts : List TermView) → SourceFits es fs k ts (Axiom n) → IsGiven q vs n ts
    given_at k n ts fits = subst (IsGiven q vs n) fits.3 (axioms fits.0 n fits.1 fits.2)

    -- each of the row is over these numbers
    over_below : (n k : ℕ) → k < n → k < length fs → IsOver q vs (flat fs k).terms
    over_below zero k lt within = absurd (omega (arith, lt))
    over_below (suc n) k lt within = by (flat fs k).source (founded k within) (λ i less. over_below n i less)
      where
        by : (s : Source) → SourceFits es fs k (flat fs k).terms s
            → ((i : ℕ) → i < n → i < length fs → IsOver q vs (flat fs i).terms) → IsOver q vs (flat fs k).terms
        by (Axiom m) fits rest =
            let r = given_at k m (flat fs k).terms fits in says_over q vs known ok (flat fs k).terms r.0 r.2
        by (Combined i j m) fits rest =
            let first = fits.0 in
            let second = fits.1 in
            over_combined q vs known ok m (flat fs i).terms (flat fs j).terms (flat fs k).terms
            (rest i (omega (arith, first, lt)) (omega (arith, first, within)))
            (rest j (omega (arith, second, lt)) (omega (arith, second, within))) fits.3

    pub over : (k : ℕ) → k < length fs → IsOver q vs (flat fs k).terms
    over k within = over_below (suc k) k (omega arith) within

    -- the vertex of a combination has a number, since the first of the two speaks of it
    pub vertex_of : (ts : List TermView) (n : ℕ) → IsOver q vs ts → touches n ts ≡ true
        → (v : Vertex) × (slice_get vs n ≡ Some v)
    vertex_of ts n is h = by (numbered_at ts n) refl
      where
        by : (o : Option Members) → numbered_at ts n ≡ o → (v : Vertex) × (slice_get vs n ≡ Some v)
        by None e = absurd (true≢false (sym h ∙ ap is_some e))
        by (Some m) e = has_vertex q vs ts n m is e

    module _ (steps : List Step) (are : AreStepsOf q vs fs steps) where
      each : (k : ℕ) (s : Step) → slice_get steps k ≡ Some s → IsStep q (take k steps) s
      each k s got =
          let r = flat_at fs steps are k s got in
          by r.0 (flat fs k).source (founded k r.0) s (r.1).by (r.1).terms
        where
          by : k < length fs → (o : Source) → SourceFits es fs k (flat fs k).terms o → (s : Step) → IsBy vs o s
              → SameTerms (model.terms_of s) (terms_of q vs (flat fs k).terms) → IsStep q (take k steps) s
          by within (Axiom n) fits (given kind ts) is same =
              let r = given_at k n (flat fs k).terms fits in (
                r.0,
                subst (λ x. IsInstance q x r.0) (sym is) r.1,
                λ v. like_trans (states_at ts v) (states_at (terms_of q vs (flat fs k).terms) v)
                    (states_at (without_full q r.0) v) (same v)
                    (one_reading q vs known ok (flat fs k).terms r.0 r.2 (instance_apart q (kind_at n) r.0 r.1)
                    (instance_there q (kind_at n) r.0 r.1).0 v),
              )
          by within (Axiom n) fits (combine a b v ts) is same = absurd is
          by within (Combined i j n) fits (given kind ts) is same = absurd is
          by within (Combined i j n) fits (combine a b v ts) is same =
              let first = fits.0 in
              let second = fits.1 in
              let x = step_at fs steps are i (omega (arith, first, within)) in
              let y = step_at fs steps are j (omega (arith, second, within)) in (
                x.0,
                y.0,
                subst (λ m. slice_get (take k steps) m ≡ Some x.0) (sym is.0) (get_take steps i k x.0 x.1 first),
                subst (λ m. slice_get (take k steps) m ≡ Some y.0) (sym is.1) (get_take steps j k y.0 y.1 second),
                combined_alike q v (terms_of q vs (flat fs i).terms) (terms_of q vs (flat fs j).terms)
                    (terms_of q vs (flat fs k).terms) (model.terms_of x.0) (model.terms_of y.0) ts
                    (x.2).terms (y.2).terms same
                    (decoded_combination q vs known ok (flat fs i).terms (flat fs j).terms (flat fs k).terms n v is.2
                    (over i (omega (arith, first, within))) (over j (omega (arith, second, within))) fits.3),
              )

      pub are_steps : AreSteps q steps
      are_steps = steps_after q [] steps none_yet each

      no_term : (ts : List Term) → SameTerms ts [] → ts ≡ []
      no_term [] h = refl
      no_term (t ∷ ts) h = absurd (subst (λ b. SameAt (cond b (Some t.states) (states_at ts t.vertex)) None)
          (vertex-refl t.vertex) (h t.vertex))

      pub ended : (k : ℕ) → length fs ≡ suc k → (flat fs k).terms ≡ [] → IsAccepted q steps
      ended k long none =
          let r = last_step fs steps k are long in
          record {
            each = are_steps;
            final = (
              r.0,
              r.1,
              r.2,
              no_term (model.terms_of r.1)
                  (subst (λ l. SameTerms (model.terms_of r.1) (terms_of q vs l)) none (r.3).terms),
            );
          }

pub accepted : (q : Problem) (vs : Numbering) (es : List EntryView) (last : ℕ) (fs : List FlatView) (steps : List Step)
    → IsCatalogue q → IsNumbering q vs → AreGiven q vs es → IsUnrolled es last fs → AreStepsOf q vs fs steps
    → (flat fs (length fs - 1)).terms ≡ [] → IsAccepted q steps
accepted q vs es last fs steps known ok axioms row are none = let some = row.some in
    ended q vs known ok es axioms fs row.founded steps are (length fs - 1) (omega (arith, some)) none
