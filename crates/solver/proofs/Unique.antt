-- Terms of which an incompatibility over numbers says the same are one, once full ones are dropped.
use Rattle.std.proofs.Common.{◌≡◌, ℕ, length, List, [], ◌∷◌, Bool, true, false, not, cond, Contains, Option, Some, None}
use Rattle.std.proofs.Common.{slice_get, refl, sym, ap, ◌∙◌, subst}
use Rattle.std.specs.Prelude.{option_map}
use Rattle.std.specs.List.{AllByRecursion}
use Rattle.std.proofs.lemmas.Option.{none-some, same_Some}
use Rattle.std.proofs.lemmas.List.{length-map}
use Rattle.version_sets.specs.Sets as sets
use Rattle.version_sets.specs.Sets.{Members}
use Rattle.terms.specs.Terms.{TermView}
use Rattle.incompatibilities.specs.Incompatibilities as numbered
use Rattle.incompatibilities.specs.Incompatibilities.{unless_full}
use Rattle.model.specs.Content.{Problem}
use Rattle.model.specs.Order.{IsCatalogue}
use Rattle.model.specs.Vertices.{Vertex, State, same_vertex, has_state, space}
use Rattle.model.specs.Axioms.{Term, at, AreApart, is_full, without_full}
use Rattle.model.specs.Derivation.{SameAt, SameTerms}
use Rattle.model.specs.Derivation as model
use Rattle.model.proofs.Same.{vertex-same}
use Rattle.model.proofs.Places.{place_of}
use Rattle.numbering.specs.Numberings.{Numbering, IsNumbering, number_in, members_at, Says}
use Rattle.numbering.proofs.ByKind.{AreWithin}
use Rattle.numbering.proofs.Places.{number_at, number_of}
use Rattle.numbering.proofs.Distinct.{states_once}
use Rattle.numbering.proofs.Sound.{spoken}
use Rattle.solver.specs.inner.Decoding.{states_in, terms_of, size_of, sizes, IsOver}
use Rattle.solver.proofs.Sets.{tested, full_tests}
use Rattle.solver.proofs.Decoded.{said, unsaid}

pub some_at : (ts : List Term) (P : Term → Type 0) → AllByRecursion P ts → (v : Vertex) (ss : List State)
    → model.states_at ts v ≡ Some ss → (t : Term) × P t × (t.vertex ≡ v) × (t.states ≡ ss)
some_at [] P h v ss e = absurd (none-some ss e)
some_at (t ∷ ts) P h v ss e = by (some_at ts P h.1 v ss) (same_vertex v t.vertex) refl e
  where
    by : (model.states_at ts v ≡ Some ss → (u : Term) × P u × (u.vertex ≡ v) × (u.states ≡ ss)) → (b : Bool)
        → same_vertex v t.vertex ≡ b
        → cond b (Some t.states) (model.states_at ts v) ≡ Some ss → (u : Term) × P u × (u.vertex ≡ v) × (u.states ≡ ss)
    by rest true s e = (t, h.0, sym (vertex-same v t.vertex s), same_Some t.states ss e)
    by rest false s e = rest e

within_at : (q : Problem) (ts : List Term) → AreWithin q ts → (v : Vertex) (ss : List State)
    → model.states_at ts v ≡ Some ss → (s : State) → has_state ss s ≡ true → has_state (space q v) s ≡ true
within_at q ts h v ss e s i =
    let r = some_at ts _ h v ss e in
    subst (λ w. has_state (space q w) s ≡ true) r.2 (r.1 s (subst (λ x. has_state x s ≡ true) (sym r.3) i))

-- what is said once full terms are dropped
abbrev pub unless_all : Problem → Vertex → Option (List State) → Option (List State)
unless_all q v None = None
unless_all q v (Some ss) = cond (is_full q (at v ss)) None (Some ss)

nowhere : (v : Vertex) (ts : List Term) → AllByRecursion (λ u. same_vertex v u.vertex ≡ false) ts
    → model.states_at ts v ≡ None
nowhere v [] h = refl
nowhere v (t ∷ ts) h = ap (λ b. cond b (Some t.states) (model.states_at ts v)) h.0 ∙ nowhere v ts h.1

pub dropped_at : (q : Problem) (ts : List Term) → AreApart ts → (v : Vertex)
    → model.states_at (without_full q ts) v ≡ unless_all q v (model.states_at ts v)
dropped_at q [] apart v = refl
dropped_at q (t ∷ ts) apart v = by (dropped_at q ts apart.1 v) (is_full q t) refl (same_vertex v t.vertex) refl
  where
    by : model.states_at (without_full q ts) v ≡ unless_all q v (model.states_at ts v) → (f : Bool) → is_full q t ≡ f
        → (b : Bool) → same_vertex v t.vertex ≡ b
        → model.states_at (cond (not f) (t ∷ without_full q ts) (without_full q ts)) v
        ≡ unless_all q v (cond b (Some t.states) (model.states_at ts v))
    by rest true full true s =
        rest ∙ ap (unless_all q v)
        (subst (λ w. model.states_at ts w ≡ None) (sym (vertex-same v t.vertex s)) (nowhere t.vertex ts apart.0))
        ∙ sym (ap (λ b. cond b None (Some t.states))
        (ap (λ w. is_full q (at w t.states)) (vertex-same v t.vertex s) ∙ full))
    by rest true full false s = rest
    by rest false full true s =
        ap (λ b. cond b (Some t.states) (model.states_at (without_full q ts) v)) s
        ∙ sym (ap (λ b. cond b None (Some t.states))
        (ap (λ w. is_full q (at w t.states)) (vertex-same v t.vertex s) ∙ full))
    by rest false full false s = ap (λ b. cond b (Some t.states) (model.states_at (without_full q ts) v)) s ∙ rest

pub same_self : (o p : Option (List State)) → o ≡ p → SameAt o p
same_self None p e = subst (SameAt None) e tt
same_self (Some a) p e = subst (SameAt (Some a)) e (λ s. refl)

module _ (q : Problem) (vs : Numbering) (known : IsCatalogue q) (ok : IsNumbering q vs) where
  -- each vertex has a number or none
  pub by_number : (P : Vertex → Type 0) (v : Vertex) → ((n : ℕ) → slice_get vs n ≡ Some v → P v)
      → (((n : ℕ) → slice_get vs n ≡ Some v → ⊥) → P v) → P v
  by_number P v there none = by (number_in vs v) refl
    where
      by : (o : Option ℕ) → number_in vs v ≡ o → P v
      by (Some n) e = there n (number_at vs v n e)
      by None e = none (λ n f. none-some n (sym e ∙ number_of vs v n ok.once f))

  pub one_reading : (made : List TermView) (ts : List Term) → Says q vs made ts → AreApart ts → AreWithin q ts
      → SameTerms (terms_of q vs made) (without_full q ts)
  one_reading made ts says apart within v =
      by_number (λ v. SameAt (model.states_at (terms_of q vs made) v) (model.states_at (without_full q ts) v)) v
      (λ n e. subst (SameAt (model.states_at (terms_of q vs made) v)) (sym (dropped_at q ts apart v))
      (subst (λ o. SameAt o (unless_all q v (model.states_at ts v)))
      (sym (said q vs ok.once made n v e ∙ ap (option_map (states_in (space q v))) (says.each n v e)))
      (numbered_at (model.states_at ts v) refl)))
      (λ none. same_self (model.states_at (terms_of q vs made) v) (model.states_at (without_full q ts) v)
      (unsaid q vs made v none
      ∙ sym (dropped_at q ts apart v ∙ ap (unless_all q v) (not_spoken none (model.states_at ts v) refl))))
    where
      not_spoken : ((n : ℕ) → slice_get vs n ≡ Some v → ⊥) → (o : Option (List State)) → model.states_at ts v ≡ o
          → model.states_at ts v ≡ None
      not_spoken none None e = e
      not_spoken none (Some ss) e = let r =
          place_of vs v (spoken (λ w. Contains vs w) ts says.numbers v ss e) in absurd (none r.0 r.1)

      numbered_at : (o : Option (List State)) → model.states_at ts v ≡ o
          → SameAt (option_map (states_in (space q v)) (unless_full (option_map (members_at q v) o))) (unless_all q v o)
      numbered_at None e = tt
      numbered_at (Some ss) e = by (sets.is_full (members_at q v ss)) refl
        where
          by : (b : Bool) → sets.is_full (members_at q v ss) ≡ b
              → SameAt (option_map (states_in (space q v)) (cond b None (Some (members_at q v ss))))
              (cond (is_full q (at v ss)) None (Some ss))
          by true f = subst (λ b. SameAt None (cond b None (Some ss))) (sym (sym (full_tests ss (space q v)) ∙ f)) tt
          by false f = subst (λ b. SameAt (Some (states_in (space q v) (members_at q v ss))) (cond b None (Some ss)))
              (sym (sym (full_tests ss (space q v)) ∙ f))
              (tested (space q v) (states_once q known v) ss (within_at q ts within v ss e))

  -- what says terms is over these numbers
  pub says_over : (made : List TermView) (ts : List Term) → Says q vs made ts → IsOver q vs made
  says_over made ts says = record {
    is = says.is;
    lies = λ n m e. by n m e (slice_get vs n) refl;
  }
    where
      unless : (n : ℕ) (v : Vertex) (m : Members) (o : Option (List State))
          → unless_full (option_map (members_at q v) o) ≡ Some m → length m ≡ length (space q v)
      unless n v m None e = absurd (none-some m e)
      unless n v m (Some ss) e = drop (sets.is_full (members_at q v ss)) e
        where
          drop : (b : Bool) → cond b None (Some (members_at q v ss)) ≡ Some m → length m ≡ length (space q v)
          drop true e = absurd (none-some m e)
          drop false e = ap length (sym (same_Some (members_at q v ss) m e)) ∙ length-map (space q v) (has_state ss)

      by : (n : ℕ) (m : Members) → numbered.states_at made n ≡ Some m → (o : Option Vertex) → slice_get vs n ≡ o
          → length m ≡ sizes q vs n
      by n m e None f = absurd (none-some m (sym (says.none n f) ∙ e))
      by n m e (Some v) f = unless n v m (model.states_at ts v) (sym (says.each n v f) ∙ e) ∙ sym (ap (size_of q) f)
