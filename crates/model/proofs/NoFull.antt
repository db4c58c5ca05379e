-- No step of an accepted derivation has a term with all states of its vertex.
use Rattle.std.proofs.Common.{◌≡◌, List, ◌++◌, Bool, true, false, not, cond, Option, Some, None, refl, sym, ap, ◌∙◌}
use Rattle.std.proofs.Common.{subst, true≢false}
use Rattle.std.specs.List.{list_all, AllByRecursion}
use Rattle.std.proofs.lemmas.Bool.{false_from_ne_true, not-true}
use Rattle.std.proofs.lemmas.Option.{none-some, same_Some}
use Rattle.model.specs.Content.{Problem}
use Rattle.model.specs.Vertices.{Vertex, State, same_vertex, has_state, space}
use Rattle.model.specs.Axioms.{Term, at, is_full, without_full}
use Rattle.model.specs.Derivation.{states_at, SameStates, SameAt, both, union_at, meet_at, combined_at, Step, given}
use Rattle.model.specs.Derivation.{combine, terms_of, IsStep, AreSteps, none_yet, one_more}
use Rattle.model.proofs.Accepted.{all-slice_get, all-push}
use Rattle.model.proofs.Combined.{both_left}
use Rattle.model.proofs.Lists.{in_filter, all_at}
use Rattle.model.specs.inner.Checks.{HasNoFull}
use Rattle.model.proofs.Bools.{all_pass}
use Rattle.model.proofs.Sets.{term_at}

module _ (q : Problem) where
  -- to be full is a matter of the set
  full-same : (v : Vertex) (a b : List State) → SameStates a b → is_full q (at v a) ≡ is_full q (at v b)
  full-same v a b same = λ i. list_all (λ s. same s i) (space q v)

  full-wider : (v : Vertex) (a b : List State) → is_full q (at v (both a b)) ≡ true → is_full q (at v a) ≡ true
  full-wider v a b h =
      all_pass (has_state a) (space q v) (λ s c. both_left a b s (all_at (has_state (both a b)) (space q v) s h c))

  abbrev NotFullAt : Vertex → Option (List State) → Type 0
  NotFullAt v o = (ss : List State) → o ≡ Some ss → is_full q (at v ss) ≡ false

  same-not_full : (v : Vertex) (x y : Option (List State)) → SameAt x y → NotFullAt v y → NotFullAt v x
  same-not_full v None y same h ss e = absurd (none-some ss e)
  same-not_full v (Some a) None same h ss e = absurd same
  same-not_full v (Some a) (Some b) same h ss e =
      ap (λ l. is_full q (at v l)) (sym (same_Some a ss e)) ∙ full-same v a b same ∙ h b refl

  union-not_full : (v : Vertex) (x y : Option (List State)) → NotFullAt v (union_at q v x y)
  union-not_full v None y ss e = absurd (none-some ss e)
  union-not_full v (Some a) None ss e = absurd (none-some ss e)
  union-not_full v (Some a) (Some b) ss e = by (is_full q (at v (a ++ b))) refl e
    where
      by : (t : Bool) → is_full q (at v (a ++ b)) ≡ t → cond t None (Some (a ++ b)) ≡ Some ss
          → is_full q (at v ss) ≡ false
      by true f e = absurd (none-some ss e)
      by false f e = ap (λ l. is_full q (at v l)) (sym (same_Some (a ++ b) ss e)) ∙ f

  meet-not_full : (v : Vertex) (x y : Option (List State)) → NotFullAt v x → NotFullAt v y → NotFullAt v (meet_at x y)
  meet-not_full v None y h k ss e = k ss e
  meet-not_full v (Some a) None h k ss e = h ss e
  meet-not_full v (Some a) (Some b) h k ss e = ap (λ l. is_full q (at v l)) (sym (same_Some (both a b) ss e))
      ∙ false_from_ne_true (is_full q (at v (both a b))) (λ f. true≢false (sym (full-wider v a b f) ∙ h a refl))

  combined-not_full : (a b : List Term) (v w : Vertex) → HasNoFull q a → HasNoFull q b
      → NotFullAt w (combined_at q a b v w)
  combined-not_full a b v w h k = by (same_vertex v w)
    where
      by : (t : Bool) → NotFullAt w
          (cond t (union_at q w (states_at a w) (states_at b w)) (meet_at (states_at a w) (states_at b w)))
      by true = union-not_full w (states_at a w) (states_at b w)
      by false = meet-not_full w (states_at a w) (states_at b w) (h w) (k w)

  kept-not_full : (us : List Term) → HasNoFull q (without_full q us)
  kept-not_full us v ss e =
      let r = term_at (without_full q us) v ss e in
      let t = in_filter (λ t. not (is_full q t)) us r.0 r.1 in
      subst (λ w. is_full q (at w ss) ≡ false) (sym r.2)
      (subst (λ l. is_full q (at (r.0).vertex l) ≡ false) r.3 (not-true (is_full q r.0) t.1))

  step-not_full : (earlier : List Step) (s : Step) → AllByRecursion (λ s. HasNoFull q (terms_of s)) earlier
      → IsStep q earlier s → HasNoFull q (terms_of s)
  step-not_full earlier (given k ts) all (us, instance, same) v =
      same-not_full v (states_at ts v) (states_at (without_full q us) v) (same v) (kept-not_full us v)
  step-not_full earlier (combine i j v ts) all (a, b, at_a, at_b, is) w =
      same-not_full w (states_at ts w) (combined_at q (terms_of a) (terms_of b) v w) (is w)
      (combined-not_full (terms_of a) (terms_of b) v w (all-slice_get (λ s. HasNoFull q (terms_of s)) earlier i a at_a
      all) (all-slice_get (λ s. HasNoFull q (terms_of s)) earlier j b at_b all))

  pub steps-not_full : (steps : List Step) → AreSteps q steps → AllByRecursion (λ s. HasNoFull q (terms_of s)) steps
  steps-not_full steps none_yet = tt
  steps-not_full steps (one_more before s are is) = let all =
      steps-not_full before are in all-push (λ s. HasNoFull q (terms_of s)) before s all (step-not_full before s all is)
