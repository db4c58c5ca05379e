-- Where a derivation is accepted there is no valid selection.
use Rattle.std.proofs.Common.{◌≡◌, ℕ, zero, suc, List, [], ◌∷◌, ◌++◌, Some, slice_get, refl, subst}
use Rattle.std.specs.List.{AllByRecursion}
use Rattle.std.proofs.lemmas.Option.{none-some}
use Rattle.model.specs.Content.{Problem, Content}
use Rattle.model.specs.Selection.{Class, class_of, IsValidSelection}
use Rattle.model.specs.Order.{IsCatalogue}
use Rattle.model.specs.Vertices.{Owner, the_root, version_of, dep, feat}
use Rattle.model.specs.Axioms.{Kind, Term, AreApart, IsInstance, without_full}
use Rattle.model.specs.Axioms.IsInstance.{root_is, needed, has_target, has_its_feature, wants_by_list, wants_by_entry}
use Rattle.model.specs.Axioms.IsInstance.{feature_on, dependency_on, feature_asks, newest_listed, weakly}
use Rattle.model.specs.Derivation.{states_at, Step, given, combine, terms_of, IsStep, AreSteps, none_yet, one_more}
use Rattle.model.specs.Derivation.{IsAccepted}
use Rattle.model.proofs.Same.{vertex-other}
use Rattle.model.proofs.Sound.{sound}
use Rattle.model.proofs.Terms.{Allows, allows_same, allows_breaks, dropped, apart-without_full}
use Rattle.model.proofs.Combined.{combined}

feat-inner : (name : List ℕ) (k : Class) (f g : List ℕ) → feat name k f ≡ feat name k g → f ≡ g
feat-inner name k f g e = cc

dep-inner : (o : Owner) (i j : ℕ) → dep o i ≡ dep o j → i ≡ j
dep-inner o i j e = cc

-- an instance has at most one term a vertex
pub instance_apart : (q : Problem) (k : Kind) (ts : List Term) → IsInstance q k ts → AreApart ts
instance_apart q k ts root_is = (tt, tt)
instance_apart q k ts (needed the_root i d has n) = ((refl, tt), (tt, tt))
instance_apart q k ts (needed (version_of name v) i d has n) = ((refl, tt), (tt, tt))
instance_apart q k ts (has_target o i d m has c) = ((refl, tt), (tt, tt))
instance_apart q k ts (has_its_feature name m f v) = ((refl, tt), (tt, tt))
instance_apart q k ts (wants_by_list o i d m g has c a) = ((refl, tt), (tt, tt))
instance_apart q k ts (wants_by_entry name v i d m f g has c e) = ((refl, (refl, tt)), ((refl, tt), (tt, tt)))
instance_apart q k ts (feature_on name v f g e n) = (
  (refl, (refl, tt)),
  (
    (
      vertex-other (feat name (class_of v) f)
          (feat name (class_of v) g) (λ e. n (feat-inner name (class_of v) f g e)),
      tt,
    ),
    (tt, tt),
  ),
)
instance_apart q k ts (dependency_on name v i d f has e) = ((refl, (refl, tt)), ((refl, tt), (tt, tt)))
instance_apart q k ts (feature_asks name v i d f g has e) = ((refl, (refl, tt)), ((refl, tt), (tt, tt)))
instance_apart q k ts (newest_listed o i j d e m l n has had same c r lower any) =
    ((vertex-other (dep o i) (dep o j) (λ e. n (dep-inner o i j e)), (refl, tt)), ((refl, tt), (tt, tt)))
instance_apart q k ts (weakly name v i d m f g has c e n) = (
  (refl, (refl, (refl, tt))),
  ((refl, (vertex-other (feat name (class_of v) f) (feat d.real_name m g) n, tt)), ((refl, tt), (tt, tt))),
)

module _ {A : Type 0} (P : A → Type 0) where
  pub all-slice_get : (xs : List A) (i : ℕ) (x : A) → slice_get xs i ≡ Some x → AllByRecursion P xs → P x
  all-slice_get [] i x e h = cc
  all-slice_get (y ∷ xs) zero x e h = let same : y ≡ x = cc in subst P same h.0
  all-slice_get (y ∷ xs) (suc i) x e h = all-slice_get xs i x e h.1

  pub all-push : (xs : List A) (x : A) → AllByRecursion P xs → P x → AllByRecursion P (xs ++ x ∷ [])
  all-push [] x h p = (p, tt)
  all-push (y ∷ xs) x h p = (h.0, all-push xs x h.1 p)

  all-last : (xs : List A) (x : A) → AllByRecursion P (xs ++ x ∷ []) → P x
  all-last [] x h = h.0
  all-last (y ∷ xs) x h = all-last xs x h.1

module _ (q : Problem) (content : Content) (formed : IsCatalogue q) (valid : IsValidSelection q content) where
  IsRefuted : Step → Type 0
  IsRefuted s = Allows q content (terms_of s) → ⊥

  step_refuted : (earlier : List Step) (s : Step) → AllByRecursion IsRefuted earlier → IsStep q earlier s → IsRefuted s
  unfolding IsRefuted
  step_refuted earlier (given k ts) all (us, instance, same) al =
      allows_breaks q content (without_full q us) (apart-without_full q us (instance_apart q k us instance))
      (allows_same q content ts (without_full q us) same al)
      (λ b. dropped q content valid us b (sound q content valid formed k us instance))
  step_refuted earlier (combine i j v ts) all (a, b, at_a, at_b, is) al =
      combined q content valid (terms_of a) (terms_of b) ts v is al (all-slice_get IsRefuted earlier i a at_a all)
      (all-slice_get IsRefuted earlier j b at_b all)

  steps_refuted : (steps : List Step) → AreSteps q steps → AllByRecursion IsRefuted steps
  steps_refuted steps none_yet = tt
  steps_refuted steps (one_more before s are is) = let all =
      steps_refuted before are in all-push IsRefuted before s all (step_refuted before s all is)

  -- an accepted derivation and a valid selection aren't both there
  pub accepted_refutes : (steps : List Step) → IsAccepted q steps → ⊥
  unfolding IsRefuted
  accepted_refutes steps accepted =
      let f = accepted.final in
      let all : AllByRecursion IsRefuted (f.0 ++ f.1 ∷ []) =
      subst (AllByRecursion IsRefuted) f.2 (steps_refuted steps accepted.each) in
      all-last IsRefuted f.0 f.1 all (λ v ss e. absurd (none-some ss (subst (λ ts. states_at ts v ≡ Some ss) f.3 e)))
