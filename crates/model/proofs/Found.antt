-- Terms are those of an instance exactly where they pass the test.
use Rattle.std.proofs.Common.{◌≡◌, ◌↔◌, ℕ, List, cond, true, false, Option, Some, None, refl, sym, ap, ◌∙◌, subst}
use Rattle.std.proofs.Common.{true≢false}
use Rattle.std.specs.List.{find}
use Rattle.std.specs.Option.{option_or}
use Rattle.std.proofs.lemmas.Option.{none-some, same_Some}
use Rattle.model.specs.Content.{Problem}
use Rattle.model.specs.Selection.{Class}
use Rattle.model.specs.Vertices.{Owner, version_of}
use Rattle.model.specs.Axioms.{Term, Kind, Root, Needed, Target, HasFeature, WantsFeature, FeatureOnFeature}
use Rattle.model.specs.Axioms.{FeatureOnDependency, FeatureAsks, NewestListed, WeakFeature, AreApart, is_lower}
use Rattle.model.specs.Axioms.{IsInstance, without_full}
use Rattle.model.specs.Axioms.IsInstance.{root_is, needed, has_target, has_its_feature, wants_by_list, wants_by_entry}
use Rattle.model.specs.Axioms.IsInstance.{feature_on, dependency_on, feature_asks, newest_listed, weakly}
use Rattle.model.specs.Derivation.{SameTerms}
use Rattle.model.proofs.Same.{both}
use Rattle.model.specs.inner.Terms.{same_terms}
use Rattle.model.specs.Causes.{Cause, of_root, of_need, of_target, of_feature, of_list, of_ask, of_entry}
use Rattle.model.specs.Causes.{of_enabling, of_asking, of_newest, of_weak, kind_of, enables, dependency_at}
use Rattle.model.specs.Causes.{entries_of, is_cause, terms_of_cause}
use Rattle.model.specs.inner.Instances.{◌>>=◌, first_read, owner_read, version_read, led_read, other_read}
use Rattle.model.specs.inner.Instances.{feature_read}
use Rattle.model.specs.inner.Instances.{on_read, off_read, ask_read, number_read, needed_unmatched}
use Rattle.model.specs.inner.Instances.{enabled_unmatched}
use Rattle.model.specs.inner.Instances.{ask_in, list_in, newest_of, cause_in, is_its_if, is_instance}
use Rattle.model.proofs.CauseLaws.{cause_instance}
use Rattle.model.proofs.Sets.{same_terms-is}
use Rattle.model.proofs.FoundTerms.{accept}
use Rattle.model.proofs.FoundNeeds.{need_found, target_found, list_found, ask_found, newest_found}
use Rattle.model.proofs.FoundFeatures.{feature_found, entry_found, asking_found, enabling_found, weak_found}

module _ (q : Problem) (ts : List Term) (apart : AreApart ts) where
  -- the terms of an instance pass
  pub found : (k : Kind) (us : List Term) → IsInstance q k us → SameTerms ts (without_full q us)
      → is_instance q k ts ≡ true
  found k us root_is same = accept q ts apart Root of_root us refl refl refl same
  found k us (needed o i d h n) same = need_found q ts apart o i d h n same
  found k us (has_target o i d m h c) same = target_found q ts apart o i d m h c same
  found k us (has_its_feature name m f v) same = feature_found q ts apart name m f v same
  found k us (wants_by_list o i d m g h c a) same = list_found q ts apart o i d m g h c a same
  found k us (wants_by_entry name v i d m f g h c e) same = ask_found q ts apart name v i d m f g h c e same
  found k us (feature_on name v f g e n) same = entry_found q ts apart name v f g e n same
  found k us (dependency_on name v i d f h e) same = enabling_found q ts apart name v i d f h e same
  found k us (feature_asks name v i d f g h e) same = asking_found q ts apart name v i d f g h e same
  found k us (newest_listed o i j d e m l n h had name c r lower any) same =
      newest_found q ts apart o i j d e m l n h had name c r lower any same
  found k us (weakly name v i d m f g h c e n) same = weak_found q ts apart name v i d m f g h c e n same

-- what is found for a kind is a cause of that kind
module _ {A : Type 0} where
  reading : (o : Option A) (f : A → Option Cause) (k : Kind) → ((a : A) (c : Cause) → f a ≡ Some c → kind_of c ≡ k)
      → (c : Cause) → (o >>= f) ≡ Some c → kind_of c ≡ k
  reading None f k h c e = absurd (none-some c e)
  reading (Some a) f k h c e = h a c e

is_kind : (x : Cause) (k : Kind) → kind_of x ≡ k → (c : Cause) → Some x ≡ Some c → kind_of c ≡ k
is_kind x k h c e = ap kind_of (sym (same_Some x c e)) ∙ h

either : (x y : Option Cause) (k : Kind) → ((c : Cause) → x ≡ Some c → kind_of c ≡ k)
    → ((c : Cause) → y ≡ Some c → kind_of c ≡ k) → (c : Cause) → option_or x y ≡ Some c → kind_of c ≡ k
either None y k f g c e = g c e
either (Some x) y k f g c e = f c e

newest_kind : (o : Owner) (i : ℕ) (k : Class) (j : ℕ) (m : Class) → kind_of (newest_of o i k j m) ≡ NewestListed
newest_kind o i k j m = elim (is_lower k m) as
    (λ b. kind_of (cond b (of_newest o i j k m) (of_newest o j i m k)) ≡ NewestListed) [ true ↦ refl | false ↦ refl ]

cause_kind : (q : Problem) (k : Kind) (ts : List Term) (c : Cause) → cause_in q k ts ≡ Some c → kind_of c ≡ k
cause_kind q Root ts c e = is_kind of_root Root refl c e
cause_kind q Needed ts c e = reading (first_read owner_read ts) _ Needed (λ o.
    reading (option_or (number_read ts) (needed_unmatched q o)) _ Needed (λ i. is_kind (of_need o i) Needed refl)) c e
cause_kind q Target ts c e =
    reading (first_read led_read ts) _ Target (λ l. is_kind (of_target l.0 l.1 l.2) Target refl) c e
cause_kind q HasFeature ts c e =
    reading (first_read feature_read ts) _ HasFeature (λ f. is_kind (of_feature f.0 f.1 f.2) HasFeature refl) c e
cause_kind q WantsFeature ts c e = either (ask_in ts) (list_in ts) WantsFeature
    (λ c e. reading (first_read ask_read ts) _ WantsFeature (λ a. reading (first_read led_read ts) _ WantsFeature
    (λ l. is_kind (of_ask a.0 a.1 a.2 a.3 l.2) WantsFeature refl)) c e)
    (λ c e. reading (first_read led_read ts) _ WantsFeature (λ l. reading (first_read off_read ts) _ WantsFeature
    (λ g. is_kind (of_list l.0 l.1 l.2 g) WantsFeature refl)) c e) c e
cause_kind q FeatureOnFeature ts c e = reading (first_read version_read ts) _ FeatureOnFeature
    (λ p. reading (first_read on_read ts) _ FeatureOnFeature (λ f. reading (first_read off_read ts) _
    FeatureOnFeature (λ g. is_kind (of_entry p.0 p.1 f g) FeatureOnFeature refl))) c e
cause_kind q FeatureOnDependency ts c e = reading (first_read version_read ts) _ FeatureOnDependency
    (λ p. reading (first_read on_read ts) _ FeatureOnDependency
    (λ f. reading (option_or (number_read ts) (enabled_unmatched q p.0 p.1 f)) _ FeatureOnDependency
    (λ i. reading (dependency_at q (version_of p.0 p.1) i) _ FeatureOnDependency
    (λ d. reading (find (enables d.name) (entries_of q p.0 p.1 f)) _ FeatureOnDependency
    (λ e. is_kind (of_enabling p.0 p.1 f e i) FeatureOnDependency refl))))) c e
cause_kind q FeatureAsks ts c e = reading (first_read version_read ts) _ FeatureAsks
    (λ p. reading (first_read on_read ts) _ FeatureAsks (λ f. reading (first_read ask_read ts) _ FeatureAsks
    (λ a. is_kind (of_asking p.0 p.1 f a.3 a.2) FeatureAsks refl))) c e
cause_kind q NewestListed ts c e = reading (first_read led_read ts) _ NewestListed
    (λ l. reading (first_read (other_read l.1) ts) _ NewestListed
    (λ m. is_kind (newest_of l.0 l.1 l.2 m.0 m.1) NewestListed (newest_kind l.0 l.1 l.2 m.0 m.1))) c e
cause_kind q WeakFeature ts c e = reading (first_read version_read ts) _ WeakFeature
    (λ p. reading (first_read on_read ts) _ WeakFeature
    (λ f. reading (first_read off_read ts) _ WeakFeature (λ g. reading (first_read led_read ts) _ WeakFeature
    (λ l. is_kind (of_weak p.0 p.1 f g l.1 l.2) WeakFeature refl)))) c e

-- Terms of which no two speak of one vertex pass the test exactly where they are those of an instance of the kind,
-- without full ones.
pub instance-is : (q : Problem) (k : Kind) (ts : List Term) → AreApart ts
    → is_instance q k ts ≡ true ↔ ((us : List Term) × IsInstance q k us × SameTerms ts (without_full q us))
instance-is q k ts apart = (λ h. by (cause_in q k ts) refl h, λ (us, inst, same). found q ts apart k us inst same)
  where
    by : (o : Option Cause) → cause_in q k ts ≡ o → is_its_if q ts o ≡ true
        → (us : List Term) × IsInstance q k us × SameTerms ts (without_full q us)
    by None e h = absurd (true≢false (sym h))
    by (Some c) e h =
        let x = both (is_cause q c) (same_terms ts (without_full q (terms_of_cause q c))) h in (
          terms_of_cause q c,
          subst (λ k. IsInstance q k (terms_of_cause q c)) (cause_kind q k ts c e)
              (cause_instance q c x.0),
          (same_terms-is ts (without_full q (terms_of_cause q c))).0 x.1,
        )
