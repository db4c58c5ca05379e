-- What is kept stays right, where one more is kept.
use Rattle.std.proofs.Common.{◌≡◌, ℕ, Bool, true, ◌&&◌, List, Some, Result, OnOk, OnErr}
use Rattle.std.proofs.Common.{sym, Vec, ap, ap₂, ◌∙◌, subst}
use Rattle.std.specs.BTreeSet.{BTreeSet}
use Rattle.std.specs.Borrow.{Bor}
use Rattle.std.specs.HashMap.{HashMap, IsUnchanged, Updates}
use Rattle.std.specs.declared.alloc.Global.{Global}
use Rattle.semver.specs.Parse.{Held}
use Rattle.classes.proofs.SameClass.{class_same}
use Rattle.classes.specs.Classes.{class_view}
use Rattle.classes.specs.declared.class.Class as code
use Rattle.features.specs.Views.{requirement_view}
use Rattle.model.specs.Content.{Problem}
use Rattle.model.specs.Selection.{Class}
use Rattle.model.specs.Summary.{same_text}
use Rattle.model.specs.Vertices.{State}
use Rattle.model.proofs.Same.{both, class-same, text-same}
use Rattle.axioms.specs.inner.Keeping.{AreAll, AreClasses, AreKept, AreMatched, Ask, ClassAsk, IsKept}
use Rattle.axioms.specs.inner.Keeping.{AreHad, AreHadBy, AreLacking, AreReleases, AreReleasesIn, AreThose}
use Rattle.axioms.specs.inner.Keeping.{FeatureAsk}
use Rattle.axioms.specs.inner.Keeping.{NameClass, all_releases, classes_in, is_had, lacking_in, same_ask}
use Rattle.axioms.specs.inner.Keeping.{same_class_ask}
use Rattle.axioms.specs.inner.Keeping.{same_feature_ask, same_name_class}
use Rattle.features.proofs.Requirements.{requirement-same}
use Rattle.lookups.proofs.Kept.{kept_after}

-- equal keys are of one name and one requirement
pub ask_alike : {A : Type 0} (found : List ℕ → List Held → A) (x y : Ask) → same_ask x y ≡ true
    → found x.0.now (requirement_view x.1.now) ≡ found y.0.now (requirement_view y.1.now)
ask_alike found x y e =
    let b = both (same_text x.0.now y.0.now) _ e in
    ap₂ found (text-same x.0.now y.0.now b.0) (requirement-same x.1.now y.1.now b.1)

-- and of one class
pub class_ask_alike : {V : Type 0} (found : List ℕ → List Held → Class → V) (x y : ClassAsk) (v : V)
    → same_class_ask x y ≡ true → IsKept found x v → IsKept found y v
class_ask_alike found x y v e is =
    let b = both (same_ask x.0 y.0) _ e in
    let k = class-same (class_view x.1) (class_view y.1) (sym (class_same x.1 y.1) ∙ b.1) in
    is ∙ ask_alike (λ name req. found name req (class_view x.1)) x.0 y.0 b.0
    ∙ ap (found y.0.0.now (requirement_view y.0.1.now)) k

pub put_kept : {V : Type 0} (found : List ℕ → List Held → Class → V) {S X E : Type 0}
    (m after : HashMap ClassAsk V S) (x : ClassAsk) (v : V) (r : Result X E)
    → OnOk r (Updates same_class_ask m after x (Some v)) → OnErr r (IsUnchanged m after) → AreKept found m
    → IsKept found x v → AreKept found after
put_kept found m after x v r u e are one =
    kept_after same_class_ask (IsKept found) (class_ask_alike found) m after x v r u e are one

pub put_classes : (q : Problem) {S X E : Type 0} (m after : HashMap Ask (Vec code.Class Global) S) (x : Ask)
    (ks : Vec code.Class Global) (r : Result X E)
    → OnOk r (Updates same_ask m after x (Some ks)) → OnErr r (IsUnchanged m after) → AreMatched q m
    → AreClasses q x ks → AreMatched q after
put_classes q m after x ks r u e are one =
    kept_after same_ask (AreClasses q)
    (λ x y ks same is. subst (λ all. AreAll all ks.items) (ask_alike (classes_in q) x y same) is)
    m after x ks r u e are one

pub put_lacking : (q : Problem) {S X E : Type 0} (m after : HashMap FeatureAsk (List State) S) (x : FeatureAsk)
    (ss : List State) (r : Result X E)
    → OnOk r (Updates same_feature_ask m after x (Some ss)) → OnErr r (IsUnchanged m after) → AreLacking q m
    → AreThose q x ss → AreLacking q after
put_lacking q m after x ss r u e are one = kept_after same_feature_ask (AreThose q) alike m after x ss r u e are one
  where
    alike : (x y : FeatureAsk) (ss : List State) → same_feature_ask x y ≡ true → AreThose q x ss → AreThose q y ss
    alike x y ss same is =
        let b = both (same_text x.0.0.now y.0.0.now && same_text x.0.1.now y.0.1.now) _ same in
        let n = both (same_text x.0.0.now y.0.0.now) _ b.0 in
        let k = class-same (class_view x.1) (class_view y.1) (sym (class_same x.1 y.1) ∙ b.1) in
        is ∙ ap₂ (λ name f. lacking_in q name f (class_view x.1)) (text-same x.0.0.now y.0.0.now n.0)
        (text-same x.0.1.now y.0.1.now n.1) ∙ ap (lacking_in q y.0.0.now y.0.1.now) k

pub put_had : (q : Problem) {S X E : Type 0} (m after : HashMap NameClass (BTreeSet (Bor (List ℕ))) S) (x : NameClass)
    (fs : BTreeSet (Bor (List ℕ))) (r : Result X E)
    → OnOk r (Updates same_name_class m after x (Some fs)) → OnErr r (IsUnchanged m after) → AreHad q m
    → AreHadBy q x fs → AreHad q after
put_had q m after x fs r u e are one = kept_after same_name_class (AreHadBy q) alike m after x fs r u e are one
  where
    alike : (x y : NameClass) (fs : BTreeSet (Bor (List ℕ))) → same_name_class x y ≡ true → AreHadBy q x fs
        → AreHadBy q y fs
    alike x y fs same is f =
        let b = both (same_text x.0.now y.0.now) _ same in
        let k = class-same (class_view x.1) (class_view y.1) (sym (class_same x.1 y.1) ∙ b.1) in
        is f ∙ ap₂ (λ name c. is_had q name c f) (text-same x.0.now y.0.now b.0) k

pub put_releases : (q : Problem) {S X E : Type 0} (m after : HashMap NameClass Bool S) (x : NameClass) (b : Bool)
    (r : Result X E)
    → OnOk r (Updates same_name_class m after x (Some b)) → OnErr r (IsUnchanged m after) → AreReleases q m
    → AreReleasesIn q x b → AreReleases q after
put_releases q m after x b r u e are one = kept_after same_name_class (AreReleasesIn q) alike m after x b r u e are one
  where
    alike : (x y : NameClass) (b : Bool) → same_name_class x y ≡ true → AreReleasesIn q x b → AreReleasesIn q y b
    alike x y b same is =
        let two = both (same_text x.0.now y.0.now) _ same in
        let k = class-same (class_view x.1) (class_view y.1) (sym (class_same x.1 y.1) ∙ two.1) in
        is ∙ ap₂ (all_releases q) (text-same x.0.now y.0.now two.0) k
