-- What requirements match and which versions lack a feature, kept by what it was looked up with.
use Rattle.std.specs.Prelude.{◌≡◌, ◌&&◌, not, nat_eq, ℕ, Bool, List, ◌∷◌, Vec, map, filter}
use Rattle.std.specs.BTreeSet.{BTreeSet}
use Rattle.std.specs.Borrow.{Bor}
use Rattle.std.specs.Cmp.Lexicographic.{pointwise}
use Rattle.std.specs.HashMap.{HashMap}
use Rattle.std.specs.List.{list_any, list_all}
use Rattle.std.specs.declared.alloc.Global.{Global}
use Rattle.semver.specs.EvalViews.{matches_views}
use Rattle.semver.specs.Parse.{Held}
use Rattle.semver.specs.contracts.VersionReqPartialEq.TheImpl as requirements
use Rattle.semver.specs.declared.VersionReq.{VersionReq}
use Rattle.classes.specs.Classes.{class_view}
use Rattle.classes.specs.contracts.class.ClassPartialEq.TheImpl as class_eq
use Rattle.classes.specs.declared.class.Class as code
use Rattle.features.specs.inner.Texts.{HasThose}
use Rattle.features.specs.Views.{requirement_view}
use Rattle.lookups.specs.inner.Matching.{is_release}
use Rattle.lookups.specs.inner.Numbers.{AreRight}
use Rattle.model.specs.Content.{Problem, candidates_of}
use Rattle.model.specs.Selection.{Class}
use Rattle.model.specs.Summary.{has_feature}
use Rattle.model.specs.Vertices.{State, absent, version, in_class, has_state, class_candidates, classes_of}

-- a name, and a requirement on it
abbrev pub Ask : Type 0
Ask = Bor (List ℕ) × Bor VersionReq

-- and a class of the name
abbrev pub ClassAsk : Type 0
ClassAsk = Ask × code.Class

abbrev pub same_ask : Ask → Ask → Bool
same_ask x y = pointwise nat_eq x.0.now y.0.now && (requirements.eq-value).it x.1.now y.1.now

abbrev pub same_class_ask : ClassAsk → ClassAsk → Bool
same_class_ask x y = same_ask x.0 y.0 && (class_eq.eq-value).it x.1 y.1

-- ---- of a name, a requirement on it and a class

-- whether some candidate is matched
abbrev pub some_in : Problem → List ℕ → List Held → Class → Bool
some_in q name req k = list_any (λ c. matches_views req c.version) (class_candidates q name k)

-- the states of those that are matched
abbrev pub taken_in : Problem → List ℕ → List Held → Class → List State
taken_in q name req k =
    map (λ c. version c.version) (filter (λ c. matches_views req c.version) (class_candidates q name k))

-- `absent`, and those of the others
abbrev pub left_in : Problem → List ℕ → List Held → Class → List State
left_in q name req k =
    absent ∷ map (λ c. version c.version) (filter (λ c. not (matches_views req c.version)) (class_candidates q name k))

abbrev pub IsKept : {V : Type 0} → (List ℕ → List Held → Class → V) → ClassAsk → V → Type 0
IsKept found x v = v ≡ found x.0.0.now (requirement_view x.0.1.now) (class_view x.1)

abbrev pub AreKept : {V S : Type 0} → (List ℕ → List Held → Class → V) → HashMap ClassAsk V S → Type 0
AreKept found m = AreRight same_class_ask (IsKept found) m

-- ---- of a name and a requirement on it

-- whether all these classes are among the states
abbrev pub all_classes : List State → List code.Class → Bool
all_classes ss ks = list_all (λ k. has_state ss (in_class (class_view k))) ks

-- the one list has the classes of the other, as far as sets of states tell
abbrev pub AreAll : List Class → List code.Class → Type 0
AreAll all ks = (ss : List State) → all_classes ss ks ≡ list_all (has_state ss) (map in_class all)

-- the classes in which some candidate is matched
abbrev pub classes_in : Problem → List ℕ → List Held → List Class
classes_in q name req = classes_of (filter (λ c. matches_views req c.version) (candidates_of q.candidates name))

abbrev pub AreClasses : Problem → Ask → Vec code.Class Global → Type 0
AreClasses q x ks = AreAll (classes_in q x.0.now (requirement_view x.1.now)) ks.items

abbrev pub AreMatched : {S : Type 0} → Problem → HashMap Ask (Vec code.Class Global) S → Type 0
AreMatched q m = AreRight same_ask (AreClasses q) m

-- ---- of a name, a feature and a class

abbrev pub FeatureAsk : Type 0
FeatureAsk = (Bor (List ℕ) × Bor (List ℕ)) × code.Class

abbrev pub same_feature_ask : FeatureAsk → FeatureAsk → Bool
same_feature_ask x y = (pointwise nat_eq x.0.0.now y.0.0.now && pointwise nat_eq x.0.1.now y.0.1.now)
    && (class_eq.eq-value).it x.1 y.1

-- `absent`, and the states of the candidates that lack the feature
abbrev pub lacking_in : Problem → List ℕ → List ℕ → Class → List State
lacking_in q name f k = absent
    ∷ map (λ c. version c.version) (filter (λ c. not (has_feature c.brings.features f)) (class_candidates q name k))

abbrev pub AreThose : Problem → FeatureAsk → List State → Type 0
AreThose q x ss = ss ≡ lacking_in q x.0.0.now x.0.1.now (class_view x.1)

abbrev pub AreLacking : {S : Type 0} → Problem → HashMap FeatureAsk (List State) S → Type 0
AreLacking q m = AreRight same_feature_ask (AreThose q) m

-- ---- of a name and a class

abbrev pub NameClass : Type 0
NameClass = Bor (List ℕ) × code.Class

abbrev pub same_name_class : NameClass → NameClass → Bool
same_name_class x y = pointwise nat_eq x.0.now y.0.now && (class_eq.eq-value).it x.1 y.1

-- whether some candidate has the feature
abbrev pub is_had : Problem → List ℕ → Class → List ℕ → Bool
is_had q name k f = list_any (λ c. has_feature c.brings.features f) (class_candidates q name k)

-- just the features that some candidate has
abbrev pub AreHadBy : Problem → NameClass → BTreeSet (Bor (List ℕ)) → Type 0
AreHadBy q x fs = HasThose fs.keys (is_had q x.0.now (class_view x.1))

abbrev pub AreHad : {S : Type 0} → Problem → HashMap NameClass (BTreeSet (Bor (List ℕ))) S → Type 0
AreHad q m = AreRight same_name_class (AreHadBy q) m

-- whether none of the candidates is a pre-release
abbrev pub all_releases : Problem → List ℕ → Class → Bool
all_releases q name k = list_all (λ c. is_release c.version) (class_candidates q name k)

abbrev pub AreReleasesIn : Problem → NameClass → Bool → Type 0
AreReleasesIn q x b = b ≡ all_releases q x.0.now (class_view x.1)

abbrev pub AreReleases : {S : Type 0} → Problem → HashMap NameClass Bool S → Type 0
AreReleases q m = AreRight same_name_class (AreReleasesIn q) m
