-- When a content is a valid selection, and the facts and classes that this speaks of (Cargo book, "Dependency
-- Resolution").
use Rattle.std.specs.Prelude.{◌≡◌, ℕ, List, false, Some, slice_get, Contains, ◌<◌, ◌↔◌, true, length, IsSome, nat_lt}
use Rattle.std.specs.Prelude.{if◌then◌else◌}
use Rattle.model.specs.Summary.{Summary, Dependency, Entry, feature, dependency, dependency_feature, weak_feature}
use Rattle.model.specs.Summary.{entries_at, asked_of_target, has_feature}
use Rattle.semver.specs.Parse.{Parts}
use Rattle.model.specs.Content.{Package, Content, Problem, is_root, candidate_of, summary_at, target_of}
use Rattle.model.specs.Order.{IsContent}

-- ---- Which packages are here, which dependencies are enabled and which features are on: the facts that finite chains
-- of reasons give (Cargo book, "Features"). The rules are stated once, over any packages N: what each brings, which one
-- is the root, which are here from the start, and where a dependency leads. A locked content, the preferred walk and an
-- assignment of the search each read them with their own targets.

pub data Fact (N : Type 0) : Type 0 where
  -- the package is one of those that count
  here : N → Fact N
  -- the feature is on at the package
  on : N → List ℕ → Fact N
  -- the dependency of the package with this number is enabled
  enabled : N → ℕ → Fact N

module _ {N : Type 0} (owner : N → Summary) where
  -- d is dependency number i of n
  abbrev pub Brings : N → ℕ → Dependency → Type 0
  Brings n i d = slice_get (owner n).dependencies i ≡ Some d

  -- the feature f of n has this entry
  abbrev pub Lists : N → List ℕ → Entry → Type 0
  Lists n f e = (es : List Entry) × (entries_at f (owner n).features ≡ Some es) × Contains es e

-- LeadsTo n i d t: dependency number i of n, which is d, leads to t
module _ {N : Type 0} (owner : N → Summary) (IsRoot Starts : N → Type 0) (root_asks : List (List ℕ × List ℕ))
    (LeadsTo : N → ℕ → Dependency → N → Type 0) where
  pub data Holds : Fact N → Type 0 where
    starts : (n : N) → Starts n → Holds (here n)
    -- the target of an enabled dependency is here too
    arrives : (n t : N) (i : ℕ) (d : Dependency) → Holds (enabled n i) → Brings owner n i d
        → LeadsTo n i d t → Holds (here t)
    -- the root needs each of its dependencies, and a candidate each that isn't optional
    root_needs : (n : N) (i : ℕ) (d : Dependency) → Holds (here n) → IsRoot n → Brings owner n i d → Holds (enabled n i)
    needs : (n : N) (i : ℕ) (d : Dependency) → Holds (here n) → Brings owner n i d
        → d.optional ≡ false → Holds (enabled n i)
    -- an enabled dependency asks its target for features
    asks : (n t : N) (i : ℕ) (d : Dependency) (f : List ℕ)
        → Holds (enabled n i) → Brings owner n i d → LeadsTo n i d t → Contains (asked_of_target d) f → Holds (on t f)
    -- the root's entries `d/g` ask each dependency called d
    root_wants : (n t : N) (i : ℕ) (d : Dependency) (g : List ℕ)
        → Holds (here n) → IsRoot n → Brings owner n i d → LeadsTo n i d t
        → Contains root_asks (d.name, g) → Holds (on t g)
    -- entry `g`
    turns_on : (n : N) (f g : List ℕ) → Holds (on n f) → Lists owner n f (feature g) → Holds (on n g)
    -- entries `dep:d` and `d/g` enable each dependency called d
    enables : (n : N) (i : ℕ) (d : Dependency) (f : List ℕ)
        → Holds (on n f) → Brings owner n i d → Lists owner n f (dependency d.name) → Holds (enabled n i)
    enables_for : (n : N) (i : ℕ) (d : Dependency) (f g : List ℕ)
        → Holds (on n f) → Brings owner n i d → Lists owner n f (dependency_feature d.name g) → Holds (enabled n i)
    -- entry `d/g` asks the target of each dependency called d, and `d?/g` where that one is enabled
    wants : (n t : N) (i : ℕ) (d : Dependency) (f g : List ℕ)
        → Holds (on n f) → Brings owner n i d → Lists owner n f (dependency_feature d.name g)
        → LeadsTo n i d t → Holds (on t g)
    wants_weakly : (n t : N) (i : ℕ) (d : Dependency) (f g : List ℕ)
        → Holds (on n f) → Brings owner n i d → Lists owner n f (weak_feature d.name g) → Holds (enabled n i)
        → LeadsTo n i d t → Holds (on t g)

-- ---- The class of a version (Cargo book, "Dependency Resolution", "SemVer compatibility").

-- the leftmost nonzero number with the zeros before it
pub data Class : Type 0 where
  patch : ℕ → Class
  minor : ℕ → Class
  major : ℕ → Class

abbrev pub class_of : Parts → Class
class_of v = if nat_lt 0 v.0 then major v.0 else if nat_lt 0 v.1 then minor v.1 else patch v.2

-- ---- The valid selection.

module _ (q : Problem) (content : Content) where
  abbrev pub IsRootAt : ℕ → Type 0
  IsRootAt n = (p : Package) × (slice_get content n ≡ Some p) × (is_root q p ≡ true)

  abbrev pub HasTarget : ℕ → Dependency → ℕ → Type 0
  HasTarget n d t = target_of content n d ≡ Some t

  abbrev pub IsPlace : ℕ → Type 0
  IsPlace n = n < length content

  -- the facts of the content: all its packages are here from the start
  abbrev pub IsFact : Fact ℕ → Type 0
  IsFact = Holds (summary_at q content) IsRootAt IsPlace q.root_asks (λ n i d t. HasTarget n d t)

  -- d is dependency number i of the package at place n, and is enabled
  abbrev pub IsEnabled : ℕ → ℕ → Dependency → Type 0
  IsEnabled n i d = (slice_get (summary_at q content n).dependencies i ≡ Some d) × IsFact (enabled n i)

  -- t is the target of an enabled dependency of the package at place n
  abbrev pub IsTarget : ℕ → ℕ → Type 0
  IsTarget n t = (i : ℕ) × (d : Dependency) × IsEnabled n i d × HasTarget n d t

  -- lists lead from the root to this place
  pub data IsReached : ℕ → Type 0 where
    root : (n : ℕ) → IsRootAt n → IsReached n
    listed : (n t : ℕ) (p : Package) → IsReached n → slice_get content n ≡ Some p → Contains p.list t → IsReached t

  -- a package other than the root
  abbrev pub IsOther : ℕ → Package → Type 0
  IsOther n p = (slice_get content n ≡ Some p) × (is_root q p ≡ false)

  pub record IsValidSelection : Type 0 where
    pub is_content : IsContent content
    pub root : (n : ℕ) × IsRootAt n
    pub candidates : (n : ℕ) (p : Package) → IsOther n p → IsSome (candidate_of q p)
    pub one_in_class : (n m : ℕ) (p r : Package) → IsOther n p → IsOther m r
        → p.name ≡ r.name → class_of p.version ≡ class_of r.version → n ≡ m
    pub met : (n i : ℕ) (d : Dependency) → IsEnabled n i d → (t : ℕ) × HasTarget n d t
    pub features_exist : (n : ℕ) (f : List ℕ) → IsFact (on n f) → has_feature (summary_at q content n).features f ≡ true
    pub lists : (n t : ℕ) (p : Package) → slice_get content n ≡ Some p → Contains p.list t ↔ IsTarget n t
    pub reached : (n : ℕ) → n < length content → IsReached n
