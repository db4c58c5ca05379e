-- The causes of the instances that are added once a vertex has a state, where those that name two dependencies in
-- classes wait until both of these were asked for.
use Rattle.std.specs.Prelude.{◌≡◌, ◌≢◌, ◌⊎◌, ◌&&◌, ℕ, nat_eq, List, [], ◌∷◌, ◌++◌, Bool, true, if◌then◌else◌, map}
use Rattle.std.specs.Prelude.{Contains, Option, None, Some}
use Rattle.std.specs.Cmp.Lexicographic.{pointwise}
use Rattle.std.specs.List.{AllPairs, flat_map}
use Rattle.std.specs.Map.{lookup}
use Rattle.classes.specs.Classes.{class_view}
use Rattle.classes.specs.contracts.class.ClassPartialEq.TheImpl as class_eq
use Rattle.classes.specs.declared.class.Class as code
use Rattle.model.specs.Summary.{Dependency}
use Rattle.model.specs.Content.{Problem}
use Rattle.model.specs.Selection.{Class}
use Rattle.model.specs.Axioms.{is_lower}
use Rattle.model.specs.Vertices.{Owner, Vertex, dep, dep_classes, State, in_class, same_class, same_owner}
use Rattle.model.specs.Causes.{Cause, dependency_at, is_cause, of_newest}
use Rattle.vertices.specs.inner.RefViews.{owner_ref_view}
use Rattle.numbering.specs.inner.CausesAt.{alone_causes, causes_at}
use Rattle.numbering.specs.inner.Indexed.{OwnerKey, same_owner_key}
use Rattle.numbering.specs.inner.Lists.{if_some}
use Rattle.numbering.specs.inner.OnPackage.{is_other}
use Rattle.numbering.specs.Numberings.{Numbering}
use Rattle.numbering.specs.Pairs.{AreGiven, Given, Pair, pairs_of}
use Rattle.numbering.specs.declared.noted.Listed.{Listed}
use Rattle.numbering.specs.declared.noted.Noted.{Noted}

-- numbers of dependencies, each with a class that it was asked for in
abbrev pub noted_views : List (ℕ × code.Class) → List (ℕ × Class)
noted_views ps = map (λ p. (p.0, class_view p.1)) ps

-- an owner and a package, and a class
abbrev pub NotedKey : Type 0
NotedKey = OwnerKey × code.Class

abbrev pub same_noted_key : NotedKey → NotedKey → Bool
same_noted_key x y = same_owner_key x.0 y.0 && (class_eq.eq-value).it x.1 y.1

-- a key is that of an owner, a package and a class
abbrev pub is_key : Owner → List ℕ → Class → NotedKey → Bool
is_key o x m k =
    (same_owner o (owner_ref_view (k.0).0) && pointwise nat_eq x (k.0).1.now) && same_class m (class_view k.1)

-- what is listed for an owner, a package and a class
abbrev pub listed_at : Listed → Owner → List ℕ → Class → List (ℕ × Class)
listed_at l o x m = noted_views (if_some (lookup (is_key o x m) l.on.entries))

-- the same, if that is a higher class than this one
abbrev pub listed_if : Listed → Owner → List ℕ → Class → Class → List (ℕ × Class)
listed_if l o x k m = if is_lower k m then listed_at l o x m else []

-- what was listed is so afterwards
abbrev pub KeepsListed : Listed → Listed → Type 0
KeepsListed old new = (o : Owner) (x : List ℕ) (m : Class) (p : ℕ × Class) → Contains (listed_at old o x m) p
    → Contains (listed_at new o x m) p

-- what was noted is so afterwards
pub record KeepsNoted (old new : Noted) : Type 0 where
  pub here : KeepsListed old.here new.here
  pub lower : KeepsListed old.lower new.lower

-- a dependency is noted for its class, and as a lower one for each higher class that it may lead to
pub record IsNotedFor (q : Problem) (ns : Noted) (o : Owner) (i : ℕ) (d : Dependency) (k : Class) : Type 0 where
  pub here : Contains (listed_at ns.here o d.real_name k) (i, k)
  pub lower : (m : Class) → Contains (dep_classes q d) m → is_lower k m ≡ true
      → Contains (listed_at ns.lower o d.real_name m) (i, k)

-- all that is noted beside it: the lower ones that may lead to its class, and those in each higher class that it may
-- lead to
pub record HasBeside (q : Problem) (ns : Noted) (o : Owner) (d : Dependency) (k : Class)
    (ps : List (ℕ × Class)) : Type 0 where
  pub lower : (r : ℕ × Class) → Contains (listed_at ns.lower o d.real_name k) r → Contains ps r
  pub higher : (m : Class) → Contains (dep_classes q d) m → is_lower k m ≡ true
      → (r : ℕ × Class) → Contains (listed_at ns.here o d.real_name m) r → Contains ps r

module _ (q : Problem) where
  -- the owner has another dependency on the package
  abbrev pub HasOther : Owner → ℕ → Dependency → Type 0
  HasOther o i d = (j : ℕ) × (e : Dependency) × (dependency_at q o j ≡ Some e) × (is_other i d.real_name j e ≡ true)

  -- a pair of a dependency that has others beside it, and a class, is noted
  abbrev pub IsNoted : Noted → Pair → Type 0
  IsNoted ns p = (o : Owner) (i : ℕ) (d : Dependency) (k : Class) → p ≡ (dep o i, in_class k)
      → dependency_at q o i ≡ Some d → HasOther o i d → IsNotedFor q ns o i d k

  -- what is noted beside a dependency in a class
  abbrev pub noted_beside : Noted → Owner → Dependency → Class → List (ℕ × Class)
  noted_beside ns o d k =
      listed_at ns.lower o d.real_name k ++ flat_map (listed_if ns.here o d.real_name k) (dep_classes q d)

  -- all that is noted beside a pair
  abbrev pub AreBeside : Noted → Pair → List (ℕ × Class) → Type 0
  AreBeside ns p ps = (o : Owner) (i : ℕ) (d : Dependency) (k : Class) → p ≡ (dep o i, in_class k)
      → dependency_at q o i ≡ Some d → HasOther o i d → HasBeside q ns o d k ps

  abbrev pub newest_of : Owner → ℕ → Class → ℕ → Class → List Cause
  newest_of o i k j m = if is_cause q (of_newest o i j k m) then of_newest o i j k m ∷ [] else []

  -- what two dependencies give in two classes, whichever is higher
  abbrev pub both_of : Owner → ℕ → Class → ℕ × Class → List Cause
  both_of o i k p = newest_of o i k p.0 p.1 ++ newest_of o p.0 p.1 i k

  abbrev pub asked_leads : List (ℕ × Class) → Owner → ℕ → Class → Option Dependency → List Cause
  asked_leads ps o i k None = []
  asked_leads ps o i k (Some d) = alone_causes q o i k (Some d) ++ flat_map (both_of o i k) ps

  abbrev pub asked_causes : List (ℕ × Class) → Vertex → State → List Cause
  asked_causes ps (dep o i) (in_class k) = asked_leads ps o i k (dependency_at q o i)
  asked_causes ps v s = causes_at q v s

-- What is given for a pair that is asked for after others: the instances of causes that name it and, if a second one,
-- one of the others, each once.
pub record IsGivenNext (q : Problem) (vs : Numbering) (IsBefore : Pair → Type 0) (p : Pair)
    (xs : List Given) : Type 0 where
  pub causes : List Cause
  pub there : (c : Cause) → Contains causes c → (is_cause q c ≡ true) × Contains (pairs_of c) p
  pub all : (c : Cause) → is_cause q c ≡ true → Contains (pairs_of c) p
      → ((r : Pair) → Contains (pairs_of c) r → (r ≡ p) ⊎ IsBefore r) → Contains causes c
  pub once : AllPairs (λ a b. a ≢ b) causes
  pub given : AreGiven q vs causes xs

-- and where no other was asked for
abbrev pub IsGivenFirst : Problem → Numbering → Pair → List Given → Type 0
IsGivenFirst q vs p xs = IsGivenNext q vs (λ r. ⊥) p xs
