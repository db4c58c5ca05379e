-- Which vertices and states are of valid parts: names that are names, versions of SemVer 2.0.0, and numbers within
-- their limits.
use Rattle.std.specs.Prelude.{ℕ, ◌<◌, ◌^◌}
use Rattle.std.specs.List.{All}
use Rattle.semver.specs.Grammar.{IsValid}
use Rattle.model.specs.Content.{Candidate, Problem}
use Rattle.model.specs.Selection.{Class, patch, minor, major}
use Rattle.model.specs.Vertices.{Owner, the_root, version_of, Vertex, root, pkg, dep, feat, ask, State, absent, present}
use Rattle.model.specs.Vertices.{version, in_class}
use Rattle.features.specs.inner.Valid.{IsPackageName, IsFeatureName, BringsValid}

-- a number of 64 bits, and not 0 where a class with more zeros before it stands for 0
abbrev pub IsValidClass : Class → Type 0
IsValidClass (patch n) = n < 2 ^ 64
IsValidClass (minor n) = (0 < n) × (n < 2 ^ 64)
IsValidClass (major n) = (0 < n) × (n < 2 ^ 64)

-- the number of a dependency
abbrev pub IsIndex : ℕ → Type 0
IsIndex i = i < 4294967296

abbrev pub IsValidOwner : Owner → Type 0
IsValidOwner the_root = Unit {0}
IsValidOwner (version_of n v) = IsPackageName n × IsValid v

abbrev pub IsValidVertex : Vertex → Type 0
IsValidVertex root = Unit {0}
IsValidVertex (pkg n c) = IsPackageName n × IsValidClass c
IsValidVertex (dep o i) = IsValidOwner o × IsIndex i
IsValidVertex (feat n c f) = IsPackageName n × IsValidClass c × IsFeatureName f
IsValidVertex (ask n v i g) = IsPackageName n × IsValid v × IsIndex i × IsFeatureName g

-- what stands at a vertex that is there
abbrev pub IsValidValue : Vertex → State → Type 0
IsValidValue root present = Unit {0}
IsValidValue (pkg n c) (version v) = IsValid v
IsValidValue (dep o i) (in_class c) = IsValidClass c
IsValidValue (feat n c f) present = Unit {0}
IsValidValue (ask n v i g) present = Unit {0}
IsValidValue v s = ⊥

-- the vertex may have the state, and the state's version or class is valid
abbrev pub IsValidState : Vertex → State → Type 0
IsValidState v absent = Unit {0}
IsValidState v s = IsValidValue v s

-- ---- problems of valid parts

pub record IsValidRecord (c : Candidate) : Type 0 where
  pub version : IsValid c.version
  pub brings : BringsValid c.brings

pub record HasValidParts (q : Problem) : Type 0 where
  pub brings : BringsValid q.brings
  pub root_asks : All (λ p. IsFeatureName p.1) q.root_asks
  pub candidates : All (λ row. IsPackageName row.0 × All IsValidRecord row.1) q.candidates
