-- Classes of names of which a version is here (own).
use Rattle.std.specs.Prelude.{◌≡◌, ℕ, ◌<◌, ◌⊎◌, Bool, true, List, Some, Contains, map, slice_get}
use Rattle.semver.specs.Parse.{Parts}
use Rattle.classes.specs.Classes.{class_view}
use Rattle.model.specs.Selection.{Class, class_of}
use Rattle.model.specs.Vertices.{Owner, version_of}
use Rattle.facts.specs.inner.Graphs.{flag_at}
use Rattle.selection.specs.declared.taking.TakenClass.{TakenClass}

-- a name, and one of its classes
abbrev pub Taken : Type 0
Taken = List ℕ × Class

abbrev pub taken_view : TakenClass → Taken
taken_view t = (t.name, class_view t.class)

-- a version of the name that is of the class
pub record IsOfClass (o : Owner) (k : Taken) : Type 0 where
  pub version : Parts
  pub is : o ≡ version_of k.0 version
  pub class : class_of version ≡ k.1

-- these may be more by this one; it is said whether it was among them
pub record Takes (old new : List TakenClass) (k : Taken) (b : Bool) : Type 0 where
  pub was : b ≡ true → Contains (map taken_view old) k
  pub more : (x : Taken) → Contains (map taken_view new) x → Contains (map taken_view old) x ⊎ (x ≡ k)

-- what stands at the place is here, and of the class
pub record IsTakenAt (owners : List Owner) (is_here : List Bool) (k : Taken) (n : ℕ) : Type 0 where
  pub owner : Owner
  pub at : slice_get owners n ≡ Some owner
  pub is : IsOfClass owner k
  pub here : flag_at is_here n ≡ true

pub record TakesTwice (owners : List Owner) (is_here : List Bool) : Type 0 where
  pub taken : Taken
  pub first : ℕ
  pub second : ℕ
  pub lower : first < second
  pub at_first : IsTakenAt owners is_here taken first
  pub at_second : IsTakenAt owners is_here taken second
