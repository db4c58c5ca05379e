-- What owners bring, kept by the owner.
use Rattle.std.specs.Prelude.{◌≡◌, ◌&&◌, ℕ, nat_eq, List, Bool, Some}
use Rattle.std.specs.Borrow.{Bor}
use Rattle.std.specs.Cmp.Lexicographic.{pointwise}
use Rattle.std.specs.HashMap.{HashMap, get}
use Rattle.model.specs.Content.{Problem}
use Rattle.model.specs.Summary.{Dependency}
use Rattle.model.specs.Vertices.{owner_brings, same_owner}
use Rattle.vertices.specs.inner.RefViews.{owner_ref_view}
use Rattle.vertices.specs.declared.vertex.OwnerRef.{OwnerRef}

abbrev pub same_ref : OwnerRef → OwnerRef → Bool
same_ref o p = same_owner (owner_ref_view o) (owner_ref_view p)

-- those are the owner's dependencies
abbrev pub IsBrought : Problem → OwnerRef → List Dependency → Type 0
IsBrought q o ds = ds ≡ (owner_brings q (owner_ref_view o)).dependencies

-- those that are kept are these
abbrev pub AreBrought : {S : Type 0} → Problem → HashMap OwnerRef (List Dependency) S → Type 0
AreBrought q m = (o : OwnerRef) (ds : List Dependency) → get same_ref m o ≡ Some ds → IsBrought q o ds

-- an owner, and a package
abbrev pub OwnerKey : Type 0
OwnerKey = OwnerRef × Bor (List ℕ)

abbrev pub same_owner_key : OwnerKey → OwnerKey → Bool
same_owner_key x y = same_ref x.0 y.0 && pointwise nat_eq x.1.now y.1.now
