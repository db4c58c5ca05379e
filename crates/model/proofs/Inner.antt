-- What equal states and equal owners hold is equal.
use Rattle.std.proofs.Common.{◌≡◌, ℕ, List}
use Rattle.semver.specs.Parse.{Parts}
use Rattle.model.specs.Selection.{Class}
use Rattle.model.specs.Vertices.{version, in_class, version_of}

pub version_inner : (v w : Parts) → version v ≡ version w → v ≡ w
version_inner v w e = cc

pub class_inner : (k m : Class) → in_class k ≡ in_class m → k ≡ m
class_inner k m e = cc

pub name_in : (a b : List ℕ) (v w : Parts) → version_of a v ≡ version_of b w → a ≡ b
name_in a b v w e = cc

pub version_in : (a b : List ℕ) (v w : Parts) → version_of a v ≡ version_of b w → v ≡ w
version_in a b v w e = cc
