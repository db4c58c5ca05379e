-- The root beside a package of the registry that has its name and version.
use Rattle.std.proofs.Common.{◌≡◌, [], ◌∷◌, true, false, None, Some, refl}
use Rattle.std.specs.Prelude.{codes}
use Rattle.model.specs.Content.{Package, Content, Problem, is_root, target_of}
use Rattle.std.specs.Fmt.{digits as decimal}
use Rattle.model.specs.Order.{IsContent}
use Rattle.model.proofs.Examples.Small.{text_a, version_1_0, on_any, registry, locked, formed}

-- the root `demo 1.0.0` needs a, which needs a `demo` of the registry
abbrev named_alike : Problem
named_alike = record {
  name = codes "demo";
  version = version_1_0;
  brings = record { dependencies = on_any text_a ∷ []; features = [] };
  root_asks = [];
  source = registry;
  candidates = [];
}

abbrev the_root : Package
the_root = record { name = codes "demo"; version = version_1_0; source = None; checksum = None; list = 0 ∷ [] }

abbrev registry_demo : Package
registry_demo = locked (codes "demo") version_1_0 []

-- in package order the one of the registry comes first
abbrev both_there : Content
both_there = locked text_a version_1_0 (1 ∷ 2 ∷ []) ∷ registry_demo ∷ the_root ∷ []

both_there-formed : IsContent both_there
unfolding decimal
both_there-formed = formed both_there refl

pub without_source_is_root : is_root named_alike the_root ≡ true
without_source_is_root = refl

pub with_source_is_another : is_root named_alike registry_demo ≡ false
with_source_is_another = refl

-- a dependency on that name leads to the one of the registry, even where the root is listed after it
pub leads_to_registry : target_of both_there 0 (on_any (codes "demo")) ≡ Some 1
leads_to_registry = refl

-- and to none where the root alone is listed
pub never_to_root : target_of (locked text_a version_1_0 (1 ∷ []) ∷ the_root ∷ []) 0 (on_any (codes "demo")) ≡ None
never_to_root = refl
