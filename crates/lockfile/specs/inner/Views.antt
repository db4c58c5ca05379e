-- What the packages of this crate stand for, without where they lie in memory.
use Rattle.std.specs.Prelude.{ℕ, List, map, Vec, string_bytes, option_map}
use Rattle.std.specs.declared.alloc.Global.{Global}
use Rattle.semver.specs.Identifiers.{parts_of}
use Rattle.model.specs.Content as model
use Rattle.features.specs.Views.{text_views}
use Rattle.lockfile.specs.Locks.{Unlinked}
use Rattle.lockfile.specs.declared.package.Package.{Package}
use Rattle.lockfile.specs.declared.packages.UnlinkedPackage.{UnlinkedPackage}

abbrev pub package_view : Package → model.Package
package_view p = record {
  name = p.name;
  version = parts_of p.version;
  source =
      option_map string_bytes p.source;
  checksum = option_map string_bytes p.checksum;
  list = p.list.items;
}

abbrev pub package_views : List Package → model.Content
package_views ps = map package_view ps

abbrev pub unlinked_view : UnlinkedPackage → Unlinked
unlinked_view p = record { locked = package_view p.locked; texts = text_views p.texts.items }

abbrev pub unlinked_views : List UnlinkedPackage → List Unlinked
unlinked_views ps = map unlinked_view ps

-- the packages alone
abbrev pub locked_view : UnlinkedPackage → model.Package
locked_view p = package_view p.locked

abbrev pub locked_views : List UnlinkedPackage → model.Content
locked_views ps = map locked_view ps

abbrev pub list_views : List (Vec ℕ Global) → List (List ℕ)
list_views lists = map (λ v. v.items) lists
