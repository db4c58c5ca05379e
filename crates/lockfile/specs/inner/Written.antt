-- What a lock's writer keeps of each package: the texts that are written for it more than once.
use Rattle.std.specs.Prelude.{ℕ, List, map, string_bytes}
use Rattle.std.specs.List.{AllByRecursion}
use Rattle.std.specs.Option.{option_cmp}
use Rattle.std.specs.Ordering.{ordering_then}
use Rattle.std.specs.declared.cmp.Ordering.{Ordering}
use Rattle.semver.specs.Identifiers.{parts_text}
use Rattle.model.specs.Content.{Package, Content}
use Rattle.model.specs.Order.{text_cmp, in_order}
use Rattle.lockfile.specs.inner.Search.{IsRead}
use Rattle.lockfile.specs.Spelling.{block, dependency_text, at_places}
use Rattle.lockfile.specs.inner.Views.{package_view}
use Rattle.lockfile.specs.declared.written_package.WrittenPackage.{WrittenPackage}
use Rattle.lockfile.specs.declared.written_package.Listed.{Listed}

-- a package, its version's text, and the text by which lists name it
pub record Written : Type 0 where
  pub locked : Package
  pub version : List ℕ
  pub text : List ℕ

abbrev pub written_of : Content → Package → Written
written_of content p = record { locked = p; version = parts_text p.version; text = dependency_text content p }

-- the order of a list, by the texts that are kept
abbrev pub written_cmp : Written → Written → Ordering
written_cmp w x = ordering_then (text_cmp w.locked.name x.locked.name)
    (ordering_then (text_cmp w.version x.version) (option_cmp text_cmp w.locked.source x.locked.source))

-- the list of a package, in the order in which it is written
abbrev pub written_list : List Written → Written → List Written
written_list all w = in_order written_cmp (at_places all w.locked.list)

-- an empty line and the lines of a package, whose list has these
abbrev pub written_block : Written → List Written → List ℕ
written_block w listed = block w.locked w.version (map (λ x. x.text) listed)

-- each name and each version is what its text reads as
abbrev pub AreRead : Content → Type 0
AreRead = AllByRecursion IsRead

abbrev pub entry_view : WrittenPackage → Written
entry_view e =
    record { locked = package_view e.locked.now; version = string_bytes e.version; text = string_bytes e.text }

abbrev pub entry_views : List WrittenPackage → List Written
entry_views es = map entry_view es

abbrev pub listed_view : Listed → Written
listed_view l = record { locked = package_view l.locked.now; version = l.version.now; text = l.text.now }

abbrev pub listed_views : List Listed → List Written
listed_views ls = map listed_view ls
