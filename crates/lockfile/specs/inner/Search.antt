-- How a dependency text is looked up among packages in order: what its parts ask for, and which packages that fits.
use Rattle.std.specs.Prelude.{◌≡◌, ◌≢◌, ℕ, ◌<◌, Bool, true, List, length, slice_index, Option, option_map}
use Rattle.std.specs.List.Sorted.{IsStrictlySortedBy}
use Rattle.std.specs.Ordering.{ordering_then, is_eq}
use Rattle.std.specs.declared.cmp.Ordering.{Ordering}
use Rattle.semver.specs.Grammar.{IsValid}
use Rattle.semver.specs.Identifiers.{parts_of}
use Rattle.semver.specs.Parse.{Parts}
use Rattle.features.specs.Names.{is_package_name}
use Rattle.model.specs.Content.{Package, Content}
use Rattle.model.specs.Order.{text_cmp, version_cmp, source_cmp, package_cmp}
use Rattle.lockfile.specs.declared.meaning.Wanted.{Wanted}
use Rattle.lockfile.specs.declared.meaning.Wanted.TheVariants.{Name, Version, Source}

-- in package order, no two alike
abbrev pub IsOrdered : Content → Type 0
IsOrdered = IsStrictlySortedBy package_cmp

-- its name and its version are what their texts read as
abbrev pub IsRead : Package → Type 0
IsRead p = (is_package_name p.name ≡ true) × IsValid p.version

-- no byte is a space
abbrev pub HasNoSpace : List ℕ → Type 0
HasNoSpace text = (i : ℕ) → i < length text → slice_index text i ≢ 32

-- where a package stands beside those of a name, of a name and a version, and of these and a source or none
abbrev pub named_cmp : List ℕ → Package → Ordering
named_cmp name p = text_cmp p.name name

abbrev pub versioned_cmp : List ℕ → Parts → Package → Ordering
versioned_cmp name version p = ordering_then (text_cmp p.name name) (version_cmp p.version version)

abbrev pub sourced_cmp : List ℕ → Parts → Option (List ℕ) → Package → Ordering
sourced_cmp name version source p =
    ordering_then (text_cmp p.name name) (ordering_then (version_cmp p.version version) (source_cmp p.source source))

abbrev pub is_named : List ℕ → Package → Bool
is_named name p = is_eq (named_cmp name p)

abbrev pub is_versioned : List ℕ → Parts → Package → Bool
is_versioned name version p = is_eq (versioned_cmp name version p)

abbrev pub is_sourced : List ℕ → Parts → Option (List ℕ) → Package → Bool
is_sourced name version source p = is_eq (sourced_cmp name version source p)

-- where a package stands beside those that are wanted
abbrev pub wanted_cmp : Wanted → Package → Ordering
wanted_cmp (Name name) p = named_cmp name.now p
wanted_cmp (Version name version) p = versioned_cmp name.now (parts_of version.now) p
wanted_cmp (Source name version source) p =
    sourced_cmp name.now (parts_of version.now) (option_map (λ s. s.now) source) p

abbrev pub is_wanted : Wanted → Package → Bool
is_wanted w p = is_eq (wanted_cmp w p)
