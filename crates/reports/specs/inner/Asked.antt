-- Which package a text asks for: `NAME` or `NAME@VERSION` (Cargo book, "Package ID Specifications").
use Rattle.std.specs.Prelude.{ℕ, List, if◌then◌else◌, Option, Some, None, option_map, Result, Ok, Err}
use Rattle.semver.specs.Identifiers.{parts_of}
use Rattle.semver.specs.Parse.{Parts, version_parts}
use Rattle.semver.specs.declared.error.Error.{Error}
use Rattle.features.specs.Names.{around, is_package_name}
use Rattle.reports.specs.declared.wanted.Wanted.{Wanted}

-- a name, and a version if one is asked for
abbrev pub Asked : Type 0
Asked = List ℕ × Option Parts

abbrev pub name_of : List ℕ → Option (List ℕ)
name_of text = if is_package_name text then Some text else None

abbrev pub version_if : Result Parts Error → Option Parts
version_if (Ok v) = Some v
version_if (Err e) = None

abbrev pub with_none : Option (List ℕ) → Option Asked
with_none None = None
with_none (Some name) = Some (name, None)

abbrev pub with_version : Option (List ℕ) → Option Parts → Option Asked
with_version None version = None
with_version (Some name) None = None
with_version (Some name) (Some v) = Some (name, Some v)

-- a text without an `@` is a name; else the name stands before the first one, and the version after it
abbrev pub asked_by : List ℕ → Option (List ℕ × List ℕ) → Option Asked
asked_by text None = with_none (name_of text)
asked_by text (Some (name, version)) = with_version (name_of name) (version_if (version_parts version))

abbrev pub asked : List ℕ → Option Asked
asked text = asked_by text (around 64 text)

abbrev pub asked_view : Wanted → Asked
asked_view w = (w.name, option_map parts_of w.version)
