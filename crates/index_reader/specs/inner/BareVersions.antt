-- How the versions that are kept of a file are held: without build metadata, which doesn't count in precedence (SemVer
-- 2.0.0, sections 10 and 11).
use Rattle.std.specs.Prelude.{◌≡◌, List, [], map, Bool}
use Rattle.std.specs.List.{All, list_any}
use Rattle.semver.specs.Identifiers.{parts_of}
use Rattle.semver.specs.Parse.{Parts}
use Rattle.semver.specs.declared.Version.{Version}
use Rattle.index_reader.specs.Files.{same_precedence, has_version}
use Rattle.index_lines.specs.Views.{record_view}
use Rattle.index_lines.specs.declared.record.Record.{Record}

-- a version without its build metadata
abbrev pub bare : Parts → Parts
bare v = (v.0, v.1, v.2, v.3, [])

-- one of these versions is of equal precedence
abbrev pub has_equal : List Version → Parts → Bool
has_equal versions v = list_any (λ k. same_precedence v (parts_of k)) versions

abbrev pub WithoutBuild : List Version → Type 0
WithoutBuild versions = All (λ k. (parts_of k).4 ≡ []) versions

-- the versions find just what the records have
abbrev pub Agrees : List Version → List Record → Type 0
Agrees versions records = (v : Parts) → has_equal versions v ≡ has_version (map record_view records) v
