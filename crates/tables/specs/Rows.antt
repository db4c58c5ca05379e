-- Whether a table has rows.
use Rattle.std.specs.Prelude.{Bool, true, false}
use Rattle.toml.specs.Data.{Members, no_members, member}

abbrev pub has_rows : Members → Bool
has_rows no_members = false
has_rows (member key d rest) = true
