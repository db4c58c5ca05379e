-- A lock without its checksums: which versions an index is asked for, and which of them stay candidates though they are
-- yanked, doesn't depend on them.
use Rattle.std.specs.Prelude.{None}
use Rattle.model.specs.Content.{Package}

abbrev pub without_checksum : Package → Package
without_checksum p = record p { checksum = None }
