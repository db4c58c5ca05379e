use Rattle.std.proofs.Common.{◌≡◌, take}
use Rattle.std.specs.List.{list_all}
use Rattle.features.specs.Names.{is_package_byte}
use Rattle.features.proofs.name.has_name_bytes.Given as goal

-- whether those so far are
abbrev pub invariant-bytes : goal.invariant-bytes
invariant-bytes l = l.all ≡ list_all is_package_byte (take l.byte-index l.text)
