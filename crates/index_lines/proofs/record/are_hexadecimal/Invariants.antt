use Rattle.std.proofs.Common.{◌≡◌, take}
use Rattle.std.specs.List.{list_all}
use Rattle.index_lines.specs.Records.{is_hexadecimal}
use Rattle.index_lines.proofs.record.are_hexadecimal.Given as goal

-- whether those so far are
abbrev pub invariant-bytes : goal.invariant-bytes
invariant-bytes l = l.all ≡ list_all is_hexadecimal (take l.byte-index l.text)
