use Rattle.std.proofs.Common.{◌≡◌, take}
use Rattle.std.specs.List.{list_all}
use Rattle.features.specs.Names.{is_feature_byte}
use Rattle.features.proofs.feature_name.has_name_bytes.Given as goal

-- whether those so far are
abbrev pub invariant-bytes : goal.invariant-bytes
invariant-bytes l = l.all ≡ list_all is_feature_byte (take l.byte-index l.text)
