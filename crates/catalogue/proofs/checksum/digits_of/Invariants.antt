use Rattle.std.proofs.Common.{◌≡◌, take, string_bytes}
use Rattle.catalogue.specs.inner.Checksums.{digits_of}
use Rattle.catalogue.proofs.checksum.digits_of.Given as goal

abbrev pub invariant-bytes : goal.invariant-bytes
invariant-bytes l = string_bytes l.text ≡ digits_of (take l.byte-index l.bytes)
