use Rattle.std.proofs.Common.{◌≡◌, ◌*◌, length, take}
use Rattle.catalogue.specs.inner.Checksums.{digits_of}
use Rattle.catalogue.proofs.checksum.bytes_in.Given as goal

-- the bytes so far are written in the digits so far
abbrev pub invariant-places : goal.invariant-places
invariant-places l = (length l.bytes ≡ 32) × (digits_of (take l.place l.bytes) ≡ take (2 * l.place) l.text)
