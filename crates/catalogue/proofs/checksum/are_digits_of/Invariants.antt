use Rattle.std.proofs.Common.{◌≡◌, ◌*◌, drop}
use Rattle.model.specs.Summary.{same_text}
use Rattle.catalogue.specs.inner.Checksums.{digits_of}
use Rattle.catalogue.proofs.checksum.are_digits_of.Given as goal

-- the digits that are left are the same where all are
abbrev pub invariant-places : goal.invariant-places
invariant-places l =
    same_text (drop (2 * l.place) l.text) (digits_of (drop l.place l.bytes)) ≡ same_text l.text (digits_of l.bytes)
