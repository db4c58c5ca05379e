use Rattle.std.proofs.Common.{arith}
use Rattle.catalogue.specs.inner.Checksums.{digits_of}
use Rattle.catalogue.proofs.Digits.{written-more}
use Rattle.catalogue.proofs.checksum.digits_of.Goals as goal

pub bytes-init : goal.bytes-init
unfolding digits_of
bytes-init c = c.in_ok-text.ensures.bytes

pub bytes-preserved : goal.bytes-preserved
bytes-preserved c =
    written-more c.args.bytes.now _ _ _ c.bytes.byte-index (omega arith) c.in_ok-push_digit.ensures
    c.in_ok-push_digit-2.ensures c.bytes.invariant
