use Rattle.std.proofs.Common.{sym, arith, ◌∙◌}
use Rattle.catalogue.proofs.Digits.{same-more, same-done, other-length}
use Rattle.catalogue.proofs.checksum.are_digits_of.Goals as goal

pub returns-then-text-ne64 : goal.returns-then-text-ne64
returns-then-text-ne64 c = sym (other-length _ _ (omega arith) (λ e. omega arith))

pub returns-then-not-are_digits : goal.returns-then-not-are_digits
returns-then-not-are_digits c =
    let more =
    same-more c.args.bytes.now c.args.text.now c.places.place _ (omega arith) (omega arith) c.are_digits.ensures in
    sym (sym c.places.invariant ∙ (rw c.if-not-are_digits.true at more))

pub places-preserved : goal.places-preserved
places-preserved c =
    let more =
    same-more c.args.bytes.now c.args.text.now c.places.place _ (omega arith) (omega arith) c.are_digits.ensures in
    sym (rw c.if-not-are_digits.false at more) ∙ c.places.invariant

pub returns : goal.returns
returns c =
    sym (sym c.places.invariant ∙ same-done c.args.bytes.now c.args.text.now c.places.place (omega arith) (omega arith))
