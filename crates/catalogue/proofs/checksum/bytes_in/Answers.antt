use Rattle.std.proofs.Common.{◌≡◌, ◌+◌, ◌*◌, ◌/◌, ◌%◌, refl, ap, arith, ◌∙◌}
use Rattle.std.proofs.lemmas.List.{length-set}
use Rattle.catalogue.specs.inner.Checksums.{digit, digits_of}
use Rattle.catalogue.proofs.Digits.{digit-at, read-more, all-read}
use Rattle.catalogue.proofs.checksum.bytes_in.Goals as goal

pub value_of-requires : goal.value_of-requires
value_of-requires c = digit-at c.args.text.now _ (omega arith) c.requires.digits

pub value_of-requires-in-places : goal.value_of-requires-in-places
value_of-requires-in-places c = digit-at c.args.text.now _ (omega arith) c.requires.digits

pub places-init : goal.places-init
unfolding digits_of
places-init c = (refl, refl)

pub places-preserved : goal.places-preserved
places-preserved c =
    let high : (16 * c.value_of.result + c.value_of-in-places.result) / 16 ≡ c.value_of.result
    = omega (arith, c.value_of-in-places.ensures.0) in
    let low : (16 * c.value_of.result + c.value_of-in-places.result) % 16 ≡ c.value_of-in-places.result
    = omega (arith, c.value_of-in-places.ensures.0) in (
      length-set _ _ _ ∙ c.places.invariant.0,
      read-more _ _ _ _ (omega arith) (omega arith)
          (ap digit high ∙ c.value_of.ensures.1) (ap digit low ∙ c.value_of-in-places.ensures.1) c.places.invariant.1,
    )

pub returns : goal.returns
returns c = all-read _ _ c.places.place c.places.invariant.0 (omega arith) (omega arith) c.places.invariant.1
