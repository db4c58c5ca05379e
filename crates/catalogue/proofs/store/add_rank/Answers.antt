use Rattle.std.proofs.Common.{arith, sym, ap, ◌∙◌}
use Rattle.catalogue.specs.Stores.{same_rank}
use Rattle.catalogue.proofs.Preferences.{with_place, without_place}
use Rattle.catalogue.proofs.store.add_rank.Goals as goal

pub places-preserved-in-Continue-1 : goal.places-preserved-in-Continue-1
places-preserved-in-Continue-1 c = record {
  within = omega (arith, c.places.invariant.within);
  told = rw c.in_ok-push.ensures.items
      (with_place c.args.candidates.now c.args.rank c.places.place
      c.index-candidates-place.result c.places.order.items _
      c.places-test.true c.places.invariant.within (sym c.index-candidates-place.is) (ap (λ r. same_rank r.rank
      c.args.rank) c.index-candidates-place.is ∙ sym c.is.ensures ∙ c.if-is.true) c.places.invariant.told);
}

pub places-preserved : goal.places-preserved
places-preserved c = record {
  within = omega (arith, c.places.invariant.within);
  told = without_place c.args.candidates.now c.args.rank c.places.place
      c.index-candidates-place.result c.places.order.items _
      c.places-test.true c.places.invariant.within (sym c.index-candidates-place.is)
      (ap (λ r. same_rank r.rank c.args.rank) c.index-candidates-place.is ∙ sym c.is.ensures
      ∙ c.if-is.false) c.places.invariant.told;
}
