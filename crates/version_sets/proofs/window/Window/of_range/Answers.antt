use Rattle.std.proofs.Common.{refl}
use Rattle.version_sets.proofs.Ranged.{range_ends, range_set, range_words}
use Rattle.version_sets.proofs.window.Window.of_range.Goals as goal

pub invariant_of-result-clause-ends : goal.invariant_of-result-clause-ends
invariant_of-result-clause-ends c = range_ends c.args.universe c.args.from c.args.to c.range_places-first.result.0
    c.range_places-first.result.1 c.requires.small c.requires.rising c.requires.within c.range_places-first.ensures
    c.in_ok-range_words.field-0.items c.in_ok-range_words.ensures

pub returns : goal.returns
returns c = record {
  universe = refl;
  words = range_words c.args.universe c.args.from c.args.to c.range_places-first.result.0
      c.range_places-first.result.1 c.requires.small c.requires.rising c.requires.within c.range_places-first.ensures
      c.in_ok-range_words.field-0.items c.in_ok-range_words.ensures;
  set = range_set c.args.universe c.args.from c.args.to c.range_places-first.result.0
      c.range_places-first.result.1 c.requires.small c.requires.rising c.requires.within c.range_places-first.ensures
      c.in_ok-range_words.field-0.items c.in_ok-range_words.ensures;
}
