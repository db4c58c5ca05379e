use Rattle.std.proofs.Common.{◌∙◌}
use Rattle.version_sets.proofs.Filled.{trim_lone}
use Rattle.version_sets.proofs.words.WordStates.of_low_bits.Goals as goal

pub of_word-requires : goal.of_word-requires
of_word-requires c =
    (trim_lone c.args.universe c.args.word c.low_bits.result c.requires c.ranges.word.fits c.low_bits.ensures).words

pub returns : goal.returns
returns c = c.of_word.ensures
    ∙ (trim_lone c.args.universe c.args.word c.low_bits.result c.requires c.ranges.word.fits c.low_bits.ensures).same
