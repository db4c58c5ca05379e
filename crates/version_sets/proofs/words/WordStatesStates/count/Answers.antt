use Rattle.std.proofs.Common.{◌∙◌}
use Rattle.version_sets.specs.inner.Forms.{wide_words}
use Rattle.version_sets.proofs.Pairs.{count_fits, count_is, lone_count}
use Rattle.version_sets.proofs.words.WordStatesStates.count.Goals as goal

pub returns-in-Some : goal.returns-in-Some
returns-in-Some c = lone_count c.args.self.now c.in-Some.word c.in-Some.ensures.one

pub count-requires : goal.count-requires
count-requires c = count_fits c.args.self.now (wide_words c.wide.result.now) c.wide.ensures.words

pub returns : goal.returns
returns c = c.count.ensures ∙ count_is c.args.self.now (wide_words c.wide.result.now) c.wide.ensures.words
