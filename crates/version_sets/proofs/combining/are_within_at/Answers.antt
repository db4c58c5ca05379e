use Rattle.version_sets.specs.inner.Words.{and_not}
use Rattle.version_sets.proofs.Together.{kept_decide, kept_fit, nothing_before, nothing_behind, part_fails}
use Rattle.version_sets.proofs.combining.are_within_at.Goals as goal

pub returns-then-not-are_within_by_word : goal.returns-then-not-are_within_by_word
returns-then-not-are_within_by_word c =
    part_fails c.are_within_by_word.result c.are_within_by_word.ensures c.if-not-are_within_by_word.true
    (nothing_before and_not c.args.a.now c.args.b.now c.args.from c.args.to c.overlap-first.result.0
    c.overlap-first.result.1 c.overlap-first.ensures)

pub returns-then-not-are_within_by_word-2 : goal.returns-then-not-are_within_by_word-2
returns-then-not-are_within_by_word-2 c =
    part_fails c.are_within_by_word-2.result c.are_within_by_word-2.ensures c.if-not-are_within_by_word-2.true
    (nothing_behind and_not c.args.a.now c.args.b.now c.args.from c.args.to c.overlap-first.result.0
    c.overlap-first.result.1 c.overlap-first.ensures)

pub are_within-requires : goal.are_within-requires
are_within-requires c =
    kept_fit and_not c.args.a.now c.args.b.now c.args.from c.args.to c.overlap-first.result.0 c.overlap-first.result.1
    c.overlap-first.ensures c.own.result.now c.own-2.result.now c.own.ensures c.own-2.ensures

pub returns : goal.returns
returns c =
    kept_decide and_not c.args.a.now c.args.b.now c.args.from c.args.to c.overlap-first.result.0
    c.overlap-first.result.1 c.overlap-first.ensures c.own.result.now c.own-2.result.now c.are_within.result
    c.own.ensures c.own-2.ensures c.are_within.ensures
    (c.are_within_by_word.ensures.0 c.if-not-are_within_by_word.false)
    (c.are_within_by_word-2.ensures.0 c.if-not-are_within_by_word-2.false)
