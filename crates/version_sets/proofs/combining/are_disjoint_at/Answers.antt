use Rattle.std.proofs.Common.{bit_and}
use Rattle.version_sets.proofs.Together.{kept_decide, kept_fit, nothing_before, nothing_behind, part_fails}
use Rattle.version_sets.proofs.combining.are_disjoint_at.Goals as goal

pub returns-then-not-are_disjoint_by_word : goal.returns-then-not-are_disjoint_by_word
returns-then-not-are_disjoint_by_word c =
    part_fails c.are_disjoint_by_word.result c.are_disjoint_by_word.ensures c.if-not-are_disjoint_by_word.true
    (nothing_before bit_and c.args.a.now c.args.b.now c.args.from c.args.to c.overlap-first.result.0
    c.overlap-first.result.1 c.overlap-first.ensures)

pub returns-then-not-are_disjoint_by_word-2 : goal.returns-then-not-are_disjoint_by_word-2
returns-then-not-are_disjoint_by_word-2 c =
    part_fails c.are_disjoint_by_word-2.result c.are_disjoint_by_word-2.ensures c.if-not-are_disjoint_by_word-2.true
    (nothing_behind bit_and c.args.a.now c.args.b.now c.args.from c.args.to c.overlap-first.result.0
    c.overlap-first.result.1 c.overlap-first.ensures)

pub are_disjoint-requires : goal.are_disjoint-requires
are_disjoint-requires c =
    kept_fit bit_and c.args.a.now c.args.b.now c.args.from c.args.to c.overlap-first.result.0 c.overlap-first.result.1
    c.overlap-first.ensures c.own.result.now c.own-2.result.now c.own.ensures c.own-2.ensures

pub returns : goal.returns
returns c =
    kept_decide bit_and c.args.a.now c.args.b.now c.args.from c.args.to c.overlap-first.result.0
    c.overlap-first.result.1 c.overlap-first.ensures c.own.result.now c.own-2.result.now c.are_disjoint.result
    c.own.ensures c.own-2.ensures c.are_disjoint.ensures
    (c.are_disjoint_by_word.ensures.0 c.if-not-are_disjoint_by_word.false)
    (c.are_disjoint_by_word-2.ensures.0 c.if-not-are_disjoint_by_word-2.false)
