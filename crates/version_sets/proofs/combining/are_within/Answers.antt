use Rattle.std.proofs.Common.{◌&&◌, get_or, inl, inr, not}
use Rattle.std.proofs.lemmas.Bool.{cases_lt}
use Rattle.version_sets.specs.inner.Forms.{all_words}
use Rattle.version_sets.specs.inner.Words.{and_not}
use Rattle.version_sets.proofs.Flanks.{and_not_bitwise, nothing_left}
use Rattle.version_sets.proofs.Together.{tested_between}
use Rattle.version_sets.proofs.combining.are_within.Goals as goal

pub returns : goal.returns
returns c =
    tested_between and_not (λ x y. x && not y) and_not_bitwise c.args.a.now c.args.b.now c.requires
    c.hull_and_ends-from.result.0 c.hull_and_ends-from.result.1 c.hull_and_ends-from.ensures c.are_within_at.result
    c.first_bits.result c.last_bits.result c.are_within_at.ensures c.last_bits.ensures.within
    (λ nothing k from to. elim (cases_lt k c.first_bits.result) [
      | inl before ↦ nothing_left (get_or (all_words c.args.a.now) k 0) (get_or (all_words c.args.b.now) k 0)
          (c.first_bits.ensures k from before)
      | inr past ↦ elim (cases_lt k c.last_bits.result) [
        | inl here ↦ nothing k past here
        | inr behind ↦ nothing_left (get_or (all_words c.args.a.now) k 0) (get_or (all_words c.args.b.now) k 0)
            (c.last_bits.ensures.none k behind to)
      ]
    ])
