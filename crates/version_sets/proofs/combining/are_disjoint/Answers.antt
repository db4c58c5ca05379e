use Rattle.std.proofs.Common.{◌&&◌, arith, bit_and, get_or, inl, inr}
use Rattle.std.proofs.lemmas.Bool.{cases_lt}
use Rattle.version_sets.specs.inner.Forms.{all_words}
use Rattle.version_sets.proofs.Flanks.{and_bitwise, nothing_first, nothing_second}
use Rattle.version_sets.proofs.Together.{tested_between}
use Rattle.version_sets.proofs.combining.are_disjoint.Goals as goal

pub returns : goal.returns
returns c =
    tested_between bit_and (λ x y. x && y) and_bitwise c.args.a.now c.args.b.now c.requires
    c.hull_and_ends-from.result.0 c.hull_and_ends-from.result.1 c.hull_and_ends-from.ensures c.are_disjoint_at.result
    c.first_bits-2.result c.last_bits-2.result c.are_disjoint_at.ensures (omega arith)
    (λ nothing k from to. elim (cases_lt k c.first_bits-2.result) [
      | inl before ↦ elim (cases_lt k c.first_bits.result) [
        | inl low ↦ nothing_first (get_or (all_words c.args.a.now) k 0) (get_or (all_words c.args.b.now) k 0)
            (c.first_bits.ensures k from low)
        | inr high ↦ nothing_second (get_or (all_words c.args.a.now) k 0) (get_or (all_words c.args.b.now) k 0)
            (c.first_bits-2.ensures k high before)
      ]
      | inr past ↦ elim (cases_lt k c.last_bits-2.result) [
        | inl here ↦ nothing k past here
        | inr behind ↦ elim (cases_lt k c.last_bits.result) [
          | inl low ↦ nothing_second (get_or (all_words c.args.a.now) k 0) (get_or (all_words c.args.b.now) k 0)
              (c.last_bits-2.ensures.none k behind low)
          | inr high ↦ nothing_first (get_or (all_words c.args.a.now) k 0) (get_or (all_words c.args.b.now) k 0)
              (c.last_bits.ensures.none k high to)
        ]
      ]
    ])
