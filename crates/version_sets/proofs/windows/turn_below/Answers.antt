use Rattle.std.proofs.Common.{◌∙◌, ◌<◌, ◌^◌, ℕ, ap, ap₂, arith, subst, sym, bit_and, get_or, length, true}
use Rattle.std.proofs.lemmas.List.{length-map}
use Rattle.std.specs.Int.{bit_not, w64}
use Rattle.std.specs.Simd.Lanes.{chunk, zip2}
use Rattle.version_sets.specs.inner.Windows.{flank}
use Rattle.version_sets.proofs.Filled.{turned_fits}
use Rattle.version_sets.proofs.windows.turn_below.Goals as goal

pub cut_last-requires-clause-ends : goal.cut_last-requires-clause-ends
cut_last-requires-clause-ends c =
    omega (arith, ap length c.turn_bits.ensures, length-map c.args.words.now (bit_not w64))

pub cut_last-requires-clause-fits : goal.cut_last-requires-clause-fits
cut_last-requires-clause-fits c =
    subst (λ l. (k : ℕ) → get_or l k 0 < 2 ^ 64) (sym c.turn_bits.ensures) (turned_fits c.args.words.now)

pub returns : goal.returns
returns c = c.cut_last.ensures ∙ ap₂ (λ l m. zip2 bit_and l (chunk c.args.first m (flank c.args.universe true)))
    c.turn_bits.ensures (ap length c.turn_bits.ensures ∙ length-map c.args.words.now (bit_not w64))
