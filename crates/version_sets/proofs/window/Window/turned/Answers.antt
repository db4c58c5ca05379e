use Rattle.std.proofs.Common.{◌≡◌, ℕ, List, ◌∙◌, ap, refl, not, map, bit_and, length, true, arith}
use Rattle.std.specs.Int.{bit_not, w64}
use Rattle.std.specs.Simd.Lanes.{chunk, zip2}
use Rattle.version_sets.specs.declared.window.Window.{Window}
use Rattle.version_sets.specs.inner.Windows.{flank, spread}
use Rattle.version_sets.proofs.Spreads.{cut, cut_ends, turn_spread}
use Rattle.version_sets.proofs.window.Window.turned.Goals as goal

turned_is : (w : Window) (made read : List ℕ) → made
    ≡ zip2 bit_and (map (bit_not w64) read) (chunk w.first (length read) (flank w.universe true)) → read ≡ w.words.items
    → made ≡ cut w.universe w.low w.first w.words.items w.high w.ends
turned_is w made read is same = is
    ∙ ap (λ l. zip2 bit_and (map (bit_not w64) l) (chunk w.first (length l) (flank w.universe true))) same

pub invariant_of-result-clause-ends : goal.invariant_of-result-clause-ends
invariant_of-result-clause-ends c =
    let w = c.args.self.now in
    omega (
      arith,
      ap length (turned_is w c.in_ok-turned_words.field-0.items c.deref.result.now
          c.in_ok-turned_words.ensures c.deref.ensures.value),
      cut_ends w.universe w.low w.first w.words.items w.high w.ends,
    )

pub returns : goal.returns
returns c =
    let w = c.args.self.now in
    record {
      universe = refl;
      words = ap (λ l. spread w.universe (not w.low) w.first l (not w.high))
          (turned_is w c.in_ok-turned_words.field-0.items c.deref.result.now c.in_ok-turned_words.ensures
          c.deref.ensures.value) ∙ turn_spread w.universe w.low w.first w.words.items w.high w.ends;
    }
