use Rattle.std.proofs.Common.{◌∙◌, ap, ap₂, arith, length, subst, sym, bit_and, ◌&&◌}
use Rattle.std.specs.Prelude.{IfOk}
use Rattle.std.specs.Simd.Lanes.{zip2}
use Rattle.version_sets.specs.inner.Forms.{HasWords}
use Rattle.version_sets.specs.inner.Windows.{spread}
use Rattle.version_sets.proofs.Flanks.{and_bitwise}
use Rattle.version_sets.proofs.Together.{hull_ends, hull_long, hull_words}
use Rattle.version_sets.proofs.combining.common.Goals as goal

pub words_common-requires : goal.words_common-requires
words_common-requires c =
    ap length c.in_ok-words.ensures ∙ hull_long c.args.a.now c.args.b.now c.hull-from.result.0 c.hull-from.result.1
    c.requires c.hull-from.ensures ∙ sym (ap length (c.deref.ensures.value ∙ c.in_ok-others.ensures))

pub invariant_of-whole-clause-ends : goal.invariant_of-whole-clause-ends
invariant_of-whole-clause-ends c =
    omega (
      arith,
      ap length (c.words_common.ensures
          ∙ ap₂ (zip2 bit_and) c.in_ok-words.ensures (c.deref.ensures.value ∙ c.in_ok-others.ensures)),
      hull_ends bit_and (λ x y. x && y) and_bitwise c.args.a.now c.args.b.now c.hull-from.result.0 c.hull-from.result.1
          c.requires c.hull-from.ensures,
    )

pub returns : goal.returns
returns c =
    let a = c.args.a.now in
    let b = c.args.b.now in
    subst (λ l. IfOk c.narrowed.result (HasWords a.universe l))
    (ap (λ l. spread a.universe (a.low && b.low) c.hull-from.result.0 l (a.high && b.high))
    (c.words_common.ensures ∙ ap₂ (zip2 bit_and) c.in_ok-words.ensures (c.deref.ensures.value
    ∙ c.in_ok-others.ensures))
    ∙ hull_words bit_and (λ x y. x && y) and_bitwise a b c.hull-from.result.0 c.hull-from.result.1 c.requires
    c.hull-from.ensures) c.narrowed.ensures
