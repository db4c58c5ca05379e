use Rattle.std.proofs.Common.{◌-◌, ◌∙◌, ap, sym, arith, bit_and, get_or, length}
use Rattle.version_sets.specs.inner.Windows.{full_word}
use Rattle.version_sets.proofs.Spreads.{last_cut, none_cut}
use Rattle.version_sets.proofs.windows.cut_last.Goals as goal

pub returns-then-first-place : goal.returns-then-first-place
returns-then-first-place c =
    last_cut c.args.universe c.args.first c.args.words.now c.requires.ends c.requires.fits (length c.args.words.now - 1)
    (bit_and (get_or c.args.words.now (length c.args.words.now - 1) 0) c.full_word.result)
    (omega arith) (omega arith)
    (ap (bit_and (get_or c.args.words.now (length c.args.words.now - 1) 0)) (c.full_word.ensures
    ∙ ap (full_word c.args.universe) (sym c.if-first-place.true)))

pub returns-else-first-place : goal.returns-else-first-place
returns-else-first-place c =
    none_cut c.args.universe c.args.first c.args.words.now c.requires.ends c.requires.fits (λ j low. omega arith)
