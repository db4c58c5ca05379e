use Rattle.std.proofs.Common.{◌∙◌, ap, arith}
use Rattle.version_sets.specs.inner.Windows.{flank_word}
use Rattle.version_sets.proofs.Kept.{at_high}
use Rattle.version_sets.proofs.window.Window.last_bits.Goals as goal

pub returns-clause-none : goal.returns-clause-none
returns-clause-none c = λ k from to. at_high c.args.self.now k (omega arith)
    ∙ ap (λ b. flank_word c.args.self.now.universe b k) c.if-self.false
