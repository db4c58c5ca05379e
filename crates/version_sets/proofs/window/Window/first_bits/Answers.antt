use Rattle.std.proofs.Common.{◌∙◌, ap, arith}
use Rattle.version_sets.specs.inner.Windows.{flank_word}
use Rattle.version_sets.proofs.Kept.{at_low}
use Rattle.version_sets.proofs.window.Window.first_bits.Goals as goal

pub returns : goal.returns
returns c = λ k from to. at_low c.args.self.now k (omega arith)
    ∙ ap (λ b. flank_word c.args.self.now.universe b k) c.if-self.false
