use Rattle.std.proofs.Common.{◌∙◌, ap, sym, arith, take}
use Rattle.version_sets.specs.inner.Windows.{flank}
use Rattle.version_sets.specs.inner.Words.{ones_in}
use Rattle.version_sets.proofs.Counted.{before_empty, before_full}
use Rattle.version_sets.proofs.window.Window.count_before.Goals as goal

pub returns-then-not-self : goal.returns-then-not-self
returns-then-not-self c = sym (ap (λ b. ones_in (take c.args.self.now.first (flank c.args.self.now.universe b)))
    c.if-not-self.true
    ∙ before_empty c.args.self.now.universe c.args.self.now.first (omega (arith, c.args.self.now.ends)))

pub returns : goal.returns
returns c = c.min.ensures ∙ sym (ap (λ b. ones_in (take c.args.self.now.first (flank c.args.self.now.universe b)))
    c.if-not-self.false
    ∙ before_full c.args.self.now.universe c.args.self.now.first (omega (arith, c.args.self.now.ends)))
