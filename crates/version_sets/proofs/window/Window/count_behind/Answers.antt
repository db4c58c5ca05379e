use Rattle.std.proofs.Common.{◌+◌, ◌-◌, ◌*◌, ◌∙◌, ap, sym, drop, length}
use Rattle.version_sets.specs.inner.Windows.{flank}
use Rattle.version_sets.specs.inner.Words.{ones_in}
use Rattle.version_sets.proofs.Counted.{behind_empty, behind_full}
use Rattle.version_sets.proofs.window.Window.count_behind.Goals as goal

pub returns-then-not-self : goal.returns-then-not-self
returns-then-not-self c =
    let w = c.args.self.now in
    sym (ap (λ b. ones_in (drop (w.first + length w.words.items) (flank w.universe b))) c.if-not-self.true
    ∙ behind_empty w.universe (w.first + length w.words.items))

pub returns : goal.returns
returns c =
    let w = c.args.self.now in
    c.saturating_sub.ensures ∙ ap (λ e. w.universe - 64 * e) c.end.ensures
    ∙ sym (ap (λ b. ones_in (drop (w.first + length w.words.items) (flank w.universe b))) c.if-not-self.false
    ∙ behind_full w.universe (w.first + length w.words.items) w.ends)
