use Rattle.std.proofs.Common.{subst}
use Rattle.std.specs.Prelude.{IfOk}
use Rattle.version_sets.specs.inner.Forms.{HasWords}
use Rattle.version_sets.proofs.Spreads.{all_kept}
use Rattle.version_sets.proofs.window.Window.of_words.Goals as goal

pub returns : goal.returns
returns c = subst (λ l. IfOk c.narrowed.result (HasWords c.args.universe l))
    (all_kept c.args.universe c.args.words.items c.requires.long) c.narrowed.ensures
