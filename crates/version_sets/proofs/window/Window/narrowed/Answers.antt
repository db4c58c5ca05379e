use Rattle.std.proofs.Common.{◌∙◌, ap, arith}
use Rattle.version_sets.specs.inner.Forms.{all_words}
use Rattle.version_sets.specs.inner.Windows.{spread}
use Rattle.version_sets.proofs.Kept.{window_long}
use Rattle.version_sets.proofs.Spreads.{of_flanked}
use Rattle.version_sets.proofs.window.Window.narrowed.Goals as goal

pub returns : goal.returns
returns c =
    let w = c.settled-whole.result in
    record {
      universe = c.settled-whole.ensures.universe;
      words = ap (λ l. spread w.universe w.low c.unlike_from-from.result l w.high) c.in_ok-between.ensures
          ∙ of_flanked w.universe w.low w.high (all_words w) c.unlike_from-from.result c.unlike_to-to.result
          (window_long w) c.unlike_to-to.ensures.from (omega arith)
          (record { before = c.unlike_from-from.ensures.before; behind = c.unlike_to-to.ensures.behind })
          ∙ c.settled-whole.ensures.words;
    }
