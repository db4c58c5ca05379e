use Rattle.std.proofs.Common.{◌∙◌, ap, refl}
use Rattle.version_sets.specs.inner.Windows.{spread}
use Rattle.version_sets.proofs.Spreads.{nothing_kept}
use Rattle.version_sets.proofs.window.Window.even.Goals as goal

pub returns : goal.returns
returns c = record {
  universe = refl;
  words = ap (λ ws. spread c.args.universe c.args.is_full 0 ws c.args.is_full) c.new.ensures.items
      ∙ nothing_kept c.args.universe c.args.is_full;
}
