use Rattle.std.proofs.Common.{◌∷◌, ◌-◌, ◌∙◌, ap₂, arith, sym}
use Rattle.version_sets.proofs.Headed.{flank_first}
use Rattle.version_sets.proofs.wide.Wide.even.Goals as goal

pub returns : goal.returns
returns c = record {
  universe = omega (arith, c.even.ensures.universe, c.requires.large);
  words = ap₂ (λ h ws. h ∷ ws) c.flank_word.ensures c.even.ensures.words
      ∙ sym (flank_first c.args.universe (c.args.universe - 64) c.args.is_full (omega (arith, c.requires.large))
      (omega (arith, c.requires.large)));
}
