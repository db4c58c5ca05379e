use Rattle.std.proofs.Common.{◌-◌, ap₂, subst}
use Rattle.version_sets.specs.Sets.{between}
use Rattle.version_sets.specs.inner.Forms.{IsWindow}
use Rattle.version_sets.proofs.Headed.{is_wide}
use Rattle.version_sets.proofs.wide.Wide.of_range.Goals as goal

pub returns : goal.returns
returns c =
    let m = c.args.universe - 64 in
    is_wide c.args.universe c.args.from c.args.to c.requires.large c.requires.small c.requires.rising
    c.requires.within c.in_ok-rest.rest (subst (λ s. IsWindow m s c.in_ok-rest.rest)
    (ap₂ (between m) c.saturating_sub.ensures c.saturating_sub-2.ensures) c.in_ok-rest.ensures)
    c.range_word.result c.range_word.ensures
