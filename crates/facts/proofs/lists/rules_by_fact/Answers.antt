use Rattle.std.proofs.Common.{ap}
use Rattle.facts.specs.inner.Lists.{put_all}
use Rattle.facts.proofs.lists.rules_by_fact.Goals as goal

pub rules-init : goal.rules-init
rules-init c = record {
  length = c.in_ok-lists.ensures.length;
  told = ap (λ ls. put_all ls c.args.rules.now) c.in_ok-lists.ensures.lists;
}
