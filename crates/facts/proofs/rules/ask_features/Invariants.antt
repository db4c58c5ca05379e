use Rattle.std.proofs.Common.{◌≡◌, ◌++◌, take}
use Rattle.facts.specs.inner.FactNumbers.{numbers_view}
use Rattle.facts.specs.inner.RuleLists.{ask_features}
use Rattle.facts.proofs.rules.ask_features.Given as goal

abbrev pub invariant-features : goal.invariant-features
invariant-features l =
    l.rules.items ≡ l.fn.rules.items ++ ask_features l.fact (numbers_view l.target) (take l.feature-index l.features)
