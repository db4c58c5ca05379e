use Rattle.std.proofs.Common.{◌≡◌, ◌++◌, take}
use Rattle.facts.specs.inner.FactNumbers.{link_views, numbers_views}
use Rattle.facts.specs.inner.RuleLists.{ask_all}
use Rattle.facts.proofs.rules.ask_all.Given as goal

abbrev pub invariant-links : goal.invariant-links
invariant-links l = l.rules.items
    ≡ l.fn.rules.items ++ ask_all (numbers_views l.packages) l.fact (link_views (take l.link-index l.links)) l.feature
