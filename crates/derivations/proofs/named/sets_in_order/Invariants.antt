use Rattle.std.proofs.Common.{◌≡◌, map, take}
use Rattle.derivations.specs.inner.Building.{ordered_term}
use Rattle.derivations.specs.inner.Named.{named_views, set_in_order_views}
use Rattle.derivations.proofs.named.sets_in_order.Given as goal

abbrev pub invariant-terms : goal.invariant-terms
invariant-terms l = set_in_order_views l.found.items ≡ map ordered_term (named_views (take l.term-index l.terms))
