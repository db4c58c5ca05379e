use Rattle.std.proofs.Common.{◌≡◌, map, take, string_bytes}
use Rattle.checker.specs.inner.Names.{rank_of}
use Rattle.checker.proofs.ranks.ranks_in.Given as goal

abbrev pub invariant-texts : goal.invariant-texts
invariant-texts l =
    l.ranks.items ≡ map (rank_of (map (λ x. x.now) l.sorted)) (map string_bytes (take l.text-index l.texts))
