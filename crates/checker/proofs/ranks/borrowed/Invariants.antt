use Rattle.std.proofs.Common.{◌≡◌, map, take, string_bytes}
use Rattle.checker.proofs.ranks.borrowed.Given as goal

abbrev pub invariant-texts : goal.invariant-texts
invariant-texts l = map (λ x. x.now) l.all.items ≡ map string_bytes (take l.text-index l.texts)
