use Rattle.std.proofs.Common.{◌≡◌, map, take}
use Rattle.index_reader.specs.Files.{skip_view}
use Rattle.resolver.proofs.resolving.copied.Given as goal

abbrev pub invariant-skips : goal.invariant-skips
invariant-skips l = map skip_view l.copies.items ≡ map skip_view (take l.skip-index l.skips)
