use Rattle.std.proofs.Common.{◌≡◌, take}
use Rattle.trees.specs.inner.Parts.{is_plain}
use Rattle.index_lines.proofs.shortcuts.split.is_plain.Given as goal

-- whether those so far are
abbrev pub invariant-bytes : goal.invariant-bytes
invariant-bytes l = l.all ≡ is_plain (take l.byte-index l.text)
