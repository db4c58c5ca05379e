use Rattle.std.proofs.Common.{length}
use Rattle.features.specs.Views.{text_views}
use Rattle.index_lines.proofs.PlainLemmas.{TextsSoFar}
use Rattle.index_lines.proofs.shortcuts.plain.plain_texts.Given as goal

-- there is a text so far, and all of them, with what is left, are what the list's bytes spell
abbrev pub invariant-texts : goal.invariant-texts
invariant-texts l = TextsSoFar l.fn.bytes (text_views l.found.items) l.left

abbrev pub decreases-texts : goal.decreases-texts
decreases-texts l = length l.left
