use Rattle.std.proofs.Common.{◌≡◌, map, take}
use Rattle.features.specs.inner.NameTexts.{text_bytes}
use Rattle.features.specs.Views.{text_views}
use Rattle.index_lines.proofs.texts.kept_texts.Given as goal

-- the texts so far are the first of all
abbrev pub invariant-texts : goal.invariant-texts
invariant-texts l = map text_bytes l.found.items ≡ text_views (take l.text-index l.texts)
