use Rattle.std.proofs.Common.{◌≡◌, map, string_bytes, take}
use Rattle.explainer.specs.inner.Texts.{sets_words}
use Rattle.explainer.proofs.texts.sets_in.Given as goal

abbrev pub invariant-sets : goal.invariant-sets
invariant-sets l = map string_bytes l.texts.items ≡ sets_words l.tables (map (λ s. s.items) (take l.set-index l.sets))
