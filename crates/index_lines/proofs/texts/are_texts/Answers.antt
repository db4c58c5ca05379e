use Rattle.std.proofs.Common.{◌∙◌}
use Rattle.features.specs.inner.NameTexts.{text_bytes}
use Rattle.model.specs.Summary.{same_text}
use Rattle.index_lines.proofs.SameLemmas.{by_place}
use Rattle.index_lines.proofs.texts.are_texts.Goals as goal

pub returns-then-known-texts : goal.returns-then-known-texts
returns-then-known-texts c = c.all_texts.ensures
    ∙ by_place text_bytes (λ t. t.now) same_text c.args.known.now c.args.texts.now c.if-known-texts.true
