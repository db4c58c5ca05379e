use Rattle.std.proofs.Common.{◌≡◌, true, map, sym, ◌∙◌}
use Rattle.features.specs.inner.NameTexts.{text_bytes}
use Rattle.index_lines.specs.inner.Known.{same_parts}
use Rattle.index_lines.specs.inner.ShapeViews.{part_view}
use Rattle.model.proofs.Same.{text-same}
use Rattle.index_lines.proofs.KnownLemmas.{says}
use Rattle.index_lines.proofs.SameLemmas.{texts-same}
use Rattle.index_lines.proofs.known.MadeDependency.is_of.Goals as goal

pub returns : goal.returns
returns c h =
    let made = c.args.self.now in
    let p = part_view c.args.part.now in
    let same : same_parts made.dependency p ≡ true = sym c.has_parts.ensures ∙ h in
    let requirement : text_bytes made.requirement ≡ p.requirement =
    text-same _ _ (sym (rw c.as_str.ensures at c.is_text.ensures) ∙ c.if-not-is_text.false) in
    let features : map text_bytes made.features.items ≡ p.features =
    texts-same _ _ (sym (rw (c.deref.ensures.value, c.deref-2.ensures.value) at c.are_texts.ensures)
    ∙ c.if-not-are_texts.false) in
    says p made.dependency (text_bytes made.requirement) (map text_bytes made.features.items) made.made same
    requirement features
