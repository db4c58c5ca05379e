use Rattle.std.proofs.Common.{◌≡◌, false, sym, ap, ◌∙◌}
use Rattle.features.specs.inner.Texts.{has_text}
use Rattle.features.proofs.DraftLemmas.{contains-has, has_text-others}
use Rattle.features.proofs.texts.Texts.has.Goals as goal

pub returns-else-is_among : goal.returns-else-is_among
returns-else-is_among c =
    let none : has_text c.args.self.now.few.items c.args.text.now ≡ false = ap (λ xs. has_text xs c.args.text.now)
    (sym c.deref.ensures.value) ∙ sym c.is_among.ensures ∙ c.if-is_among.false in
    c.contains.ensures ∙ contains-has c.args.text.now c.args.self.now.more.keys
    ∙ has_text-others c.args.text.now c.args.self.now.few.items c.args.self.now.more.keys none
