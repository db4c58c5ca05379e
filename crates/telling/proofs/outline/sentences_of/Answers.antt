use Rattle.std.proofs.Common.{◌≡◌, refl, sym, subst, ap, ◌∙◌}
use Rattle.telling.specs.inner.Outlines.{IsOutline, Outline, nothing_yet, outline_from, uses_of}
use Rattle.telling.specs.inner.Views.{so_far_view}
use Rattle.telling.proofs.LeadingBack.{leads-back}
use Rattle.telling.proofs.OutlineLaws.{sentences-tell}
use Rattle.telling.proofs.outline.sentences_of.Goals as goal

pub returns-clause-outline : goal.returns-clause-outline
returns-clause-outline c =
    let d = c.args.derivation.now in
    let notes = c.args.notes.now in
    let begun : so_far_view (record { sentences = c.new.result; said = c.in_ok-with_capacity.field-0 }) ≡ nothing_yet
    = rw (c.new.ensures.items, c.in_ok-with_capacity.ensures.items) refl in
    let made : so_far_view c.look_at_all.new.so_far ≡ outline_from notes d 0 (uses_of d) nothing_yet
    = c.in_ok-look_at_all.ensures ∙ ap (outline_from notes d 0 (uses_of d)) begun in
    subst (IsOutline notes d) (sym (ap (λ (o : Outline). o.told) made))
    (sentences-tell notes d (leads-back d c.parts.ensures.derivation))
