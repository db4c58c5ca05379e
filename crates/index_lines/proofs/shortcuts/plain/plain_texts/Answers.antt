use Rattle.std.proofs.Common.{rules, ◌≡◌, ◌++◌, [], ◌∷◌, codes, ap, ◌∙◌}
use Rattle.std.proofs.lemmas.List.{map-append}
use Rattle.features.specs.Views.{text_views}
use Rattle.index_lines.proofs.PlainLemmas.{all-texts, first-text, with-text}
use Rattle.index_lines.proofs.shortcuts.plain.plain_texts.Goals as goal

pub texts-init : goal.texts-init
texts-init c =
    let pushed : text_views c.push.new.self.items ≡ c.in-Some.first.now ∷ [] =
    ap text_views (c.in_ok-push.ensures.items ∙ ap (λ xs. xs ++ c.in-Some.first ∷ []) c.new-found.ensures.items) in
    rw pushed (first-text c.args.bytes.now c.in-Some.first.now c.in-Some.left.now c.in-Some.ensures.0
    c.in-Some.ensures.1)

pub texts-preserved : goal.texts-preserved
texts-preserved c =
    let found = c.texts.found.items in
    let next = c.in-Some-text_at in
    let pushed : text_views c.push-in-Some-text_at.new.self.items ≡ text_views found ++ next.text.now ∷ [] =
    ap text_views c.in_ok-push-2.ensures.items ∙ map-append (λ t. t.now) found (next.text ∷ []) in
    rw pushed (with-text c.args.bytes.now (text_views found) next.text.now c.texts.left.now next.rest.now
    c.texts.invariant next.ensures.0 next.ensures.1)

pub returns : goal.returns
returns c =
    let ended : c.texts.left.now ≡ codes "]" = search rules in
    all-texts c.args.bytes.now (text_views c.texts.found.items) c.texts.left.now c.texts.invariant ended
