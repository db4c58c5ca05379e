use Rattle.std.proofs.Common.{sym, ap, ◌∙◌}
use Rattle.serde_json.specs.Data.{item}
use Rattle.trees.specs.inner.Tokens.{items_from}
use Rattle.trees.specs.Trees.{data_of, items_of, left_items}
use Rattle.trees.proofs.TokenLemmas.{begins-read, json_from-read, in_items, items_from-read, items-left}
use Rattle.trees.proofs.listing.next_element.Goals as goal

pub invariant_of-tokens : goal.invariant_of-tokens
invariant_of-tokens c = record {
  has_items = items-left c.in-Tokens.tokens.items c.next.new.self c.next.result c.in-Tokens.tokens.has_items
      c.next.ensures.value c.next.ensures.stays;
}

pub invariant_of-result : goal.invariant_of-result
invariant_of-result c =
    let tokens = c.in-Tokens.tokens in
    let next = c.in-Some.ensures.value (items_from tokens.items) (in_items tokens.items tokens.has_items) in
    record { begins = begins-read c.in-Some.element next.0 next.3 }

pub returns-in-Some : goal.returns-in-Some
returns-in-Some c =
    let tokens = c.in-Tokens.tokens in
    let next = c.in-Some.ensures.value (items_from tokens.items) (in_items tokens.items tokens.has_items) in
    ap left_items c.in-Tokens.is ∙ ap items_of next.2
    ∙ sym (ap (λ js. item (data_of next.0) (items_of js)) (items_from-read c.next.new.self next.1 next.4))
    ∙ sym (ap (λ j. item (data_of j) (items_of (items_from c.next.new.self)))
    (json_from-read c.in-Some.element next.0 next.3))

pub returns-in-None : goal.returns-in-None
returns-in-None c =
    let tokens = c.in-Tokens.tokens in
    ap left_items c.in-Tokens.is
    ∙ ap items_of (c.in-None.ensures.value (items_from tokens.items) (in_items tokens.items tokens.has_items))
