use Rattle.std.proofs.Common.{Some, option_map, sym, ap, ◌∙◌}
use Rattle.serde_json.specs.Find.{as_array}
use Rattle.trees.specs.inner.Tokens.{json_from}
use Rattle.trees.specs.Trees.{data_of, items_of, tree_view}
use Rattle.trees.proofs.TokenLemmas.{begun, has-items, items_from-read}
use Rattle.trees.proofs.TreeLemmas.{as_array-data_of}
use Rattle.trees.proofs.listing.elements.Goals as goal

pub invariant_of-result : goal.invariant_of-result
invariant_of-result c =
    let ts = c.in-Tokens.tokens.element in
    let all = c.in-Some.ensures (json_from ts) (begun ts c.in-Tokens.tokens.begins) in
    record { has_items = has-items c.in-Some.items all.0 all.2 }

pub returns-in-Some : goal.returns-in-Some
returns-in-Some c =
    let ts = c.in-Tokens.tokens.element in
    let all = c.in-Some.ensures (json_from ts) (begun ts c.in-Tokens.tokens.begins) in
    ap (λ js. Some (items_of js)) (items_from-read c.in-Some.items all.0 all.2)
    ∙ sym (ap (λ j. as_array (data_of j)) all.1) ∙ ap (λ t. as_array (tree_view t)) (sym c.in-Tokens.is)

pub returns-in-None : goal.returns-in-None
returns-in-None c =
    let ts = c.in-Tokens.tokens.element in
    let none = c.in-None.ensures (json_from ts) (begun ts c.in-Tokens.tokens.begins) in
    sym (as_array-data_of (json_from ts) ∙ ap (option_map items_of) none)
    ∙ ap (λ t. as_array (tree_view t)) (sym c.in-Tokens.is)
