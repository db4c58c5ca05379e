use Rattle.std.proofs.Common.{option_map, option_and_then, sym, ap, ◌∙◌}
use Rattle.serde_json.specs.Find.{as_number, as_u64}
use Rattle.trees.specs.inner.Tokens.{json_from}
use Rattle.trees.specs.Trees.{num_of, tree_view}
use Rattle.trees.proofs.TokenLemmas.{begun}
use Rattle.trees.proofs.TreeLemmas.{as_number-data_of, whole-data_of}
use Rattle.trees.proofs.looking.as_whole.Goals as goal

pub returns-in-Some : goal.returns-in-Some
returns-in-Some c =
    let ts = c.in-Tokens.tokens.element in
    let text = c.in-Some.ensures (json_from ts) (begun ts c.in-Tokens.tokens.begins) in
    c.whole_of.ensures ∙ sym (whole-data_of (json_from ts) c.in-Some.text.now text)
    ∙ ap (λ t. option_and_then as_u64 (as_number (tree_view t))) (sym c.in-Tokens.is)

pub returns-in-None : goal.returns-in-None
returns-in-None c =
    let ts = c.in-Tokens.tokens.element in
    let no_text = c.in-None.ensures (json_from ts) (begun ts c.in-Tokens.tokens.begins) in
    sym (ap (option_and_then as_u64) (as_number-data_of (json_from ts) ∙ ap (option_map num_of) (sym no_text)))
    ∙ ap (λ t. option_and_then as_u64 (as_number (tree_view t))) (sym c.in-Tokens.is)
