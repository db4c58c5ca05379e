use Rattle.std.proofs.Common.{sym, ap, ◌∙◌}
use Rattle.serde_json.specs.Find.{as_str}
use Rattle.trees.specs.inner.Tokens.{json_from}
use Rattle.trees.specs.Trees.{tree_view}
use Rattle.trees.proofs.TokenLemmas.{begun}
use Rattle.trees.proofs.TreeLemmas.{as_str-data_of}
use Rattle.trees.proofs.looking.as_text.Goals as goal

pub returns-in-Tokens : goal.returns-in-Tokens
returns-in-Tokens c =
    let ts = c.in-Tokens.tokens.element in
    c.as_str.ensures (json_from ts) (begun ts c.in-Tokens.tokens.begins) ∙ as_str-data_of (json_from ts)
    ∙ ap (λ t. as_str (tree_view t)) (sym c.in-Tokens.is)
