use Rattle.std.proofs.Common.{sym, ap, ◌∙◌}
use Rattle.trees.specs.inner.Tokens.{json_from}
use Rattle.trees.specs.Trees.{is_null, tree_view}
use Rattle.trees.proofs.TokenLemmas.{begun}
use Rattle.trees.proofs.TreeLemmas.{is_null-data_of}
use Rattle.trees.proofs.looking.is_null.Goals as goal

pub returns-in-Tokens : goal.returns-in-Tokens
returns-in-Tokens c =
    let ts = c.in-Tokens.tokens.element in
    c.is_null.ensures (json_from ts) (begun ts c.in-Tokens.tokens.begins) ∙ is_null-data_of (json_from ts)
    ∙ ap (λ t. is_null (tree_view t)) (sym c.in-Tokens.is)
