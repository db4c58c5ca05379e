use Rattle.std.proofs.Common.{option_map, sym, ap, ◌∙◌}
use Rattle.json.specs.Find as find
use Rattle.serde_json.specs.Find.{get}
use Rattle.trees.specs.inner.Tokens.{json_from}
use Rattle.trees.specs.Trees.{data_of, tree_view}
use Rattle.trees.proofs.TokenLemmas.{begun}
use Rattle.trees.proofs.TreeLemmas.{get-data_of, some-found, found-begins}
use Rattle.trees.proofs.looking.member.Goals as goal

pub invariant_of-result : goal.invariant_of-result
invariant_of-result c =
    let ts = c.in-Tokens.tokens.element in
    let j = json_from ts in
    let found = c.in-Some.ensures j (begun ts c.in-Tokens.tokens.begins) in
    record { begins = found-begins c.in-Some.element (find.get c.args.key.now j) found }

pub returns-in-Some : goal.returns-in-Some
returns-in-Some c =
    let ts = c.in-Tokens.tokens.element in
    let j = json_from ts in
    let found = c.in-Some.ensures j (begun ts c.in-Tokens.tokens.begins) in
    some-found c.in-Some.element (find.get c.args.key.now j) found ∙ sym (get-data_of c.args.key.now j)
    ∙ ap (λ t. get c.args.key.now (tree_view t)) (sym c.in-Tokens.is)

pub returns-in-None : goal.returns-in-None
returns-in-None c =
    let ts = c.in-Tokens.tokens.element in
    let j = json_from ts in
    sym (ap (option_map data_of) (c.in-None.ensures j (begun ts c.in-Tokens.tokens.begins)))
    ∙ sym (get-data_of c.args.key.now j)
    ∙ ap (λ t. get c.args.key.now (tree_view t)) (sym c.in-Tokens.is)
