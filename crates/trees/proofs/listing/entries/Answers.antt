use Rattle.std.proofs.Common.{Some, option_map, string_cmp, sym, ap, ◌∙◌, subst}
use Rattle.std.specs.List.Sorted.{IsStrictlySortedBy}
use Rattle.std.specs.Map.{keys_of}
use Rattle.serde_json.specs.Data.{no_members}
use Rattle.serde_json.specs.Find.{as_object}
use Rattle.serde_json.specs.View.{members_view}
use Rattle.trees.specs.inner.Tokens.{json_from, members_from}
use Rattle.trees.specs.Trees.{data_of, members_of, tree_view}
use Rattle.trees.proofs.TokenLemmas.{begun, has-members, members_from-read}
use Rattle.trees.proofs.TreeLemmas.{as_object-data_of, put-entries, put-listed}
use Rattle.trees.proofs.listing.entries.Goals as goal

pub invariant_of-result : goal.invariant_of-result
invariant_of-result c =
    let ts = c.in-Tokens.tokens.element in
    let all = c.in-Some.ensures (json_from ts) (begun ts c.in-Tokens.tokens.begins) in
    record { has_members = has-members c.in-Some.members all.0 all.2 }

pub returns-in-Some : goal.returns-in-Some
returns-in-Some c =
    let ts = c.in-Tokens.tokens.element in
    let all = c.in-Some.ensures (json_from ts) (begun ts c.in-Tokens.tokens.begins) in
    ap Some (put-listed (members_from c.in-Some.members) no_members)
    ∙ ap (λ ms. Some (members_of ms no_members)) (members_from-read c.in-Some.members all.0 all.2)
    ∙ sym (ap (λ j. as_object (data_of j)) all.1) ∙ ap (λ t. as_object (tree_view t)) (sym c.in-Tokens.is)

pub returns-in-Some-as_object : goal.returns-in-Some-as_object
returns-in-Some-as_object c =
    let sorted = put-entries c.iter.result
    (subst (λ es. IsStrictlySortedBy string_cmp (keys_of es)) (sym c.iter.ensures.rest) c.iter.ensures.ordered) in
    ap Some (sorted ∙ ap members_view c.iter.ensures.rest) ∙ c.in-Some-as_object.ensures
    ∙ ap (λ t. as_object (tree_view t)) (sym c.in-Value.is)

pub returns-in-None : goal.returns-in-None
returns-in-None c =
    let ts = c.in-Tokens.tokens.element in
    let none = c.in-None.ensures (json_from ts) (begun ts c.in-Tokens.tokens.begins) in
    sym (as_object-data_of (json_from ts) ∙ ap (option_map (λ ms. members_of ms no_members)) none)
    ∙ ap (λ t. as_object (tree_view t)) (sym c.in-Tokens.is)
