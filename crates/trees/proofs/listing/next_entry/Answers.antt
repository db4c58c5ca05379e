use Rattle.std.proofs.Common.{◌∷◌, sym, ap, ◌∙◌}
use Rattle.trees.specs.inner.Tokens.{members_from}
use Rattle.trees.specs.Trees.{data_of, left, listed}
use Rattle.trees.proofs.TokenLemmas.{begins-read, json_from-read, in_members, members_from-read, members-left}
use Rattle.trees.proofs.listing.next_entry.Goals as goal

pub invariant_of-tokens : goal.invariant_of-tokens
invariant_of-tokens c = record {
  has_members = members-left c.in-Tokens.tokens.members c.next.new.self c.next.result
      c.in-Tokens.tokens.has_members c.next.ensures.value c.next.ensures.stays;
}

pub invariant_of-result : goal.invariant_of-result
invariant_of-result c =
    let tokens = c.in-Tokens.tokens in
    let next = c.in-Some.ensures.value (members_from tokens.members) (in_members tokens.members tokens.has_members) in
    record { begins = begins-read c.in-Some.element next.0 next.3 }

pub returns-in-Some : goal.returns-in-Some
returns-in-Some c =
    let tokens = c.in-Tokens.tokens in
    let key = c.in-Some.key.now in
    let next = c.in-Some.ensures.value (members_from tokens.members) (in_members tokens.members tokens.has_members) in
    ap left c.in-Tokens.is ∙ ap listed next.2
    ∙ sym (ap (λ ms. (key, data_of next.0) ∷ listed ms) (members_from-read c.next.new.self next.1 next.4))
    ∙ sym (ap (λ j. (key, data_of j) ∷ listed (members_from c.next.new.self))
    (json_from-read c.in-Some.element next.0 next.3))

pub returns-in-None : goal.returns-in-None
returns-in-None c =
    let tokens = c.in-Tokens.tokens in
    ap left c.in-Tokens.is ∙ ap listed
    (c.in-None.ensures.value (members_from tokens.members) (in_members tokens.members tokens.has_members))
