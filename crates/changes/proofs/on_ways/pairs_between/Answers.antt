use Rattle.std.proofs.Common.{◌≡◌, ◌↔◌, ◌∙◌, ℕ, List, true, subst, sym, length}
use Rattle.std.specs.List.{filter}
use Rattle.std.proofs.lemmas.Result.{IfOk-weaker}
use Rattle.facts.specs.inner.Chains.{AreBelow, IsGiven, has}
use Rattle.facts.specs.declared.rule.Rule.{Rule}
use Rattle.changes.specs.inner.OnWays.{AreBetween, are_both, rules_ahead, rules_back}
use Rattle.changes.proofs.on_ways.pairs_between.Goals as goal

pub close-requires : goal.close-requires
close-requires c = record {
  below = subst (λ rs. AreBelow (length c.args.ahead.now) rs)
      (sym (c.as_slice.ensures.value ∙ c.in_ok-rules.ensures)) c.requires.ahead;
}

pub close-requires-2 : goal.close-requires-2
close-requires-2 c = record {
  below = subst (λ rs. AreBelow (length c.args.back.now) rs)
      (sym (c.as_slice-2.ensures.value ∙ c.in_ok-rules-2.ensures)) c.requires.back;
}

pub returns : goal.returns
returns c =
    let ahead : c.as_slice.result.now ≡ rules_ahead c.args.pairs.now =
    c.as_slice.ensures.value ∙ c.in_ok-rules.ensures in
    let back : c.as_slice-2.result.now ≡ rules_back c.args.pairs.now
    = c.as_slice-2.ensures.value ∙ c.in_ok-rules-2.ensures in
    let a = c.close.new.marked in
    let b = c.close-2.new.marked in
    let given_ahead = subst (λ (rs : List Rule). (i : ℕ) → (has a i ≡ true) ↔ IsGiven rs c.args.ahead.now i) ahead
    c.in_ok-close.ensures.given in
    let given_back = subst (λ (rs : List Rule). (j : ℕ) → (has b j ≡ true) ↔ IsGiven rs c.args.back.now j) back
    c.in_ok-close-2.ensures.given in
    IfOk-weaker c.marked_pairs.result
    (λ v. v.items ≡ filter (are_both a b) c.args.pairs.now)
    (λ v. AreBetween c.args.pairs.now c.args.ahead.now c.args.back.now v.items)
    (λ v e. (a, b, given_ahead, given_back, e)) c.marked_pairs.ensures
