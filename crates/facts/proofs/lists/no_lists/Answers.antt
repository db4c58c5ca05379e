use Rattle.std.proofs.Common.{rules, ◌≡◌, suc, ◌++◌, ◌∷◌, ◌+◌, [], ap, ap₂, ◌∙◌, arith}
use Rattle.std.proofs.lemmas.List.{map-append}
use Rattle.facts.specs.inner.Lists.{rule_lists, no_lists}
use Rattle.facts.proofs.ListLemmas.{one_more_list}
use Rattle.facts.proofs.lists.no_lists.Goals as goal

pub facts-preserved : goal.facts-preserved
facts-preserved c =
    let next : suc c.facts.counter ≡ c.facts.counter + 1 = omega arith in
    record {
      length = search rules;
      lists =
          ap rule_lists c.in_ok-push.ensures.items ∙ map-append (λ l. l.items) c.facts.lists.items (c.new.result ∷ [])
          ∙ ap₂ (λ ls l. ls ++ l ∷ []) c.facts.invariant.lists c.new.ensures.items
          ∙ one_more_list c.facts.counter ∙ ap no_lists next;
    }
