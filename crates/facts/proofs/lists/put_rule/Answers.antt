use Rattle.std.proofs.Common.{◌≡◌, ◌++◌, ◌∷◌, [], ap, ◌∙◌}
use Rattle.facts.proofs.ListLemmas.{put-set}
use Rattle.facts.proofs.lists.put_rule.Goals as goal
use Rattle.facts.proofs.lists.put_rule.Goals.{then-is_empty+in_ok-reserve_exact, else-is_empty}

pub returns-clause-put : goal.returns-clause-put
returns-clause-put c =
    let same : c.if-is_empty.list.items ≡ c.index_mut-list.result.now.items = elim c.if-is_empty.branch [
      | then-is_empty+in_ok-reserve_exact w ↦ ap (λ v. v.items) w.list-is ∙ w.in_ok-reserve_exact.ensures.items
      | else-is_empty w ↦ ap (λ v. v.items) w.list-is
    ] in
    put-set c.args.lists.now.items c.args.fact c.args.rule.now c.index_mut-list.result.now
    c.push.new.self c.requires.below
    (c.in_ok-push.ensures.items
    ∙ ap (λ l. l ++ c.args.rule.now ∷ []) (same ∙ ap (λ v. v.items) c.index_mut-list.ensures.value))
