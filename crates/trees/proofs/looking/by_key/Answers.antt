use Rattle.std.proofs.Common.{◌≡◌, ◌+◌, ◌∷◌, drop, sym, ap, ◌∙◌, arith}
use Rattle.std.proofs.lemmas.List.{drop_more}
use Rattle.trees.specs.Trees.{put_all, sorted_view}
use Rattle.trees.proofs.TreeLemmas.{sorted_view-insert_entry}
use Rattle.trees.proofs.looking.by_key.Goals as goal

pub members-preserved : goal.members-preserved
members-preserved c =
    let all = c.deref-member-items.result.now in
    let m = c.member-item.result in
    let left = drop (c.members.member-index + 1) all in
    let here : drop c.members.member-index all ≡ m ∷ left =
    drop_more all c.members.member-index m (omega arith) ∙ ap (λ x. x ∷ left) (sym c.member-item.is) in
    let put_there =
    ap sorted_view c.in_ok-insert.ensures.entries ∙ sorted_view-insert_entry c.members.sorted.entries _ _ in
    ap (put_all left) put_there
    ∙ sym (ap (λ ms. put_all ms (sorted_view c.members.sorted.entries)) here)
    ∙ c.members.invariant
