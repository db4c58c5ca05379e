use Rattle.std.proofs.Common.{Some, sym, ap, ◌∙◌}
use Rattle.serde_json.specs.Data.{no_members}
use Rattle.trees.specs.inner.Parts.{members_put}
use Rattle.trees.specs.Trees.{left, put_all}
use Rattle.trees.proofs.TreeLemmas.{put_all-push}
use Rattle.trees.proofs.looking.as_members.Goals as goal

pub members-preserved : goal.members-preserved
members-preserved c =
    let found = c.members.found.items in
    let rest = left c.next_entry.new.entries in
    ap (λ v. Some (members_put rest (put_all v no_members))) c.in_ok-push.ensures.items
    ∙ ap (λ ms. Some (members_put rest ms)) (put_all-push found _ no_members)
    ∙ ap (λ ms. Some (members_put ms (put_all found no_members))) (sym c.in-Some-next_entry.ensures)
    ∙ c.members.invariant
