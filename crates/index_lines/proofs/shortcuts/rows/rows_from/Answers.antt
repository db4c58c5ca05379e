use Rattle.std.proofs.Common.{◌≡◌, ◌++◌, [], ◌∷◌, ap, ◌∙◌}
use Rattle.std.proofs.lemmas.List.{map-append}
use Rattle.index_lines.specs.inner.Rows.{row_texts}
use Rattle.index_lines.proofs.ItemsLemmas.{with-next}
use Rattle.index_lines.proofs.shortcuts.rows.rows_from.Goals as goal

pub members-preserved : goal.members-preserved
members-preserved c =
    let first = c.args.first in
    let texts = row_texts c.members.found.items in
    let next = c.in_ok-next.next in
    let pushed : row_texts c.push-in-Some.new.self.items ≡ texts ++ next.row.bytes.now ∷ [] =
    ap row_texts c.in_ok-push-2.ensures.items ∙ map-append (λ r. r.bytes.now) c.members.found.items (next.row ∷ []) in
    rw pushed (with-next (first.row.bytes.now ++ first.left.now) texts next.row.bytes.now c.members.left.now
    c.in-Some.members.now next.left.now c.members.invariant.0 c.members.invariant.1 c.in-Some.ensures
    c.in_ok-next.ensures)
