use Rattle.std.proofs.Common.{sym, ap, ◌∙◌}
use Rattle.serde_json.specs.Data.{put}
use Rattle.trees.specs.inner.Parts.{members_put}
use Rattle.trees.specs.Trees.{tree_view}
use Rattle.serde_json.specs.Find.{get_member}
use Rattle.index_lines.specs.Shapes.{unless_null, values_by}
use Rattle.index_lines.specs.inner.PartMembers.{value_put}
use Rattle.index_lines.proofs.PartLemmas.{values_in-put}
use Rattle.index_lines.proofs.parts.DependencyValues.put_all.Goals as goal

pub members-preserved : goal.members-preserved
members-preserved c =
    let key = c.in-Some.key.now in
    let d = tree_view c.in-Some.value in
    let so_far = c.members.invariant.0 in (
      put key d so_far,
      ap (λ ms. members_put ms so_far) (sym c.in-Some.ensures) ∙ c.members.invariant.1,
      c.put.ensures (λ k. unless_null (get_member k so_far)) c.members.invariant.2
          ∙ ap (λ v. values_by (value_put key v (λ k. unless_null (get_member k so_far)))) c.unless_null.ensures
          ∙ values_in-put key d so_far,
    )
