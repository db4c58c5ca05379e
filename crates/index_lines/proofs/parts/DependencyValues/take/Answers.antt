use Rattle.std.proofs.Common.{◌∙◌}
use Rattle.serde_json.specs.Data.{no_members}
use Rattle.trees.specs.inner.Parts.{members_put}
use Rattle.trees.specs.Trees.{left, tree_view}
use Rattle.index_lines.proofs.PartLemmas.{values_of-object}
use Rattle.index_lines.proofs.parts.DependencyValues.take.Goals as goal

pub returns-in-Some : goal.returns-in-Some
returns-in-Some c = c.put_all.ensures ∙ values_of-object (tree_view c.args.object.now)
    (members_put (left c.in-Some.members) no_members) c.in-Some.ensures
