-- What a tree has is what the line has, and a test of views.
use Rattle.std.proofs.Common.{◌≡◌, Option, Some, None, Ok}
use Rattle.std.proofs.lemmas.List.Folds.{list_all-map}
use Rattle.std.specs.Option.{ok_or}
use Rattle.index_lines.specs.declared.fault.LineFault.TheVariants.{Skipped}
use Rattle.index_lines.specs.declared.fault.SkipReason.TheVariants.{NotJson}
use Rattle.trees.specs.declared.fault.TreeFault.TheVariants as tree

-- what a tree has is there in the line
pub found-there : {A : Type 0} (o : Option A) (x : A) → ok_or o tree.NotJson ≡ Ok x → ok_or o (Skipped NotJson) ≡ Ok x
found-there None x is = cc
found-there (Some y) x is = cc

pub ruleset views = (list_all-map)
