use Rattle.std.proofs.Common.{rules}
use Rattle.index_lines.specs.inner.ShapeViews.{part_view}
use Rattle.index_lines.proofs.KnownLemmas.{again_required}
use Rattle.index_lines.proofs.required.part_required.Goals as goal

pub returns-in-Some : goal.returns-in-Some
returns-in-Some c =
    again_required (part_view c.args.part.now) (part_view c.in-Some.again.part.now) c.in-Some.again.dependency
    (search rules) c.in-Some.again.says
