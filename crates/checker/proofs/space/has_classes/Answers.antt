use Rattle.std.proofs.Common.{◌∙◌, ◌++◌}
use Rattle.checker.proofs.space.has_classes.Goals as goal

pub returns-in-Some : goal.returns-in-Some
returns-in-Some c = c.has_each.ensures ∙ c.in-Some.ensures (c.args.a.now ++ c.args.b.now)
