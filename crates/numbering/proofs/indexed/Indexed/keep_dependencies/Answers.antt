use Rattle.std.proofs.Common.{◌∙◌}
use Rattle.numbering.specs.inner.IndexedViews.{problem_indexed}
use Rattle.numbering.proofs.Keeping.{put_brought}
use Rattle.numbering.proofs.indexed.Indexed.keep_dependencies.Goals as goal

pub invariant_of-self-clause-are_asked : goal.invariant_of-self-clause-are_asked
invariant_of-self-clause-are_asked c = c.args.self.now.are_asked

pub invariant_of-self-clause-are_brought : goal.invariant_of-self-clause-are_brought
invariant_of-self-clause-are_brought c =
    put_brought (problem_indexed c.args.self.now) c.args.self.now.owners c.insert.new.self c.args.owner
    c.in_ok-brought.brought c.insert.result c.insert.ensures.updates c.insert.ensures.err
    c.args.self.now.are_brought (c.in_ok-brought.ensures ∙ c.dependencies_of-dependencies.ensures)
