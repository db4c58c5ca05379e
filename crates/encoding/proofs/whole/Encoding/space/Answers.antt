use Rattle.catalogue.specs.Problems.{problem_in}
use Rattle.encoding.proofs.RowLaws.{space_at}
use Rattle.encoding.proofs.whole.Encoding.space.Goals as goal

pub returns : goal.returns
returns c =
    let e = c.self.inside in
    space_at (problem_in e.manifest.now e.catalogue.now) e.rows.items c.args.self.now c.args.vertex c.index.result.now
    c.self.view_is c.self.invariant c.requires c.index.ensures
