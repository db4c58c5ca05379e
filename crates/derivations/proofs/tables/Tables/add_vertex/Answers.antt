use Rattle.std.proofs.Common.{sym, ◌∙◌}
use Rattle.model.proofs.Same.{vertex-same}
use Rattle.model.specs.Vertices.{root, same_vertex}
use Rattle.derivations.proofs.TableLaws.{found-at, grown-vertices}
use Rattle.derivations.proofs.tables.Tables.add_vertex.Goals as goal

pub returns-clause-grown : goal.returns-clause-grown
returns-clause-grown c = grown-vertices same_vertex c.self.inside.vertices.keys c.args.vertex _ _ _ _
    c.in_ok-number.ensures.keys c.self.view_is

pub returns-clause-number : goal.returns-clause-number
returns-clause-number c =
    let s = c.in_ok-number.ensures.stored in
    let there = found-at c.insert_full.new.self.keys c.in_ok-number.number s.0 root s.1 in
    (there.0, there.1 ∙ sym (vertex-same c.args.vertex s.0 s.2))
