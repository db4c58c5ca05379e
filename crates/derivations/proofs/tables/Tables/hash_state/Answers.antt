use Rattle.std.proofs.Common.{sym, ◌∙◌}
use Rattle.model.proofs.Same.{state-same}
use Rattle.model.specs.Vertices.{absent, same_state}
use Rattle.derivations.proofs.TableLaws.{found-at, grown-states}
use Rattle.derivations.proofs.tables.Tables.hash_state.Goals as goal

pub returns-clause-grown : goal.returns-clause-grown
returns-clause-grown c =
    grown-states same_state c.self.inside.states.keys c.args.state _ _ _ _ c.in_ok-number.ensures.keys c.self.view_is

pub returns-clause-number : goal.returns-clause-number
returns-clause-number c =
    let s = c.in_ok-number.ensures.stored in
    let there = found-at c.insert_full.new.self.keys c.in_ok-number.number s.0 absent s.1 in
    (there.0, there.1 ∙ sym (state-same c.args.state s.0 s.2))
