use Rattle.std.proofs.Common.{Some, ap, ◌∙◌}
use Rattle.model.specs.Vertices.{absent}
use Rattle.vertices.specs.Views.{state_view}
use Rattle.derivations.proofs.TableLaws.{grown-refl, found-at}
use Rattle.derivations.proofs.tables.Tables.add_state.Goals as goal

pub returns-then-has_at-clause-number : goal.returns-then-has_at-clause-number
returns-then-has_at-clause-number c = found-at c.args.self.now.states c.args.guess (state_view c.args.state) absent
    (c.has_at.ensures c.if-has_at.true ∙ ap Some c.borrowed.ensures)

pub returns-then-has_at-clause-grown : goal.returns-then-has_at-clause-grown
returns-then-has_at-clause-grown c = grown-refl c.args.self.now
