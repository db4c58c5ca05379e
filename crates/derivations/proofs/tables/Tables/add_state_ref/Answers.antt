use Rattle.model.specs.Vertices.{absent}
use Rattle.vertices.specs.inner.RefViews.{state_ref_view}
use Rattle.derivations.proofs.TableLaws.{grown-refl, found-at}
use Rattle.derivations.proofs.tables.Tables.add_state_ref.Goals as goal

pub returns-then-has_at-clause-number : goal.returns-then-has_at-clause-number
returns-then-has_at-clause-number c = found-at c.args.self.now.states c.args.guess (state_ref_view c.args.state) absent
    (c.has_at.ensures c.if-has_at.true)

pub returns-then-has_at-clause-grown : goal.returns-then-has_at-clause-grown
returns-then-has_at-clause-grown c = grown-refl c.args.self.now
