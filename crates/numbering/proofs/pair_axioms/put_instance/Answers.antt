use Rattle.lookups.specs.inner.CauseViews.{cause_view}
use Rattle.numbering.specs.inner.KnownProblem.{problem}
use Rattle.numbering.proofs.AddLaws.{given_put}
use Rattle.numbering.proofs.pair_axioms.put_instance.Goals as goal

pub returns-clause-given : goal.returns-clause-given
returns-clause-given g c = λ cs are.
    given_put g.S.States.tests (problem c.args.known.now) c.args.table.now c.instance.new.table cs
    (cause_view c.args.cause.now) c.args.given.now.items c.push.new.self.items c.kind.result c.in_ok-made.made
    c.instance.ensures.numbering c.instance.ensures.grown c.in_ok-push.ensures.items c.kind.ensures
    c.in_ok-made.ensures.says are
