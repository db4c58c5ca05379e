use Rattle.std.proofs.Common.{◌≡◌, ◌≤◌, length, arith, refl, sym, true, subst}
use Rattle.model.specs.Causes.{Cause, is_cause}
use Rattle.numbering.specs.GivenViews.{given_views}
use Rattle.numbering.specs.inner.KnownProblem.{problem}
use Rattle.numbering.specs.Pairs.{AreGiven}
use Rattle.numbering.proofs.Adds.{causes_add}
use Rattle.numbering.proofs.Needing.{grows_on}
use Rattle.numbering.proofs.AddLaws.{cause_there, causes_next, causes_whole}
use Rattle.numbering.proofs.pair_axioms.instances.Goals as goal

pub put_instance-requires-clause-there : goal.put_instance-requires-clause-there
put_instance-requires-clause-there g c =
    cause_there (λ (x : Cause). is_cause (problem c.args.known.now) x ≡ true) c.args.causes.now c.causes.cause-index
    c.cause-item.result c.requires.there c.causes-test.true c.cause-item.is

pub returns-in_err-put_instance-clause-grown : goal.returns-in_err-put_instance-clause-grown
returns-in_err-put_instance-clause-grown g c = grows_on c.args.table.now c.causes.table c.put_instance.new.table
    c.causes.invariant.grown c.put_instance.ensures.grown

pub returns-in_err-put_instance-clause-only : goal.returns-in_err-put_instance-clause-only
returns-in_err-put_instance-clause-only g c =
    causes_add (problem c.args.known.now) c.args.causes.now c.causes.cause-index c.cause-item.result c.args.table.now
    c.causes.table c.put_instance.new.table c.causes-test.true c.cause-item.is c.causes.invariant.only
    c.put_instance.ensures.only

pub causes-preserved : goal.causes-preserved
causes-preserved g c =
    let next =
    causes_next c.args.causes.now c.causes.cause-index c.cause-item.result c.causes-test.true c.cause-item.is in
    record {
      same = refl;
      grown = grows_on c.args.table.now c.causes.table c.put_instance.new.table c.causes.invariant.grown
          c.put_instance.ensures.grown;
      numbering = c.put_instance.ensures.numbering;
      only = causes_add (problem c.args.known.now) c.args.causes.now c.causes.cause-index c.cause-item.result
          c.args.table.now c.causes.table c.put_instance.new.table c.causes-test.true c.cause-item.is
          c.causes.invariant.only c.put_instance.ensures.only;
      are = subst (λ cs. AreGiven (problem c.args.known.now) c.put_instance.new.table cs
          (given_views g.S.States.tests c.put_instance.new.given.items)) (sym next)
          (c.in_ok-put_instance.ensures.given _ c.causes.invariant.are);
    }

pub returns-clause-given : goal.returns-clause-given
returns-clause-given g c =
    let all : length c.args.causes.now ≤ c.causes.cause-index = omega (arith, c.causes-test.false) in
    subst (λ cs.
    AreGiven (problem c.args.known.now) c.causes.table cs (given_views g.S.States.tests c.causes.given.items))
    (causes_whole c.args.causes.now c.causes.cause-index all) c.causes.invariant.are
