use Rattle.terms.specs.Terms.{terms_view}
use Rattle.incompatibilities.proofs.Merges.{merging_more}
use Rattle.incompatibilities.proofs.combining.merge.Goals as goal

pub firsts-preserved : goal.firsts-preserved
firsts-preserved g c =
    merging_more g.S.States.tests c.args.at c.args.first.now c.firsts.term-index c.term-item.result
    (terms_view g.S.States.tests c.args.second.now)
    (terms_view g.S.States.tests c.firsts.made.items) (terms_view g.S.States.tests c.firsts.rest.now)
    (terms_view g.S.States.tests c.push_up_to.new.made.items) (terms_view g.S.States.tests c.in_ok-rest.rest.now)
    c.firsts-test.true c.term-item.is c.firsts.invariant c.in_ok-rest.ensures.made c.in_ok-rest.ensures.rest
