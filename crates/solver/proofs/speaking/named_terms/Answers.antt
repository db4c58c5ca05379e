use Rattle.std.proofs.Common.{arith, ap}
use Rattle.model.specs.Axioms.{at}
use Rattle.vertices.specs.inner.RefViews.{state_ref_views}
use Rattle.solver.proofs.Sized.{all_refs, refs_more}
use Rattle.solver.proofs.speaking.named_terms.Goals as goal

pub terms-preserved : goal.terms-preserved
terms-preserved c =
    refs_more c.args.terms.now c.terms.term-index c.term-item.result c.terms.refs.items c.push.new.self.items
    (record { vertex = c.term-item.result.vertex; states = c.as_slice-states.result })
    c.terms-test.true c.term-item.is
    c.terms.invariant (ap (λ ss. at c.term-item.result.vertex.now (state_ref_views ss)) c.as_slice-states.ensures.value)
    c.in_ok-push.ensures.items

pub returns : goal.returns
returns c = all_refs c.args.terms.now c.terms.term-index c.terms.refs.items
    (omega (arith, c.terms-test.false)) c.terms.invariant
