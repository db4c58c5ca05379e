use Rattle.std.proofs.Common.{arith}
use Rattle.numbering.specs.inner.KnownProblem.{problem}
use Rattle.solver.specs.Refusing.{IsListed, spoken_views}
use Rattle.solver.proofs.Sized.{all_spoken, at_place, sized_at, spoken_more}
use Rattle.solver.proofs.speaking.spoken_terms.Goals as goal

pub push_spoken-requires-clause-sized : goal.push_spoken-requires-clause-sized
push_spoken-requires-clause-sized g c =
    sized_at g.S.States.tests (problem c.args.known.now) c.args.table.now c.args.terms.now c.terms.term-index
    c.term-item.result c.requires.sized c.terms-test.true c.term-item.is

pub push_spoken-requires-clause-named : goal.push_spoken-requires-clause-named
push_spoken-requires-clause-named g c = at_place (λ t. IsListed c.args.table.now c.args.spaces.now t.vertex)
    c.args.terms.now c.terms.term-index c.term-item.result c.terms-test.true c.term-item.is c.requires.named

pub terms-preserved : goal.terms-preserved
terms-preserved g c =
    spoken_more g.S.States.tests (problem c.args.known.now) c.args.table.now c.args.terms.now c.terms.term-index
    c.term-item.result (spoken_views c.terms.made.items) (spoken_views c.push_spoken.new.made.items)
    c.terms-test.true c.term-item.is c.terms.invariant c.in_ok-push_spoken.ensures

pub returns : goal.returns
returns g c =
    all_spoken g.S.States.tests (problem c.args.known.now) c.args.table.now c.args.terms.now c.terms.term-index
    (spoken_views c.terms.made.items) (omega (arith, c.terms-test.false)) c.terms.invariant
