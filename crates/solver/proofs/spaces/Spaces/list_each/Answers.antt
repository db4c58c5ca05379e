use Rattle.std.proofs.Common.{◌∙◌, All, arith, subst}
use Rattle.std.proofs.lemmas.List.{take_all}
use Rattle.solver.specs.Refusing.{IsListed}
use Rattle.solver.proofs.Listed.{listed_more}
use Rattle.solver.proofs.spaces.Spaces.list_each.Goals as goal

pub terms-preserved : goal.terms-preserved
terms-preserved g c = (
  c.list.ensures.listed,
  c.list.ensures.spelt,
  c.list.ensures.steps ∙ c.terms.invariant.2,
  λ n h. c.list.ensures.kept n (c.terms.invariant.3 n h),
  listed_more c.args.table.now c.terms.self c.list.new.self c.list.ensures.kept c.args.terms.now c.terms.term-index
      c.term-item.result c.terms-test.true c.term-item.is c.terms.invariant.4 c.in_ok-list.ensures.there,
)

pub returns-clause-there : goal.returns-clause-there
returns-clause-there g c = subst (All (λ t. IsListed c.args.table.now c.terms.self t.vertex))
    (take_all c.terms.term-index c.args.terms.now (omega (arith, c.terms-test.false))) c.terms.invariant.4
