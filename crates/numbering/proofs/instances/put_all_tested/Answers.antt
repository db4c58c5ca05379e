use Rattle.std.proofs.Common.{◌≤◌, length, arith, refl, sym, subst}
use Rattle.terms.specs.Terms.{terms_view}
use Rattle.numbering.specs.inner.KnownProblem.{problem}
use Rattle.numbering.specs.inner.TestedTerms.{AreOfTested, IsFitting}
use Rattle.numbering.proofs.Adds.{tested_adds}
use Rattle.numbering.proofs.Needing.{grows_on}
use Rattle.numbering.proofs.Putting.{fit_at, tested_next, tested_whole}
use Rattle.numbering.proofs.instances.put_all_tested.Goals as goal

pub put_tested-requires-clause-fit : goal.put_tested-requires-clause-fit
put_tested-requires-clause-fit g c =
    fit_at (IsFitting (problem c.args.known.now)) c.args.tested_terms.now c.tested_terms.tested_term-index
    c.tested_term-item.result c.requires.fit
    c.tested_terms-test.true c.tested_term-item.is

pub returns-in_err-put_tested-clause-grown : goal.returns-in_err-put_tested-clause-grown
returns-in_err-put_tested-clause-grown g c =
    grows_on c.args.table.now c.tested_terms.table c.put_tested.new.table c.tested_terms.invariant.grown
    c.put_tested.ensures.grown

pub returns-in_err-put_tested-clause-only : goal.returns-in_err-put_tested-clause-only
returns-in_err-put_tested-clause-only g c =
    tested_adds c.args.tested_terms.now c.tested_terms.tested_term-index c.tested_term-item.result c.args.table.now
    c.tested_terms.table c.put_tested.new.table
    c.tested_terms-test.true c.tested_term-item.is c.tested_terms.invariant.only c.put_tested.ensures.only

pub tested_terms-preserved : goal.tested_terms-preserved
tested_terms-preserved g c =
    let next = tested_next c.args.tested_terms.now c.tested_terms.tested_term-index c.tested_term-item.result
    c.tested_terms-test.true c.tested_term-item.is in
    record {
      same = refl;
      grown =
          grows_on c.args.table.now c.tested_terms.table c.put_tested.new.table c.tested_terms.invariant.grown
          c.put_tested.ensures.grown;
      numbering = c.put_tested.ensures.numbering;
      only = tested_adds c.args.tested_terms.now c.tested_terms.tested_term-index c.tested_term-item.result
          c.args.table.now c.tested_terms.table
          c.put_tested.new.table c.tested_terms-test.true c.tested_term-item.is c.tested_terms.invariant.only
          c.put_tested.ensures.only;
      are = subst
          (AreOfTested c.put_tested.new.table (terms_view g.S.States.tests c.put_tested.new.terms.items)) (sym next)
          (c.in_ok-put_tested.ensures.terms _ c.tested_terms.invariant.are);
    }

pub returns-clause-terms : goal.returns-clause-terms
returns-clause-terms g c =
    let all : length c.args.tested_terms.now ≤ c.tested_terms.tested_term-index =
    omega (arith, c.tested_terms-test.false) in
    subst (AreOfTested c.tested_terms.table (terms_view g.S.States.tests c.tested_terms.terms.items))
    (tested_whole c.args.tested_terms.now c.tested_terms.tested_term-index all) c.tested_terms.invariant.are
