use Rattle.std.proofs.Common.{refl, sym, subst}
use Rattle.catalogue.specs.Problems.{problem_in}
use Rattle.model.specs.Selection.{IsRootAt}
use Rattle.model.specs.Order.{IsContent}
use Rattle.selection.specs.inner.Places.{AreFound}
use Rattle.selection.proofs.Composing.{beside}
use Rattle.flaws.specs.inner.Flaws.{AreTold}
use Rattle.flaws.proofs.Telling.{nothing_told}
use Rattle.flaws.proofs.judging.flaws_of.Goals as goal

pub flawed_in-requires : goal.flawed_in-requires
flawed_in-requires c =
    let q = problem_in c.args.manifest.now c.args.catalogue.now in
    let found = subst (AreFound (problem_in c.args.manifest.now c.args.catalogue.now) c.args.content.now)
    c.in-Some.is c.in_ok-found.ensures in
    record { content = subst IsContent (sym found.1) found.0; beside = beside q c.in-Some.findings found.2 }

pub returns-in_ok-flawed-in-Some-clause-told : goal.returns-in_ok-flawed-in-Some-clause-told
returns-in_ok-flawed-in-Some-clause-told c =
    let found = subst (AreFound (problem_in c.args.manifest.now c.args.catalogue.now) c.args.content.now)
    c.in-Some.is c.in_ok-found.ensures in
    subst (λ content. AreTold c.args.manifest.now c.args.catalogue.now content c.in_ok-flawed-in-Some.flawed.items)
    found.1 (c.in_ok-flawed-in-Some.ensures c.args.manifest.now found.2)

pub returns-in_ok-flawed-in-Some-clause-valid : goal.returns-in_ok-flawed-in-Some-clause-valid
returns-in_ok-flawed-in-Some-clause-valid c =
    let found = subst (AreFound (problem_in c.args.manifest.now c.args.catalogue.now) c.args.content.now)
    c.in-Some.is c.in_ok-found.ensures in
    nothing_told c.args.manifest.now c.args.catalogue.now c.args.content.now found.0 (
      c.in-Some.findings.root,
      subst (λ content. IsRootAt (problem_in c.args.manifest.now c.args.catalogue.now) content
          c.in-Some.findings.root) found.1 ((found.2.only_root c.in-Some.findings.root).1 refl),
    )
    c.in_ok-flawed-in-Some.flawed.items (returns-in_ok-flawed-in-Some-clause-told c)

pub returns-in-None-clause-told : goal.returns-in-None-clause-told
returns-in-None-clause-told c =
    (subst (AreFound (problem_in c.args.manifest.now c.args.catalogue.now) c.args.content.now)
    c.in-None.is c.in_ok-found.ensures).1

pub returns-in-None-clause-valid : goal.returns-in-None-clause-valid
returns-in-None-clause-valid c = λ v. returns-in-None-clause-told c v.root.0 v.root.1
