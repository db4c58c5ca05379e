use Rattle.std.proofs.Common.{sym, subst}
use Rattle.catalogue.specs.Problems.{problem_in}
use Rattle.model.specs.Order.{IsContent}
use Rattle.selection.specs.inner.Places.{AreFound}
use Rattle.selection.proofs.Composing.{beside, said_of, rootless_said, selected}
use Rattle.selection.proofs.verifying.verify.Goals as goal

pub verdict_by-requires : goal.verdict_by-requires
verdict_by-requires c =
    let found = subst (AreFound (problem_in c.args.manifest.now c.args.catalogue.now) c.args.content.now)
    c.in-Some.is c.in_ok-found.ensures in
    record {
      content = subst IsContent (sym found.1) found.0;
      beside = beside (problem_in c.args.manifest.now c.args.catalogue.now) c.in-Some.findings found.2;
    }

pub returns-in-Some-clause-says : goal.returns-in-Some-clause-says
returns-in-Some-clause-says c =
    let found = subst (AreFound (problem_in c.args.manifest.now c.args.catalogue.now) c.args.content.now)
    c.in-Some.is c.in_ok-found.ensures in
    said_of c.verdict_by.result (problem_in c.args.manifest.now c.args.catalogue.now) c.in-Some.findings
    c.args.content.now found.1 found.2 c.verdict_by.ensures

pub returns-in-Some-clause-selects : goal.returns-in-Some-clause-selects
returns-in-Some-clause-selects c =
    let found = subst (AreFound (problem_in c.args.manifest.now c.args.catalogue.now) c.args.content.now)
    c.in-Some.is c.in_ok-found.ensures in
    selected (problem_in c.args.manifest.now c.args.catalogue.now) c.args.content.now found.0 c.verdict_by.result
    (returns-in-Some-clause-says c)

pub returns-in-None-clause-says : goal.returns-in-None-clause-says
returns-in-None-clause-says c =
    let found = subst (AreFound (problem_in c.args.manifest.now c.args.catalogue.now) c.args.content.now)
    c.in-None.is c.in_ok-found.ensures in
    rootless_said (problem_in c.args.manifest.now c.args.catalogue.now) c.args.content.now c.invalid.result _ _
    c.name.ensures c.version.ensures.parts found.1 c.invalid.ensures

pub returns-in-None-clause-selects : goal.returns-in-None-clause-selects
returns-in-None-clause-selects c =
    let found = subst (AreFound (problem_in c.args.manifest.now c.args.catalogue.now) c.args.content.now)
    c.in-None.is c.in_ok-found.ensures in
    selected (problem_in c.args.manifest.now c.args.catalogue.now) c.args.content.now found.0 c.invalid.result
    (returns-in-None-clause-says c)
