use Rattle.std.proofs.Common.{ap, subst, ◌∙◌}
use Rattle.terms.specs.Terms.{terms_view}
use Rattle.model.proofs.Accepted.{instance_apart}
use Rattle.model.specs.Causes.{kind_of, terms_of_cause}
use Rattle.model.proofs.CauseLaws.{cause_instance}
use Rattle.lookups.specs.inner.CauseViews.{cause_view}
use Rattle.numbering.specs.inner.KnownProblem.{problem}
use Rattle.numbering.specs.inner.TestedTerms.{AreOfTested, tested_views}
use Rattle.numbering.proofs.Adds.{cause_adds}
use Rattle.numbering.proofs.Putting.{are_numbered, cause_fits}
use Rattle.numbering.proofs.Saying.{one_each}
use Rattle.numbering.proofs.instances.instance.Goals as goal

pub put_all_tested-requires-clause-fit : goal.put_all_tested-requires-clause-fit
put_all_tested-requires-clause-fit g c =
    let held = c.args.known.now.problem in
    cause_fits held.manifest.now held.catalogue.now (cause_view c.args.cause.now) (tested_views c.as_slice.result.now)
    c.names.ensures.store c.catalogues_are_well_formed.ensures c.requires.there
    (ap tested_views c.as_slice.ensures.value ∙ c.in_ok-tested_terms.ensures)

pub made_of-requires : goal.made_of-requires
made_of-requires g c =
    let q = problem c.args.known.now in
    let ts = terms_of_cause q (cause_view c.args.cause.now) in
    let are = are_numbered q c.put_all_tested.new.table (terms_view g.S.States.tests c.in_ok-terms.terms.items) ts
    (subst (AreOfTested c.put_all_tested.new.table (terms_view g.S.States.tests c.in_ok-terms.terms.items))
    (ap tested_views c.as_slice.ensures.value ∙ c.in_ok-tested_terms.ensures) c.in_ok-terms.ensures.terms) in
    one_each q c.put_all_tested.new.table c.put_all_tested.ensures.numbering.once
    (terms_view g.S.States.tests c.in_ok-terms.terms.items) ts are
    (instance_apart q (kind_of (cause_view c.args.cause.now)) ts
    (cause_instance q (cause_view c.args.cause.now) c.requires.there))

pub returns-clause-says : goal.returns-clause-says
returns-clause-says g c =
    let q = problem c.args.known.now in
    let ts = terms_of_cause q (cause_view c.args.cause.now) in
    let are = are_numbered q c.put_all_tested.new.table (terms_view g.S.States.tests c.in_ok-terms.terms.items) ts
    (subst (AreOfTested c.put_all_tested.new.table (terms_view g.S.States.tests c.in_ok-terms.terms.items))
    (ap tested_views c.as_slice.ensures.value ∙ c.in_ok-tested_terms.ensures) c.in_ok-terms.ensures.terms) in
    c.made_of.ensures.says q c.put_all_tested.new.table ts c.put_all_tested.ensures.numbering are

pub returns-in_err-terms-clause-only : goal.returns-in_err-terms-clause-only
returns-in_err-terms-clause-only g c =
    cause_adds (problem c.args.known.now) (cause_view c.args.cause.now)
    (tested_views c.as_slice.result.now) c.args.table.now c.put_all_tested.new.table
    (ap tested_views c.as_slice.ensures.value ∙ c.in_ok-tested_terms.ensures) c.put_all_tested.ensures.only

pub returns-clause-only : goal.returns-clause-only
returns-clause-only g c =
    cause_adds (problem c.args.known.now) (cause_view c.args.cause.now)
    (tested_views c.as_slice.result.now) c.args.table.now c.put_all_tested.new.table
    (ap tested_views c.as_slice.ensures.value ∙ c.in_ok-tested_terms.ensures) c.put_all_tested.ensures.only
