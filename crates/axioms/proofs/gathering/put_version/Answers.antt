use Rattle.std.proofs.Common.{◌∙◌, ap, sym, option_map}
use Rattle.std.specs.Borrow.{Bor}
use Rattle.semver.specs.Identifiers.{parts_of}
use Rattle.catalogue.specs.Stores.{said_by}
use Rattle.catalogue.specs.declared.candidate.Candidate.{Candidate}
use Rattle.axioms.specs.inner.Gathered.{is_asked_by_version}
use Rattle.lookups.proofs.Brought.{is_brought, none_brought}
use Rattle.axioms.proofs.GatherLemmas.{adds_none, adds_ok, nothing_asks}
use Rattle.axioms.proofs.gathering.put_version.Goals as goal

pub returns-in-Some : goal.returns-in-Some
returns-in-Some c =
    adds_ok c.put_owner.result c.args.known.now c.put_owner.new.known _ _
    (λ n f. ap (λ o. is_asked_by_version o n f)
    (is_brought c.args.catalogue.now c.args.name.now (parts_of c.args.version.now) (said_by c.in-Some.candidate.now)
    (sym (ap (option_map (λ (x : Bor Candidate). said_by x.now)) c.in-Some.is) ∙ c.candidate.ensures)))
    c.put_owner.ensures

pub returns-in-None : goal.returns-in-None
returns-in-None c =
    adds_none c.args.known.now _ (λ n f. nothing_asks n f ∙ ap (λ o. is_asked_by_version o n f)
    (none_brought c.args.catalogue.now c.args.name.now (parts_of c.args.version.now)
    (sym (ap (option_map (λ (x : Bor Candidate). said_by x.now)) c.in-None.is) ∙ c.candidate.ensures)))
