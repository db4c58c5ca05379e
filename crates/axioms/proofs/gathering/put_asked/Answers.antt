use Rattle.axioms.proofs.GatherLemmas.{adds_ok, versions_asked}
use Rattle.axioms.proofs.gathering.put_asked.Goals as goal

pub returns : goal.returns
returns c =
    adds_ok c.put_versions.result c.args.known.now c.put_versions.new.known _ _
    (versions_asked c.args.catalogue.now c.args.name.now c.versions.result.now c.versions.ensures.versions)
    c.put_versions.ensures
