use Rattle.std.proofs.Common.{◌≡◌, sym, subst, true}
use Rattle.std.specs.List.{list_all}
use Rattle.std.proofs.lemmas.Bool.{OnTrue_at}
use Rattle.classes.specs.Classes.{class_view}
use Rattle.lookups.specs.inner.Matching.{is_release}
use Rattle.numbering.specs.inner.Matched.{name_versions}
use Rattle.numbering.proofs.Releases.{class_releases}
use Rattle.numbering.proofs.tested_terms.are_releases_in.Goals as goal

pub returns-then-has_releases_alone : goal.returns-then-has_releases_alone
returns-then-has_releases_alone c =
    let k = c.args.known.now in
    sym (class_releases k.problem.manifest.now k.problem.catalogue.now c.args.name.now (class_view c.args.class)
    c.args.versions.now c.requires
    (subst (λ q. list_all is_release (name_versions q c.args.name.now) ≡ true) k.matched_there
    (OnTrue_at c.if-has_releases_alone.true c.has_releases_alone.ensures)))
