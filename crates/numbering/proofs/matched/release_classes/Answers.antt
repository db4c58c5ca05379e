use Rattle.std.proofs.Common.{◌∙◌, ap, map, sym}
use Rattle.std.specs.List.{list_all}
use Rattle.semver.specs.Identifiers.{parts_of}
use Rattle.classes.specs.Groups.{each_once}
use Rattle.model.specs.Selection.{class_of}
use Rattle.lookups.specs.inner.Matching.{is_release}
use Rattle.lookups.proofs.Classed.{versions_are}
use Rattle.lookups.proofs.Versions.{all-map}
use Rattle.numbering.proofs.matched.release_classes.Goals as goal

pub returns : goal.returns
returns c =
    let k = c.args.problem.now in
    let are = c.versions-versions.ensures.versions ∙ versions_are k.manifest.now k.catalogue.now c.args.name.now in (
      c.in_ok-all_classes.ensures ∙ ap (λ ps. each_once (map class_of ps)) are,
      ap (list_all is_release) (sym are) ∙ all-map is_release parts_of c.versions-versions.result.now
          ∙ sym c.are_releases.ensures ∙ c.if-not-are_releases.false,
    )
