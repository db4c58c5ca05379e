use Rattle.std.proofs.Common.{◌∙◌, ap, map, sym}
use Rattle.std.specs.List.{list_all}
use Rattle.std.proofs.lemmas.Option.{IfSome_then}
use Rattle.semver.specs.Identifiers.{parts_of}
use Rattle.classes.specs.Groups.{each_once}
use Rattle.features.specs.Views.{dependency_view}
use Rattle.model.specs.Selection.{class_of}
use Rattle.lookups.specs.inner.Matching.{is_release}
use Rattle.lookups.proofs.Classed.{versions_are}
use Rattle.lookups.proofs.Versions.{all-map}
use Rattle.numbering.proofs.Grouped.{classes_are}
use Rattle.numbering.proofs.matched.range_among.Goals as goal

pub class_range-requires-clause-releases : goal.class_range-requires-clause-releases
class_range-requires-clause-releases c =
    let k = c.args.problem.now in
    sym (all-map is_release parts_of c.versions-versions.result.now)
    ∙ ap (list_all is_release) (c.versions-versions.ensures.versions
    ∙ versions_are k.manifest.now k.catalogue.now (dependency_view c.args.dependency.now).real_name)
    ∙ c.requires.1

pub class_range-requires-clause-classes : goal.class_range-requires-clause-classes
class_range-requires-clause-classes c =
    let k = c.args.problem.now in
    c.requires.0 ∙ ap (λ ps. each_once (map class_of ps)) (sym (c.versions-versions.ensures.versions
    ∙ versions_are k.manifest.now k.catalogue.now (dependency_view c.args.dependency.now).real_name))

pub returns : goal.returns
returns c =
    let k = c.args.problem.now in
    let d = dependency_view c.args.dependency.now in
    IfSome_then c.class_range.result (rw c.deref-requirement.ensures at c.class_range.ensures)
    (λ r told. told.1.1 ∙ classes_are k.manifest.now k.catalogue.now d c.versions-versions.result.now
    c.catalogues_are_well_formed.ensures c.versions-versions.ensures.versions)
