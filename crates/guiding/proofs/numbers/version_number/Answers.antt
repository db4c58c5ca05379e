use Rattle.std.proofs.Common.{arith}
use Rattle.semver.specs.Identifiers.{parts_of}
use Rattle.classes.specs.Classes.{class_view}
use Rattle.guiding.proofs.Classed.{few_places, is_number, not_missing}
use Rattle.guiding.proofs.numbers.version_number.Goals as goal

pub returns-in_err-place : goal.returns-in_err-place
returns-in_err-place c =
    let held = c.args.known.now.problem in
    λ state. absurd (not_missing (class_view c.args.class) c.versions-versions.result.now c.below.result
    c.versions-versions.ensures.rising c.below.ensures.place
    held.manifest.now held.catalogue.now c.args.name.now c.versions-versions.ensures.versions
    (parts_of c.args.version.now) state c.in_err-place.ensures)

pub overflow_cast-result : goal.overflow_cast-result
overflow_cast-result c =
    let few = few_places c.versions-versions.result.now c.below.result c.in_ok-place.place
    (parts_of c.args.version.now) c.versions-versions.ensures.few c.in_ok-place.ensures in
    omega (arith, few)

pub overflow_add-result : goal.overflow_add-result
overflow_add-result c =
    let few = few_places c.versions-versions.result.now c.below.result c.in_ok-place.place
    (parts_of c.args.version.now) c.versions-versions.ensures.few c.in_ok-place.ensures in
    omega (arith, few)

pub returns : goal.returns
returns c =
    let held = c.args.known.now.problem in
    λ state. is_number (class_view c.args.class) c.versions-versions.result.now c.below.result
    c.versions-versions.ensures.rising c.below.ensures.place
    held.manifest.now held.catalogue.now c.args.name.now c.versions-versions.ensures.versions
    (parts_of c.args.version.now) state c.in_ok-place.place c.in_ok-place.ensures
