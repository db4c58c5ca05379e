use Rattle.std.proofs.Common.{refl, sym, ap, ◌∙◌, option_map}
use Rattle.semver.specs.Identifiers.{parts_of}
use Rattle.features.specs.Views.{dependency_view}
use Rattle.classes.specs.Classes.{class_view}
use Rattle.propagation.specs.Trails.{trail_view}
use Rattle.vertices.specs.inner.RefViews.{owner_ref_view}
use Rattle.numbering.specs.inner.KnownProblem.{problem}
use Rattle.model.specs.Vertices.{dep, pkg}
use Rattle.solver.specs.inner.Leads.{class_if, ends, version_if}
use Rattle.solver.proofs.Led.{found, no_class, no_version}
use Rattle.solver.proofs.leading.led_to.Goals as goal

pub returns-in_default : goal.returns-in_default
returns-in_default g c =
    let i = c.args.known.now in
    let index = i.problem.catalogue.now in
    let state = ends i c.args.table.now (trail_view g.S.States.tests c.args.trail.now) in
    let o = owner_ref_view c.args.owner.now in
    no_class (problem i) state index o c.args.number (dependency_view c.args.dependency.now) (sym {b =
    class_if (state (dep o c.args.number))} c.in_ok-class.ensures ∙ ap (option_map class_view) c.in_default.is)

pub returns-in_default-2 : goal.returns-in_default-2
returns-in_default-2 g c =
    let i = c.args.known.now in
    let index = i.problem.catalogue.now in
    let state = ends i c.args.table.now (trail_view g.S.States.tests c.args.trail.now) in
    let o = owner_ref_view c.args.owner.now in
    let d = dependency_view c.args.dependency.now in
    let k = class_view c.in-Some.class in
    no_version (problem i) state index o c.args.number d k (sym {b =
    class_if (state (dep o c.args.number))} c.in_ok-class.ensures ∙ ap (option_map class_view) c.in-Some.is)
    (sym {b = version_if (state (pkg d.real_name k))} c.in_ok-version.ensures
    ∙ ap (option_map (λ v. parts_of v.now)) c.in_default-2.is)

pub returns : goal.returns
returns g c =
    let i = c.args.known.now in
    let index = i.problem.catalogue.now in
    let state = ends i c.args.table.now (trail_view g.S.States.tests c.args.trail.now) in
    let o = owner_ref_view c.args.owner.now in
    let d = dependency_view c.args.dependency.now in
    let k = class_view c.in-Some.class in
    found (problem i) state index o c.args.number d k (parts_of c.in-Some-2.version.now) c.versions.result.now
    c.place_of.result c.requires.unbroken refl c.versions.ensures.versions
    (sym {b = class_if (state (dep o c.args.number))} c.in_ok-class.ensures ∙ ap (option_map class_view) c.in-Some.is)
    (sym {b = version_if (state (pkg d.real_name k))} c.in_ok-version.ensures
    ∙ ap (option_map (λ v. parts_of v.now)) c.in-Some-2.is) c.place_of.ensures
