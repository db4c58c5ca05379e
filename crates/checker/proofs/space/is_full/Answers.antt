use Rattle.std.proofs.Common.{◌≡◌, ◌∙◌, ◌++◌, sym, ap, rules, true}
use Rattle.model.specs.Axioms.{at, is_full}
use Rattle.classes.specs.Classes.{class_view}
use Rattle.features.specs.Views.{dependency_view}
use Rattle.axioms.specs.inner.GatheredViews.{catalogue_of, manifest_of, problem_of}
use Rattle.model.specs.Vertices.{pkg}
use Rattle.model.specs.Causes.{dependency_at}
use Rattle.vertices.specs.inner.RefViews.{owner_ref_view}
use Rattle.vertices.specs.Views.{owner_view, vertex_view}
use Rattle.checker.proofs.SpaceLaws.{classed, classes_all_in}
use Rattle.checker.proofs.space.is_full.Goals as goal

pub returns-in-Package : goal.returns-in-Package
returns-in-Package c =
    let there : c.is_in_either.result ≡ true = search rules in
    let ss = c.args.a.now ++ c.args.b.now in
    let k = c.problem.result.now in
    c.has_versions.ensures
    ∙ classed k.manifest.now k.catalogue.now ss c.in-Package.name (class_view c.in-Package.class)
    c.class_versions.result.now c.class_versions.ensures.versions (sym c.is_in_either.ensures ∙ there)
    ∙ ap (λ q. is_full q (at (pkg c.in-Package.name (class_view c.in-Package.class)) ss)) c.problem.ensures
    ∙ ap (λ v. is_full (problem_of c.args.gathered.now) (at (vertex_view v) ss)) (sym c.in-Package.is)

pub returns-in-Some : goal.returns-in-Some
returns-in-Some c =
    let there : c.is_in_either.result ≡ true = search rules in
    let ss = c.args.a.now ++ c.args.b.now in
    let q = problem_of c.args.gathered.now in
    c.has_classes.ensures
    ∙ classes_all_in (manifest_of c.args.gathered.now) (catalogue_of c.args.gathered.now) ss
    (owner_view c.in-Dependency.owner) c.in-Dependency.number
    (dependency_view c.in-Some.dependency.now) (c.in-Some.ensures
    ∙ ap (λ p. dependency_at p (owner_ref_view c.borrowed.result) c.in-Dependency.number)
    c.problem-in-Dependency.ensures
    ∙ ap (λ o. dependency_at q o c.in-Dependency.number) c.borrowed.ensures) (sym c.is_in_either.ensures ∙ there)
    ∙ ap (λ v. is_full q (at (vertex_view v) ss)) (sym c.in-Dependency.is)
