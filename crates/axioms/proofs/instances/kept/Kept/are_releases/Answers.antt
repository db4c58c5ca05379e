use Rattle.std.proofs.Common.{◌∙◌, sym}
use Rattle.classes.specs.Classes.{class_view}
use Rattle.lookups.specs.inner.Matching.{is_release}
use Rattle.lookups.proofs.Classed.{all_classed}
use Rattle.axioms.specs.inner.Keeping.{NameClass}
use Rattle.axioms.specs.inner.KeptViews.{problem_of}
use Rattle.axioms.proofs.Keeping.{put_releases}
use Rattle.axioms.proofs.instances.kept.Kept.are_releases.Goals as goal

pub returns-in-Some-clause-releases : goal.returns-in-Some-clause-releases
returns-in-Some-clause-releases c e =
    let place : NameClass = (c.args.name, c.args.class) in
    sym (c.args.self.now.are_releases place c.in-Some.are.now (sym c.in-Some.ensures.value)) ∙ e

pub invariant_of-self-clause-are_releases : goal.invariant_of-self-clause-are_releases
invariant_of-self-clause-are_releases c =
    let place : NameClass = (c.args.name, c.args.class) in
    let p = c.args.self.now.problem in
    put_releases (problem_of c.args.self.now) c.args.self.now.releases c.insert.new.self place c.are_releases-are.result
    c.insert.result c.insert.ensures.updates c.insert.ensures.err c.args.self.now.are_releases
    (c.are_releases-are.ensures ∙ all_classed p.manifest.now p.catalogue.now c.args.name.now (class_view c.args.class)
    c.class_versions-versions.result.now c.class_versions-versions.ensures.versions is_release)

pub returns-clause-releases : goal.returns-clause-releases
returns-clause-releases c e =
    let p = c.args.self.now.problem in
    sym (c.are_releases-are.ensures ∙ all_classed p.manifest.now p.catalogue.now c.args.name.now
    (class_view c.args.class) c.class_versions-versions.result.now
    c.class_versions-versions.ensures.versions is_release)
    ∙ e
