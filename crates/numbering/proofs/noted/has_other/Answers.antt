use Rattle.std.proofs.Common.{◌≡◌, ap, ◌∙◌}
use Rattle.features.specs.Views.{dependency_view}
use Rattle.model.specs.Content.{Problem}
use Rattle.model.specs.Vertices.{owner_brings}
use Rattle.numbering.specs.inner.Called.{numbered_from, numbered_views}
use Rattle.numbering.specs.inner.KnownProblem.{problem}
use Rattle.numbering.specs.inner.OnPackage.{on_package}
use Rattle.vertices.specs.inner.RefViews.{owner_ref_view}
use Rattle.numbering.proofs.NotedLaws.{another}
use Rattle.numbering.proofs.noted.has_other.Goals as goal

pub returns-in-Some : goal.returns-in-Some
returns-in-Some c other =
    let q = problem c.args.known.now in
    let o = owner_ref_view c.args.lead.owner in
    let d = dependency_view c.args.dependency.now in
    let those = c.in-Some.those.now in
    let there : numbered_views those ≡ on_package d.real_name (numbered_from 0 (owner_brings q o).dependencies) =
    c.in-Some.ensures
    ∙ ap (λ (p : Problem). on_package c.as_str.result.now (numbered_from 0 (owner_brings p o).dependencies))
    c.args.known.now.matched_there
    ∙ ap (λ x. on_package x (numbered_from 0 (owner_brings q o).dependencies)) c.as_str.ensures.text in
    c.has_another.ensures
    ∙ another (owner_brings q o).dependencies c.args.lead.number other.0 d.real_name other.1 those there other.2 other.3
