use Rattle.std.proofs.Common.{◌∙◌, ◌++◌, ap}
use Rattle.std.proofs.lemmas.List.{append_assoc}
use Rattle.std.proofs.lemmas.Result.{on_ok_weaker}
use Rattle.semver.specs.Identifiers.{parts_of}
use Rattle.features.specs.Views.{dependency_views, summary_view}
use Rattle.model.specs.Vertices.{version_of}
use Rattle.numbering.specs.inner.KnownProblem.{problem}
use Rattle.encoding.specs.inner.Everything.{of_dependency, of_table}
use Rattle.numbering.specs.inner.CausesAt.{each_from}
use Rattle.encoding.specs.Views.{vertex_views}
use Rattle.encoding.proofs.naming.put_brought.Goals as goal

pub returns : goal.returns
returns c =
    let q = problem c.args.known.now in
    let name = c.args.release.name.now in
    let v = parts_of c.args.release.version.now in
    let s = summary_view c.args.brings.now in
    let vs = vertex_views c.args.vertices.now.items in
    on_ok_weaker c.put_table.result
    (λ e. e ∙ ap (λ l. l ++ of_table q name v s) (c.in_ok-put_dependencies.ensures ∙ ap (λ ds. vs
    ++ each_from (of_dependency q (version_of name v)) 0 (dependency_views ds)) c.as_slice.ensures.value)
    ∙ append_assoc vs (each_from (of_dependency q (version_of name v)) 0 s.dependencies) (of_table q name v s))
    c.put_table.ensures
