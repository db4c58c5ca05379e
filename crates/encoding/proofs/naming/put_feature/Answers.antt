use Rattle.std.proofs.Common.{◌∙◌, ◌++◌, List, ap}
use Rattle.std.specs.List.{flat_map}
use Rattle.std.proofs.lemmas.List.{append_assoc}
use Rattle.std.proofs.lemmas.Result.{on_ok_weaker}
use Rattle.semver.specs.Identifiers.{parts_of}
use Rattle.features.specs.EntryViews.{entry_views}
use Rattle.features.specs.Views.{dependency_views, summary_view}
use Rattle.model.specs.Summary.{Entry, entries_at}
use Rattle.model.specs.Causes.{entries_or_none}
use Rattle.numbering.specs.inner.KnownProblem.{problem}
use Rattle.encoding.specs.inner.Everything.{feature_of, of_entry}
use Rattle.encoding.specs.Views.{vertex_views}
use Rattle.encoding.proofs.Steps.{entries_are}
use Rattle.encoding.proofs.naming.put_feature.Goals as goal

pub returns : goal.returns
returns c =
    let q = problem c.args.known.now in
    let name = c.args.release.name.now in
    let v = parts_of c.args.release.version.now in
    let s = summary_view c.args.brings.now in
    let f = c.args.feature.now in
    let vs = vertex_views c.args.vertices.now.items in
    let of : List Entry → List Rattle.model.specs.Vertices.Vertex =
    λ es. flat_map (of_entry q name v s.dependencies) es in
    on_ok_weaker c.put_entries.result
    (λ e. e
    ∙ ap (λ ds. vertex_views c.put_in_each.new.vertices.items
    ++ flat_map (of_entry q name v ds) (entry_views c.entries.result.now))
    (ap dependency_views c.as_slice.ensures.value)
    ∙ ap (λ es. vertex_views c.put_in_each.new.vertices.items ++ of es)
    (c.entries.ensures ∙ entries_are (entries_at f s.features))
    ∙ ap (λ l. l ++ of (entries_or_none (entries_at f s.features))) c.in_ok-put_in_each.ensures
    ∙ append_assoc vs (feature_of q name f) (of (entries_or_none (entries_at f s.features))))
    c.put_entries.ensures
