use Rattle.std.proofs.Common.{rules, ◌≡◌, ◌++◌, ◌∷◌, List, ℕ, Vec, sym, ap, ◌∙◌}
use Rattle.std.specs.List.{flat_map}
use Rattle.std.specs.declared.alloc.Global.{Global}
use Rattle.semver.specs.Identifiers.{parts_of}
use Rattle.features.specs.inner.Tables.{rows_of}
use Rattle.features.specs.EntryViews.{entry_views}
use Rattle.features.specs.Views.{summary_view}
use Rattle.features.specs.declared.entry.Entry.{Entry}
use Rattle.model.specs.Summary as model
use Rattle.model.specs.Vertices.{Vertex}
use Rattle.numbering.specs.inner.KnownProblem.{problem}
use Rattle.encoding.specs.inner.Everything.{of_feature}
use Rattle.encoding.specs.Views.{vertex_views}
use Rattle.encoding.proofs.Steps.{rest_more}
use Rattle.encoding.proofs.naming.put_table.Goals as goal

pub rows-preserved : goal.rows-preserved
rows-preserved c =
    let row : List ℕ × Vec Entry Global = (c.in-Some.feature.now, c.in-Some.field-0-1.now) in
    let rest : List (List ℕ × Vec Entry Global) = c.next.new.self in
    let steps : c.rows.feature-iterator ≡ row ∷ rest = search rules in
    let f : List ℕ × List model.Entry → List Vertex =
    λ r. of_feature (problem c.args.known.now) c.args.release.name.now (parts_of c.args.release.version.now)
    (summary_view c.args.brings.now) r.0 in
    let first : List ℕ × List model.Entry = (row.0, entry_views row.1.items) in
    let vs = vertex_views c.rows.vertices.items in
    record {
      can = tt;
      finite = tt;
      told = rest_more f vs (vertex_views c.put_feature.new.vertices.items)
          (vertex_views c.args.vertices.now.items ++ flat_map f c.args.brings.now.features) first (rows_of rest)
          (ap (λ es. vs ++ flat_map f (rows_of es)) (sym steps) ∙ c.rows.invariant.told) c.in_ok-put_feature.ensures;
    }
