use Rattle.std.proofs.Common.{rules, ◌≡◌, ◌++◌, ◌∷◌, List, ℕ, Vec, sym, ap, ◌∙◌}
use Rattle.std.specs.List.{flat_map}
use Rattle.std.specs.declared.alloc.Global.{Global}
use Rattle.features.specs.inner.Tables.{rows_of}
use Rattle.features.specs.EntryViews.{entry_views}
use Rattle.features.specs.declared.entry.Entry.{Entry}
use Rattle.features.specs.Views.{dependency_views}
use Rattle.model.specs.Summary as model
use Rattle.model.specs.Vertices.{Vertex}
use Rattle.numbering.specs.inner.KnownProblem.{problem}
use Rattle.encoding.specs.inner.Everything.{asked_for}
use Rattle.encoding.specs.Views.{vertex_views}
use Rattle.encoding.proofs.Steps.{rest_more}
use Rattle.encoding.proofs.naming.put_rows.Goals as goal

pub rows-preserved : goal.rows-preserved
rows-preserved c =
    let row : List ℕ × Vec Entry Global = (c.in-Some.field-0-0.now, c.in-Some.entries.now) in
    let rest : List (List ℕ × Vec Entry Global) = c.next.new.self in
    let steps : c.rows.entries-iterator ≡ row ∷ rest = search rules in
    let g : model.Entry → List Vertex =
    asked_for (problem c.args.known.now) (dependency_views c.args.dependencies.now) in
    let f : List ℕ × List model.Entry → List Vertex = λ r. flat_map g r.1 in
    let first : List ℕ × List model.Entry = (row.0, entry_views row.1.items) in
    let vs = vertex_views c.rows.vertices.items in
    let step : vertex_views c.put_row.new.vertices.items ≡ vs ++ f first
    = c.in_ok-put_row.ensures ∙ ap (λ es. vs ++ flat_map g (entry_views es)) c.as_slice.ensures.value in
    record {
      can = tt;
      finite = tt;
      told = rest_more f vs (vertex_views c.put_row.new.vertices.items)
          (vertex_views c.args.vertices.now.items ++ flat_map f c.args.table.now) first (rows_of rest)
          (ap (λ es. vs ++ flat_map f (rows_of es)) (sym steps) ∙ c.rows.invariant.told) step;
    }
