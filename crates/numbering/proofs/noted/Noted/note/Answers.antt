use Rattle.std.proofs.Common.{sym, ap, subst}
use Rattle.std.proofs.lemmas.Result.{IfOk-weaker, on_ok_weaker}
use Rattle.model.specs.Vertices.{Vertex, dep}
use Rattle.numbering.specs.inner.AskedFor.{AreBeside, IsNoted, noted_views}
use Rattle.numbering.specs.inner.KnownProblem.{problem}
use Rattle.vertices.specs.inner.RefViews.{owner_ref_view, state_ref_view, vertex_ref_view}
use Rattle.numbering.proofs.noted.Noted.note.Goals as goal

pub returns-in-Dependency-clause-noted : goal.returns-in-Dependency-clause-noted
returns-in-Dependency-clause-noted c =
    let q = problem c.args.known.now in
    let s = state_ref_view c.args.state in
    on_ok_weaker c.note_dependency.result
    (λ noted. subst (λ (v : Vertex). IsNoted q c.note_dependency.new.self (v, s))
    (sym (ap vertex_ref_view c.in-Dependency.is)) noted) c.note_dependency.ensures.noted

pub returns-in-Dependency-clause-beside : goal.returns-in-Dependency-clause-beside
returns-in-Dependency-clause-beside c =
    let q = problem c.args.known.now in
    let ns = c.args.self.now in
    let s = state_ref_view c.args.state in
    IfOk-weaker c.note_dependency.result
    (λ v. AreBeside q ns (dep (owner_ref_view c.in-Dependency.owner) c.in-Dependency.number, s) (noted_views v.items))
    (λ v. AreBeside q ns (vertex_ref_view c.args.vertex, s) (noted_views v.items))
    (λ v are. subst (λ (w : Vertex). AreBeside q ns (w, s) (noted_views v.items))
    (sym (ap vertex_ref_view c.in-Dependency.is)) are) c.note_dependency.ensures.beside
