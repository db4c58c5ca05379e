use Rattle.std.proofs.Common.{◌∙◌, ◌++◌, ◌∷◌, [], List, ap, sym, option_map}
use Rattle.std.specs.Borrow.{Bor}
use Rattle.std.proofs.lemmas.List.{append_assoc, map-append}
use Rattle.std.proofs.lemmas.Result.{on_ok_weaker}
use Rattle.semver.specs.Identifiers.{parts_of}
use Rattle.model.specs.Selection.{Class, class_of}
use Rattle.model.specs.Summary.{Summary}
use Rattle.model.specs.Vertices.{Vertex, pkg, version_of}
use Rattle.catalogue.specs.Stores.{said_by}
use Rattle.catalogue.specs.declared.candidate.Candidate.{Candidate}
use Rattle.numbering.specs.inner.KnownProblem.{problem}
use Rattle.lookups.proofs.Brought.{is_there, not_there}
use Rattle.vertices.specs.inner.RefViews.{vertex_ref_view}
use Rattle.encoding.specs.inner.Everything.{of_dependency, of_table}
use Rattle.numbering.specs.inner.CausesAt.{each_from}
use Rattle.encoding.specs.Views.{vertex_views}
use Rattle.encoding.proofs.naming.put_version.Goals as goal

pub returns-in-Some : goal.returns-in-Some
returns-in-Some c =
    let k = c.args.known.now in
    let q = problem k in
    let name = c.args.release.name.now in
    let v = parts_of c.args.release.version.now in
    let vs = vertex_views c.args.vertices.now.items in
    let brought : Summary → List Vertex =
    λ s. each_from (of_dependency q (version_of name v)) 0 s.dependencies ++ of_table q name v s in
    let s = (said_by c.in-Some.candidate.now).brings in
    on_ok_weaker c.put_brought.result
    (λ e. e
    ∙ ap (λ l. l ++ brought s) (ap vertex_views c.in_ok-push.ensures.items
    ∙ map-append vertex_ref_view c.args.vertices.now.items _ ∙ ap (λ (m : Class). vs ++ pkg name m ∷ []) c.of.ensures)
    ∙ append_assoc vs (pkg name (class_of v) ∷ []) (brought s)
    ∙ ap (λ t. vs ++ (pkg name (class_of v) ∷ brought t))
    (is_there k.problem.catalogue.now k.problem.manifest.now name v (said_by c.in-Some.candidate.now)
    (sym (ap (option_map (λ (x : Bor Candidate). said_by x.now)) c.in-Some.is) ∙ c.candidate.ensures)))
    c.put_brought.ensures

pub returns-in-None : goal.returns-in-None
returns-in-None c =
    let k = c.args.known.now in
    let q = problem k in
    let name = c.args.release.name.now in
    let v = parts_of c.args.release.version.now in
    let vs = vertex_views c.args.vertices.now.items in
    let brought : Summary → List Vertex =
    λ s. each_from (of_dependency q (version_of name v)) 0 s.dependencies ++ of_table q name v s in
    ap vertex_views c.in_ok-push.ensures.items ∙ map-append vertex_ref_view c.args.vertices.now.items _
    ∙ ap (λ (m : Class). vs ++ pkg name m ∷ []) c.of.ensures
    ∙ ap (λ t. vs ++ (pkg name (class_of v) ∷ brought t))
    (not_there k.problem.catalogue.now k.problem.manifest.now name v
    (sym (ap (option_map (λ (x : Bor Candidate). said_by x.now)) c.in-None.is) ∙ c.candidate.ensures))
