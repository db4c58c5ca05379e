use Rattle.std.proofs.Common.{◌≡◌, Some, sym, ap, ◌∙◌, subst}
use Rattle.std.specs.Prelude.{option_map, slice_get}
use Rattle.std.proofs.lemmas.Result.{IfOk-weaker, on_ok_weaker}
use Rattle.classes.specs.Classes.{class_view}
use Rattle.features.specs.Views.{dependency_view}
use Rattle.model.specs.Vertices.{State, dep}
use Rattle.model.specs.Causes.{dependency_at}
use Rattle.numbering.specs.inner.AskedFor.{AreBeside, HasOther, IsNoted, noted_beside, noted_views}
use Rattle.numbering.specs.inner.KnownProblem.{problem}
use Rattle.vertices.specs.inner.RefViews.{owner_ref_view, state_ref_view}
use Rattle.numbering.proofs.NotedLaws.{beside_as, noted_as}
use Rattle.numbering.proofs.noted.Noted.note_dependency.Goals as goal

pub returns-in-Some-clause-noted : goal.returns-in-Some-clause-noted
returns-in-Some-clause-noted c =
    let q = problem c.args.known.now in
    let o = owner_ref_view c.args.owner in
    let i = c.args.number in
    let d = dependency_view c.in-Some.dependency.now in
    let k = class_view c.in-Class.class in
    let at : dependency_at q o i ≡ Some d =
    ap (λ ds. slice_get ds i) (sym c.dependencies_of-all.ensures) ∙ sym c.dependency_in.ensures
    ∙ ap (option_map (λ d. dependency_view d.now)) c.in-Some.is in
    on_ok_weaker c.note_lead.result (λ there. subst (λ (s : State). IsNoted q c.note_lead.new.self (dep o i, s))
    (sym (ap state_ref_view c.in-Class.is)) (noted_as q c.note_lead.new.self o i d k at there))
    c.note_lead.ensures.noted

pub returns-in-Some-clause-beside : goal.returns-in-Some-clause-beside
returns-in-Some-clause-beside c =
    let ns = c.args.self.now in
    let q = problem c.args.known.now in
    let o = owner_ref_view c.args.owner in
    let i = c.args.number in
    let d = dependency_view c.in-Some.dependency.now in
    let k = class_view c.in-Class.class in
    let at : dependency_at q o i ≡ Some d =
    ap (λ ds. slice_get ds i) (sym c.dependencies_of-all.ensures) ∙ sym c.dependency_in.ensures
    ∙ ap (option_map (λ d. dependency_view d.now)) c.in-Some.is in
    IfOk-weaker c.note_lead.result (λ v. HasOther q o i d → noted_views v.items ≡ noted_beside q ns o d k)
    (λ v. AreBeside q ns (dep o i, state_ref_view c.args.state) (noted_views v.items))
    (λ v all. subst (λ (s : State). AreBeside q ns (dep o i, s) (noted_views v.items))
    (sym (ap state_ref_view c.in-Class.is)) (beside_as q ns o i d k at (noted_views v.items) all))
    c.note_lead.ensures.beside
