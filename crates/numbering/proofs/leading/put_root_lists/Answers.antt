use Rattle.std.proofs.Common.{◌++◌, map, sym, ap, ◌∙◌}
use Rattle.std.proofs.lemmas.Result.{on_ok_weaker}
use Rattle.features.specs.Views.{dependency_view}
use Rattle.model.specs.Causes.{of_list}
use Rattle.numbering.specs.inner.Asked.{asked_so}
use Rattle.numbering.specs.GivenViews.{cause_views}
use Rattle.numbering.specs.inner.CausesAt.{root_asked}
use Rattle.numbering.specs.inner.KnownProblem.{problem}
use Rattle.classes.specs.Classes.{class_view}
use Rattle.vertices.specs.inner.RefViews.{owner_ref_view}
use Rattle.numbering.proofs.AskedLaws.{root-asked}
use Rattle.numbering.proofs.leading.put_root_lists.Goals as goal

pub returns-in-Root : goal.returns-in-Root
returns-in-Root c =
    let q = problem c.args.known.now in
    let f = of_list (owner_ref_view c.args.lead.owner) c.args.lead.number (class_view c.args.lead.class) in
    let d = dependency_view c.args.dependency.now in
    let cs = cause_views c.args.causes.now.items in
    on_ok_weaker c.put_root_asked.result
    (λ e. e ∙ ap (λ l. cs ++ map f l)
    (ap (λ n. asked_so n q.root_asks) c.as_str.ensures.text ∙ root-asked q d
    ∙ ap (λ w. root_asked q w d) (sym (ap owner_ref_view c.in-Root.is))))
    c.put_root_asked.ensures
