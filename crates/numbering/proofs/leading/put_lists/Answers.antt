use Rattle.std.proofs.lemmas.Result.{on_ok_weaker}
use Rattle.features.specs.Views.{dependency_view}
use Rattle.model.specs.Summary.{asked_of_target}
use Rattle.model.specs.Causes.{of_list}
use Rattle.numbering.specs.GivenViews.{cause_views}
use Rattle.numbering.specs.inner.CausesAt.{root_asked}
use Rattle.numbering.specs.inner.KnownProblem.{problem}
use Rattle.classes.specs.Classes.{class_view}
use Rattle.vertices.specs.inner.RefViews.{owner_ref_view}
use Rattle.numbering.proofs.LeadLaws.{both_lists}
use Rattle.numbering.proofs.leading.put_lists.Goals as goal

pub returns : goal.returns
returns c =
    let q = problem c.args.known.now in
    let o = owner_ref_view c.args.lead.owner in
    let d = dependency_view c.args.dependency.now in
    on_ok_weaker c.put_root_lists.result
    (λ e. both_lists (of_list o c.args.lead.number (class_view c.args.lead.class)) (asked_of_target d)
    (root_asked q o d) (cause_views c.args.causes.now.items) (cause_views c.put_own_list.new.causes.items)
    (cause_views c.put_root_lists.new.causes.items) c.in_ok-put_own_list.ensures e)
    c.put_root_lists.ensures
