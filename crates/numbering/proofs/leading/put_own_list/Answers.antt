use Rattle.std.proofs.Common.{◌++◌, ◌∷◌, [], cond, map, ap, ◌∙◌}
use Rattle.std.specs.Prelude.{codes}
use Rattle.std.proofs.lemmas.List.{append_assoc}
use Rattle.std.proofs.lemmas.Result.{on_ok_weaker}
use Rattle.features.specs.Views.{dependency_view}
use Rattle.model.specs.Causes.{of_list}
use Rattle.numbering.specs.GivenViews.{cause_views}
use Rattle.classes.specs.Classes.{class_view}
use Rattle.vertices.specs.inner.RefViews.{owner_ref_view}
use Rattle.numbering.proofs.LeadLaws.{own_list}
use Rattle.numbering.proofs.leading.put_own_list.Goals as goal

pub returns : goal.returns
returns c =
    let f = of_list (owner_ref_view c.args.lead.owner) c.args.lead.number (class_view c.args.lead.class) in
    let d = dependency_view c.args.dependency.now in
    let cs = cause_views c.args.causes.now.items in
    on_ok_weaker c.put_default.result
    (λ e. e ∙ ap (λ l. l ++ cond d.default_features (f (codes "default") ∷ []) [])
    (c.in_ok-put_listed.ensures ∙ ap (λ fs. cs ++ map f fs) c.as_slice.ensures.value)
    ∙ append_assoc cs (map f d.features) (cond d.default_features (f (codes "default") ∷ []) [])
    ∙ ap (λ l. cs ++ l) (own_list f d))
    c.put_default.ensures
