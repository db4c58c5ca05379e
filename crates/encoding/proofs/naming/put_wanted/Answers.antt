use Rattle.std.proofs.Common.{◌∙◌, ◌++◌, [], cond, codes, ap}
use Rattle.std.specs.List.{flat_map}
use Rattle.std.proofs.lemmas.List.{append_assoc}
use Rattle.std.proofs.lemmas.Result.{on_ok_weaker}
use Rattle.features.specs.Views.{dependency_view}
use Rattle.numbering.specs.inner.KnownProblem.{problem}
use Rattle.encoding.specs.inner.Everything.{feature_of}
use Rattle.encoding.specs.Views.{vertex_views}
use Rattle.encoding.proofs.Steps.{own_list}
use Rattle.encoding.proofs.naming.put_wanted.Goals as goal

pub returns : goal.returns
returns c =
    let d = dependency_view c.args.dependency.now in
    let f = feature_of (problem c.args.known.now) d.real_name in
    let vs = vertex_views c.args.vertices.now.items in
    on_ok_weaker c.put_default.result
    (λ e. e ∙ ap (λ l. l ++ cond d.default_features (f (codes "default")) [])
    (c.in_ok-put_listed.ensures ∙ ap (λ fs. vs ++ flat_map f fs) c.as_slice.ensures.value)
    ∙ append_assoc vs (flat_map f d.features) (cond d.default_features (f (codes "default")) [])
    ∙ ap (λ l. vs ++ l) (own_list f d))
    c.put_default.ensures
