use Rattle.std.proofs.Common.{◌∙◌, ◌||◌, ap, codes}
use Rattle.std.specs.List.{list_any}
use Rattle.features.specs.Views.{dependency_view}
use Rattle.model.specs.Causes.{same_pair}
use Rattle.axioms.proofs.GatherLemmas.{adds_both, adds_so, list_default, list_plain}
use Rattle.axioms.proofs.gathering.put_list.Goals as goal

pub returns-in_ok-put : goal.returns-in_ok-put
returns-in_ok-put c =
    let d = dependency_view c.args.dependency.now in
    adds_so c.args.known.now c.put.new.self _ _
    (λ n f. ap (λ gs. list_any (λ g. same_pair (n, f) (c.args.name.now, g)) gs
    || same_pair (n, f) (c.args.name.now, codes "default")) c.as_slice.ensures.value
    ∙ list_default c.args.name.now d n f c.if-dependency.true)
    (adds_both c.args.known.now c.put_features.new.known c.put.new.self _ _
    c.in_ok-put_features.ensures c.in_ok-put.ensures)

pub returns-else-dependency : goal.returns-else-dependency
returns-else-dependency c =
    let d = dependency_view c.args.dependency.now in
    adds_so c.args.known.now c.put_features.new.known _ _
    (λ n f. ap (list_any (λ g. same_pair (n, f) (c.args.name.now, g))) c.as_slice.ensures.value
    ∙ list_plain c.args.name.now d n f c.if-dependency.false)
    c.in_ok-put_features.ensures
