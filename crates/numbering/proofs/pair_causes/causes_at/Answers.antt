use Rattle.std.proofs.Common.{◌≡◌, ◌∙◌, ◌++◌, [], ap}
use Rattle.std.proofs.lemmas.Result.{IfOk-weaker}
use Rattle.numbering.specs.GivenViews.{cause_views}
use Rattle.numbering.specs.inner.CausesAt.{causes_at, with_causes}
use Rattle.numbering.specs.inner.KnownProblem.{problem}
use Rattle.numbering.specs.Pairs.{AreCausesAt}
use Rattle.vertices.specs.inner.RefViews.{state_ref_view, vertex_ref_view}
use Rattle.numbering.proofs.CausesLaws.{at_exact}
use Rattle.numbering.proofs.pair_causes.causes_at.Goals as goal

pub returns : goal.returns
returns c =
    let q = problem c.args.known.now in
    let v = vertex_ref_view c.args.vertex in
    let s = state_ref_view c.args.state in
    IfOk-weaker c.each_once.result
    (λ t. cause_views t.items ≡ with_causes [] (cause_views c.put_causes.new.causes.items))
    (λ t. AreCausesAt q (v, s) (cause_views t.items))
    (λ t e. at_exact q v s c.requires.vertex c.requires.state (cause_views t.items)
    (e ∙ ap (with_causes [])
    (c.in_ok-put_causes.ensures ∙ ap (λ xs. cause_views xs ++ causes_at q v s) c.new-causes.ensures.items)))
    c.each_once.ensures
