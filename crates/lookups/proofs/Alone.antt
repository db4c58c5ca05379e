-- One state alone rises.
use Rattle.std.proofs.Common.{◌≡◌, List, [], ◌∷◌, sym, subst}
use Rattle.std.specs.List.Sorted.{IsStrictlySortedBy}
use Rattle.vertices.specs.Orders.{state_cmp}
use Rattle.vertices.specs.inner.RefViews.{state_ref_views}
use Rattle.vertices.specs.declared.state.StateRef as declared

pub one_rises : (s : declared.StateRef) (ss : List declared.StateRef) → ss ≡ s ∷ []
    → IsStrictlySortedBy state_cmp (state_ref_views ss)
unfolding IsStrictlySortedBy
one_rises s ss e = subst (λ rs. IsStrictlySortedBy state_cmp (state_ref_views rs)) (sym e) (tt, tt)
