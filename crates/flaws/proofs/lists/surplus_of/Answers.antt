use Rattle.std.proofs.Common.{◌≡◌, Result, Ok, Err, IfOk}
use Rattle.std.specs.BTreeSet.{contains}
use Rattle.std.specs.Ordering.{nat_cmp}
use Rattle.flaws.proofs.lists.surplus_of.Goals as goal

weaker : {X E : Type 0} (P Q : X → Type 0) (r : Result X E) → ((x : X) → P x → Q x) → IfOk r P → IfOk r Q
weaker P Q (Ok x) f h = f x h
weaker P Q (Err e) f h = tt

pub returns : goal.returns
returns c = weaker _ _ c.not_among.result
    (λ v e. (contains nat_cmp c.in_ok-places.places, c.in_ok-places.ensures, e)) c.not_among.ensures
