-- The written order of states is total.
use Rattle.std.proofs.Common.{◌≡◌, [], refl, ap, ◌∙◌, Ordering}
use Rattle.std.specs.Cmp.{IsTotalOrder}
use Rattle.std.specs.Ordering.{nat_cmp, ordering_then}
use Rattle.std.proofs.lemmas.Cmp.{nat_cmp_total, on_total, then_total, tied_itself}
use Rattle.semver.specs.Parse.{Parts}
use Rattle.model.specs.Order.{version_cmp}
use Rattle.model.specs.Selection.{Class, patch}
use Rattle.model.specs.Vertices.{State, absent, present, version, in_class}
use Rattle.model.proofs.PackageOrder.{version_total}
use Rattle.model.proofs.Tests.{then-equal}
use Rattle.vertices.specs.Orders.{class_rank, class_number, class_cmp, state_rank, state_cmp}

class_total : IsTotalOrder class_cmp
class_total = then_total (on_total class_rank nat_cmp_total) (on_total class_number nat_cmp_total)

-- the class and the version of a state, or any where it has none
abbrev class_in : State → Class
class_in absent = patch 0
class_in present = patch 0
class_in (version v) = patch 0
class_in (in_class c) = c

abbrev version_in : State → Parts
version_in absent = (0, 0, 0, [], [])
version_in present = (0, 0, 0, [], [])
version_in (version v) = v
version_in (in_class c) = (0, 0, 0, [], [])

-- the same order in steps
abbrev by_steps : State → State → Ordering
by_steps s t = ordering_then (nat_cmp (state_rank s) (state_rank t))
    (ordering_then (class_cmp (class_in s) (class_in t)) (version_cmp (version_in s) (version_in t)))

by_steps_total : IsTotalOrder by_steps
by_steps_total = then_total (on_total state_rank nat_cmp_total)
    (then_total (on_total class_in class_total) (on_total version_in version_total))

same : (s t : State) → by_steps s t ≡ state_cmp s t
same absent absent = tied_itself version_total (0, 0, 0, [], [])
same absent present = refl
same absent (version v) = refl
same absent (in_class c) = refl
same present absent = refl
same present present = tied_itself version_total (0, 0, 0, [], [])
same present (version v) = refl
same present (in_class c) = refl
same (version v) absent = refl
same (version v) present = refl
same (version v) (version w) = refl
same (version v) (in_class c) = refl
same (in_class c) absent = refl
same (in_class c) present = refl
same (in_class c) (version v) = refl
same (in_class c) (in_class d) =
    ap (ordering_then (class_cmp c d)) (tied_itself version_total (0, 0, 0, [], [])) ∙ then-equal (class_cmp c d)

pub state_total : IsTotalOrder state_cmp
state_total = record {
  antisymm = λ s t. rw (← same s t, ← same t s) (by_steps_total.antisymm s t);
  trans = λ s t u. rw (← same s t, ← same t u, ← same s u) (by_steps_total.trans s t u);
  congr = λ s t u. rw (← same s t, ← same s u, ← same t u) (by_steps_total.congr s t u);
}
