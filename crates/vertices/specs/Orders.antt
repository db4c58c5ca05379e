-- The written order of states (SemVer 2.0.0, section 11, for versions; the rest is this project's).
use Rattle.std.specs.Prelude.{ℕ}
use Rattle.std.specs.Ordering.{nat_cmp, ordering_then}
use Rattle.std.specs.declared.cmp.Ordering.{Ordering}
use Rattle.model.specs.Selection.{Class, patch, minor, major}
use Rattle.model.specs.Vertices.{State, absent, present, version, in_class}
use Rattle.model.specs.Order.{version_cmp}

abbrev pub class_rank : Class → ℕ
class_rank (patch n) = 0
class_rank (minor n) = 1
class_rank (major n) = 2

abbrev pub class_number : Class → ℕ
class_number (patch n) = n
class_number (minor n) = n
class_number (major n) = n

-- classes as their versions: those of `0.0.N`, then those of `0.N`, then those of `N`
abbrev pub class_cmp : Class → Class → Ordering
class_cmp c d = ordering_then (nat_cmp (class_rank c) (class_rank d)) (nat_cmp (class_number c) (class_number d))

abbrev pub state_rank : State → ℕ
state_rank absent = 0
state_rank present = 1
state_rank (in_class c) = 2
state_rank (version v) = 3

-- `absent` first, then lowest or oldest first
abbrev pub state_cmp : State → State → Ordering
state_cmp (in_class c) (in_class d) = class_cmp c d
state_cmp (version v) (version w) = version_cmp v w
state_cmp s t = nat_cmp (state_rank s) (state_rank t)
