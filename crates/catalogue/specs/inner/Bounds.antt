-- Between which versions those lie that a requirement matches: the numbers of each of its comparators bound them from
-- below, from above, or both (Cargo book, "Specifying Dependencies").
use Rattle.std.specs.Prelude.{ℕ, Bool, true, false, ◌&&◌, List, Option, Some, None, nat_lt, if◌then◌else◌}
use Rattle.std.specs.List.{list_any}
use Rattle.std.specs.Ordering.{is_gt, is_lt, nat_cmp, ordering_then}
use Rattle.std.specs.declared.cmp.Ordering.{Ordering}
use Rattle.std.specs.declared.cmp.Ordering.TheVariants.{Equal}
use Rattle.semver.specs.Parse.{Held, Parts}
use Rattle.semver.specs.declared.Op.{Op}
use Rattle.semver.specs.declared.Op.TheVariants as op

-- a number that is left out decides nothing, nor do those behind it
abbrev pub number_cmp : ℕ → Option ℕ → Ordering → Ordering
number_cmp n None rest = Equal
number_cmp n (Some m) rest = ordering_then (nat_cmp n m) rest

-- how a version's numbers stand beside these
abbrev pub numbers_cmp : Parts → ℕ → Option ℕ → Option ℕ → Ordering
numbers_cmp v n m p = ordering_then (nat_cmp v.0 n) (number_cmp v.1 m (number_cmp v.2 p Equal))

-- ---- below

abbrev pub has_lower : Op → Bool
has_lower op.Exact = true
has_lower op.Wildcard = true
has_lower op.Greater = true
has_lower op.GreaterEq = true
has_lower op.Less = false
has_lower op.LessEq = false
has_lower op.Tilde = true
has_lower op.Caret = true

abbrev pub is_below : Held → Parts → Bool
is_below c v = has_lower c.0 && is_lt (numbers_cmp v c.1 c.2 c.3)

-- older than all that is matched
abbrev pub is_short : List Held → Parts → Bool
is_short cs v = list_any (λ c. is_below c v) cs

-- ---- above

abbrev pub has_upper : Op → Bool
has_upper op.Exact = true
has_upper op.Wildcard = true
has_upper op.Greater = false
has_upper op.GreaterEq = false
has_upper op.Less = true
has_upper op.LessEq = true
has_upper op.Tilde = true
has_upper op.Caret = true

abbrev pub is_past_zero : Option ℕ → Bool
is_past_zero None = false
is_past_zero (Some n) = nat_lt 0 n

-- `^` allows all others behind the first number that isn't zero, `~` all patch numbers
abbrev pub minor_of : Op → Held → Option ℕ
minor_of op.Caret c = if nat_lt 0 c.1 then None else c.2
minor_of op.Exact c = c.2
minor_of op.Wildcard c = c.2
minor_of op.Greater c = c.2
minor_of op.GreaterEq c = c.2
minor_of op.Less c = c.2
minor_of op.LessEq c = c.2
minor_of op.Tilde c = c.2

abbrev pub patch_of : Op → Held → Option ℕ
patch_of op.Caret c = if is_past_zero c.2 then None else c.3
patch_of op.Tilde c = None
patch_of op.Exact c = c.3
patch_of op.Wildcard c = c.3
patch_of op.Greater c = c.3
patch_of op.GreaterEq c = c.3
patch_of op.Less c = c.3
patch_of op.LessEq c = c.3

abbrev pub upper_minor : Held → Option ℕ
upper_minor c = minor_of c.0 c

abbrev pub upper_patch : Held → Option ℕ
upper_patch c = patch_of c.0 c

abbrev pub is_above : Held → Parts → Bool
is_above c v = has_upper c.0 && is_gt (numbers_cmp v c.1 (upper_minor c) (upper_patch c))

-- newer than all that is matched
abbrev pub is_beyond : List Held → Parts → Bool
is_beyond cs v = list_any (λ c. is_above c v) cs
