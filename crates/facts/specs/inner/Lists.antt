-- The rules by the facts that they need: for each fact a list.
use Rattle.std.specs.Prelude.{ℕ, zero, suc, ◌==◌, if◌then◌else◌, List, [], ◌∷◌, ◌++◌, map, Vec, slice_get, unwrap_or}
use Rattle.std.specs.declared.alloc.Global.{Global}
use Rattle.facts.specs.declared.rule.Rule.{Rule}

abbrev pub rule_lists : List (Vec Rule Global) → List (List Rule)
rule_lists lists = map (λ l. l.items) lists

-- the rules that need a fact
abbrev pub rules_at : List (List Rule) → ℕ → List Rule
rules_at lists i = unwrap_or (slice_get lists i) []

abbrev pub no_lists : ℕ → List (List Rule)
no_lists zero = []
no_lists (suc n) = [] ∷ no_lists n

-- with one more rule in the list of a fact
abbrev pub put_at : List (List Rule) → ℕ → Rule → List (List Rule)
put_at [] i r = []
put_at (l ∷ ls) zero r = (l ++ r ∷ []) ∷ ls
put_at (l ∷ ls) (suc i) r = l ∷ put_at ls i r

-- with one more rule in the lists of both of its facts: once where it needs one alone
abbrev pub put_both : List (List Rule) → Rule → List (List Rule)
put_both lists r =
    if r.first == r.second then put_at lists r.first r else put_at (put_at lists r.first r) r.second r

-- the lists with these rules too, one after another
abbrev pub put_all : List (List Rule) → List Rule → List (List Rule)
put_all lists [] = lists
put_all lists (r ∷ rs) = put_all (put_both lists r) rs

-- the lists of all facts below a number
abbrev pub index_of : ℕ → List Rule → List (List Rule)
index_of n rules = put_all (no_lists n) rules
