-- Comparisons of sets of states, state by state (the rule of resolution of Dart pub's `solver.md`, over sets of
-- states).
use Rattle.std.specs.Prelude.{List, Bool, not, ◌&&◌, ◌||◌}
use Rattle.std.specs.List.{list_all}
use Rattle.model.specs.Vertices.{State, has_state}

-- each state of the first is in one of the others
abbrev pub all_in_either : List State → List State → List State → Bool
all_in_either ss a b = list_all (λ s. has_state a s || has_state b s) ss

-- each state of the first is in both others
abbrev pub all_in_both : List State → List State → List State → Bool
all_in_both ss a b = list_all (λ s. has_state a s && has_state b s) ss

-- each state of the first that is in the second is in the third
abbrev pub all_shared_in : List State → List State → List State → Bool
all_shared_in a b ss = list_all (λ s. not (has_state b s) || has_state ss s) a
