use Rattle.std.proofs.Common.{◌≡◌, ℕ, List, drop}
use Rattle.std.specs.Option.{option_or}
use Rattle.features.specs.Views.{dependency_views}
use Rattle.lookups.specs.inner.ByName.{is_gone, named}
use Rattle.lookups.specs.inner.Needs.{place_from}
use Rattle.lookups.specs.inner.Views.{problem_view}
use Rattle.lookups.proofs.first_enabled.unmatched_by_name.Given as goal

-- the first among the dependencies so far, or else among those that are left, is the first of all
abbrev pub invariant-dependencies : goal.invariant-dependencies
invariant-dependencies l = (d : List ℕ) →
    option_or (named l.numbers d) (place_from (is_gone (problem_view l.problem) d) l.number
    (dependency_views (drop l.number l.dependencies)))
    ≡ place_from (is_gone (problem_view l.problem) d) 0 (dependency_views l.dependencies)
