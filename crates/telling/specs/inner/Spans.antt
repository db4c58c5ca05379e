-- Runs of marks, as which the versions of a set are told (the layout is this project's).
use Rattle.std.specs.Prelude.{ℕ, ◌+◌, ◌≤◌, Contains, Bool, true, false, List, [], ◌∷◌, ◌++◌, Option, Some, None}
use Rattle.telling.specs.declared.spans.Span.{Span}

abbrev pub extended : Option Span → ℕ → Span
extended None place = record { first = place; last = place }
extended (Some s) place = record { first = s.first; last = place }

-- the run that is open after a place that is marked or not
abbrev pub run_after : Option Span → ℕ → Bool → Option Span
run_after run place true = Some (extended run place)
run_after run place false = None

-- the run that is open, unless it goes on
abbrev pub spans_put : Option Span → Bool → List Span
spans_put None goes_on = []
spans_put (Some s) true = []
spans_put (Some s) false = s ∷ []

-- the runs of the marks from a place on, before which this one is open
unfoldable pub spans_from : ℕ → Option Span → List Bool → List Span
spans_from place run [] = spans_put run false
spans_from place run (mark ∷ marks) = spans_put run mark ++ spans_from (place + 1) (run_after run place mark) marks

abbrev pub spans_of : List Bool → List Span
spans_of marks = spans_from 0 None marks

-- a place is in one of the runs
abbrev pub IsInOne : List Span → ℕ → Type 0
IsInOne ss place = (s : Span) × Contains ss s × (s.first ≤ place) × (place ≤ s.last)
