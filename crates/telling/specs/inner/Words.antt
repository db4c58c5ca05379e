-- Versions of a name as ranges over its candidates, in words (the layout is this project's).
use Rattle.std.specs.Prelude.{ℕ, ◌+◌, ◌==◌, nat_lt, Bool, ◌&&◌, if◌then◌else◌, List, [], ◌∷◌, ◌++◌, length, Option}
use Rattle.std.specs.Prelude.{Some, None, slice_get, codes}
use Rattle.std.specs.List.{list_all}
use Rattle.semver.specs.Identifiers.{parts_text}
use Rattle.semver.specs.Parse.{Parts}
use Rattle.telling.specs.inner.Spans.{spans_of}
use Rattle.telling.specs.declared.spans.Span.{Span}

-- several versions are marked, and none isn't
abbrev pub is_every : List Bool → Bool
is_every marks = nat_lt 1 (length marks) && list_all (λ mark. mark) marks

abbrev pub text_if : Option Parts → List ℕ
text_if None = []
text_if (Some v) = parts_text v

abbrev pub text_at : List Parts → ℕ → List ℕ
text_at vs place = text_if (slice_get vs place)

-- `1.0.0`, or `1.0.0 to 1.2.0`
abbrev pub span_words : List Parts → Span → List ℕ
span_words vs s = text_at vs s.first ++ (if s.first == s.last then [] else codes " to " ++ text_at vs s.last)

-- what stands before the thing at a place of so many: a comma, or a word before the last one
abbrev pub before_words : List ℕ → ℕ → ℕ → List ℕ
before_words word place count =
    if place == 0 then [] else if nat_lt (place + 1) count then codes ", " else codes " " ++ (word ++ codes " ")

-- of so many runs those from a place on
unfoldable pub spans_words : List Parts → ℕ → ℕ → List Span → List ℕ
spans_words vs count place [] = []
spans_words vs count place (s ∷ ss) =
    (before_words (codes "or") place count ++ span_words vs s) ++ spans_words vs count (place + 1) ss

abbrev pub runs_words : List ℕ → List Parts → List Span → List ℕ
runs_words name vs [] = codes "no version of " ++ name
runs_words name vs (s ∷ ss) = (name ++ codes " ") ++ spans_words vs (length (s ∷ ss)) 0 (s ∷ ss)

-- the marked versions of a name
abbrev pub versions_words : List ℕ → List ℕ → List Parts → List Bool → List ℕ
versions_words every name vs marks =
    if is_every marks then every ++ (codes " version of " ++ name) else runs_words name vs (spans_of marks)
