use Rattle.std.proofs.Common.{◌≡◌, ◌++◌, drop, length, map, string_bytes}
use Rattle.semver.specs.Identifiers.{parts_of}
use Rattle.telling.specs.inner.Words.{spans_words}
use Rattle.telling.proofs.ranges.push_spans.Given as goal

-- what is written, with the runs that are left, is the whole
abbrev pub invariant-spans : goal.invariant-spans
invariant-spans l =
    string_bytes l.text ++ spans_words (map parts_of l.versions) (length l.spans) l.place (drop l.place l.spans)
    ≡ string_bytes l.fn.text ++ spans_words (map parts_of l.versions) (length l.spans) 0 l.spans
