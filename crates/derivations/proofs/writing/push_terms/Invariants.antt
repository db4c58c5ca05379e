use Rattle.std.proofs.Common.{◌≡◌, ◌++◌, drop, false, string_bytes}
use Rattle.derivations.specs.inner.Tables.{terms_at}
use Rattle.derivations.specs.Written.{term_json}
use Rattle.derivations.proofs.Commas.{separated}
use Rattle.derivations.proofs.writing.push_terms.Given as goal

-- what is written, with what is left, is the whole
abbrev pub invariant-terms : goal.invariant-terms
invariant-terms l = string_bytes l.text ++ separated term_json l.later (terms_at l.tables (drop l.term-index l.terms))
    ≡ string_bytes l.fn.text ++ separated term_json false (terms_at l.tables l.terms)
