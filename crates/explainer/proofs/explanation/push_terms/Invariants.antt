use Rattle.std.proofs.Common.{◌≡◌, ◌++◌, drop, false, string_bytes, codes}
use Rattle.derivations.specs.inner.Tables.{terms_at}
use Rattle.explainer.specs.Explanations.{term_words}
use Rattle.explainer.proofs.Between.{separated}
use Rattle.explainer.proofs.explanation.push_terms.Given as goal

-- what is written, with what is left, is the whole
abbrev pub invariant-terms : goal.invariant-terms
invariant-terms l =
    string_bytes l.text ++ separated (codes " and ") term_words l.later (terms_at l.texts (drop l.term-index l.terms))
    ≡ string_bytes l.fn.text ++ separated (codes " and ") term_words false (terms_at l.texts l.terms)
