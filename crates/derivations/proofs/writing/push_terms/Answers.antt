use Rattle.derivations.specs.inner.Tables.{term_at}
use Rattle.derivations.specs.Written.{term_json}
use Rattle.derivations.proofs.Commas.{all-written}
use Rattle.derivations.proofs.writing.push_terms.Goals as goal

pub returns : goal.returns
returns c = all-written term_json (term_at c.args.tables.now) _ _ c.terms.later c.terms.term-index c.args.terms.now
    c.terms-test.false c.terms.invariant
