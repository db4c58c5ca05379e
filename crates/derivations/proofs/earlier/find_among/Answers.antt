use Rattle.derivations.proofs.EarlierLaws.{term-before}
use Rattle.derivations.proofs.TableLaws.{lent}
use Rattle.derivations.proofs.earlier.find_among.Goals as goal

pub known-found-requires-clause-reads : goal.known-found-requires-clause-reads
known-found-requires-clause-reads c =
    (term-before c.args.tables.now c.args.terms.now _ c.in-Some.term.now c.requires
    (lent c.args.terms.now _ c.get.result c.in-Some.term c.get.ensures.lookup c.in-Some.is)).1
