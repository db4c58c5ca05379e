use Rattle.std.proofs.Common.{take}
use Rattle.checker.specs.inner.Naming.{AreNamed, IsGrown}
use Rattle.checker.proofs.naming.Naming.add_terms.Given as goal

abbrev pub invariant-terms : goal.invariant-terms
invariant-terms l = record {
  grown : IsGrown l.fn.self.tables.now l.fn.self l.self;
  named : AreNamed l.fn.self.tables.now l.self (take l.term-index l.terms);
}
