use Rattle.checker.proofs.NamingLaws.{named_more}
use Rattle.checker.proofs.naming.Naming.add_terms.Goals as goal

pub terms-preserved : goal.terms-preserved
terms-preserved c =
    let more = named_more c.args.self.now.tables.now c.terms.self.tables.now c.args.self.now c.terms.self
    c.add_term.new.self c.args.terms.now c.terms.term-index _ c.terms.invariant.grown.sound.tables c.terms-test.true
    c.terms.invariant.grown c.terms.invariant.named c.in_ok-add_term.ensures.grown c.in_ok-add_term.ensures.named in
    record { grown = more.0; named = more.1 }
