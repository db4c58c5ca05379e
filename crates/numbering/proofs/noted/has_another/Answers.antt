use Rattle.std.proofs.Common.{rules, nat_eq, not}
use Rattle.std.proofs.lemmas.Iterator.{YieldsList-from_slice}
use Rattle.std.proofs.lemmas.Iterator.Search.{any_from_yields_List}
use borrow.Author.Tests.{tests}
use Rattle.numbering.specs.declared.called.Numbered.{Numbered}
use Rattle.numbering.proofs.noted.has_another.Goals as goal

pub returns : goal.returns
returns c = any_from_yields_List (λ (n : Numbered). not (nat_eq c.args.number n.number))
    _ _ _ c.any.ensures.ran (YieldsList-from_slice c.args.those.now cc) (λ x b q k. search (rules, tests))
