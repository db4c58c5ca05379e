use Rattle.std.proofs.Common.{rules, ◌∙◌, sym}
use Rattle.std.proofs.lemmas.Iterator.{YieldsList-from_slice}
use Rattle.std.proofs.lemmas.Iterator.Search.{all_from_yields_List}
use borrow.Author.Tests.{tests}
use Rattle.model.specs.inner.Terms.{agree}
use Rattle.lookups.specs.inner.TermViews.{term_view, term_views}
use Rattle.lookups.specs.declared.term.Term.{Term}
use Rattle.lookups.proofs.SetLaws.{all_map}
use Rattle.lookups.proofs.compare.all_agree.Goals as goal

pub returns : goal.returns
returns c = all_from_yields_List (λ (t : Term). agree (term_views c.args.a.now) (term_views c.args.b.now) (term_view t))
    _ _ _ c.all.ensures.ran (YieldsList-from_slice c.args.terms.now cc) (λ x b q k. search (rules, tests))
    ∙ sym (all_map term_view (agree (term_views c.args.a.now) (term_views c.args.b.now)) c.args.terms.now)
