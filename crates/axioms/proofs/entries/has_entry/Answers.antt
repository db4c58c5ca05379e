use Rattle.std.proofs.Common.{rules, ◌∙◌, sym}
use Rattle.std.proofs.lemmas.Iterator.{YieldsList-from_slice}
use Rattle.std.proofs.lemmas.Iterator.Search.{any_from_yields_List}
use Rattle.model.proofs.Mapped.{any-map}
use borrow.Author.Tests.{tests}
use Rattle.features.specs.EntryViews.{entry_view}
use Rattle.features.specs.declared.entry.Entry.{Entry}
use Rattle.model.specs.Causes.{same_entry}
use Rattle.axioms.specs.inner.Entries.{named_view}
use Rattle.axioms.proofs.entries.has_entry.Goals as goal

pub returns : goal.returns
returns c = any_from_yields_List (λ (e : Entry). same_entry (named_view c.args.named.now) (entry_view e)) _ _ _
    c.any.ensures.ran (YieldsList-from_slice c.args.entries.now cc) (λ x b q k. search (rules, tests))
    ∙ sym (any-map (same_entry (named_view c.args.named.now)) entry_view c.args.entries.now)
