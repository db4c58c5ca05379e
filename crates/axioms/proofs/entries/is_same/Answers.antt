use Rattle.std.proofs.Common.{◌∙◌, ap}
use Rattle.model.specs.Causes.{same_entry}
use Rattle.axioms.specs.inner.Entries.{named_view}
use Rattle.axioms.proofs.EntryLemmas.{named_same}
use Rattle.axioms.proofs.entries.is_same.Goals as goal

pub returns : goal.returns
returns c =
    c.eq.ensures ∙ named_same c.args.named.now c.of.result ∙ ap (same_entry (named_view c.args.named.now)) c.of.ensures
