use Rattle.std.proofs.Common.{◌≡◌, ◌||◌, ℕ, List, take}
use Rattle.std.specs.List.{list_any}
use Rattle.model.specs.Tables.{is_dep}
use Rattle.features.specs.inner.Texts.{has_text, texts_in}
use Rattle.features.specs.EntryViews.{entry_views}
use Rattle.features.proofs.draft.put_entered.Given as goal

-- the names so far
abbrev pub invariant-loop-entry : goal.invariant-loop-entry
invariant-loop-entry l = (d : List ℕ) → has_text (texts_in l.names) d
    ≡ (has_text (texts_in l.fn.names) d || list_any (is_dep d) (entry_views (take l.entry-index l.entries)))
