use Rattle.std.proofs.Common.{◌≡◌, ◌++◌, ℕ, List, drop}
use Rattle.std.specs.Borrow.{Bor}
use Rattle.std.specs.List.{flat_map}
use Rattle.features.specs.EntryViews.{entry_views}
use Rattle.manifest.specs.Manifests.{asked_by}
use Rattle.numbering.specs.inner.Asked.{asked_in, asked_so}
use Rattle.numbering.proofs.asked.put_row.Given as goal

-- what is asked for so far, with what the entries that are left ask for, is all
abbrev pub invariant-entries : goal.invariant-entries
invariant-entries l = (x : Bor (List ℕ)) →
    asked_in l.asked x ++ asked_so x.now (flat_map asked_by (entry_views (drop l.entry-index l.entries)))
    ≡ asked_in l.fn.asked x ++ asked_so x.now (flat_map asked_by (entry_views l.entries))
