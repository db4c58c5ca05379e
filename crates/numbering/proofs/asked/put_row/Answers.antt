use Rattle.std.proofs.Common.{◌≡◌, ◌∙◌, ◌+◌, ◌++◌, ◌∷◌, drop, ap, sym}
use Rattle.std.specs.List.{flat_map}
use Rattle.std.proofs.lemmas.List.{drop_more}
use Rattle.features.specs.EntryViews.{entry_view, entry_views}
use Rattle.manifest.specs.Manifests.{asked_by}
use Rattle.numbering.specs.inner.Asked.{asked_in, asked_so}
use Rattle.numbering.proofs.AskedLaws.{asks_more}
use Rattle.numbering.proofs.asked.put_row.Goals as goal

pub entries-preserved : goal.entries-preserved
entries-preserved c x =
    let xs = c.args.entries.now in
    let i = c.entries.entry-index in
    let e = c.entry-item.result in
    let left = drop (i + 1) xs in
    let here : drop i xs ≡ e ∷ left = drop_more xs i e c.entries-test.true ∙ ap (λ y. y ∷ left) (sym c.entry-item.is) in
    asks_more c.entries.asked c.put_entry.new.asked (asked_by (entry_view e)) (flat_map asked_by (entry_views left)) x
    (asked_in c.args.asked.now x ++ asked_so x.now (flat_map asked_by (entry_views xs))) c.in_ok-put_entry.ensures
    (ap (λ l. asked_in c.entries.asked x ++ asked_so x.now (flat_map asked_by (entry_views l)))
    (sym here) ∙ c.entries.invariant x)
