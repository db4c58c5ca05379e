use Rattle.std.proofs.Common.{rules, ◌≡◌, ◌++◌, ◌∷◌, List, ℕ, Vec, sym, ap, ◌∙◌}
use Rattle.std.specs.List.{flat_map}
use Rattle.std.specs.declared.alloc.Global.{Global}
use Rattle.features.specs.EntryViews.{entry_views}
use Rattle.features.specs.inner.Tables.{rows_of}
use Rattle.features.specs.declared.entry.Entry.{Entry}
use Rattle.manifest.specs.Manifests.{asked_by, root_asks}
use Rattle.numbering.specs.inner.Asked.{Asks, asked_in, asked_so}
use Rattle.numbering.proofs.AskedLaws.{asks_more}
use Rattle.numbering.proofs.asked.by_name.Goals as goal

pub rows-preserved : goal.rows-preserved
rows-preserved c =
    let row : List ℕ × Vec Entry Global = (c.in-Some.field-0-0.now, c.in-Some.entries.now) in
    let rest : List (List ℕ × Vec Entry Global) = c.next.new.self in
    let steps : c.rows.entries-iterator ≡ row ∷ rest = search rules in
    let first = flat_map asked_by (entry_views row.1.items) in
    let asks : Asks c.rows.asked first c.put_row.new.asked
    = λ x. c.in_ok-put_row.ensures x ∙ ap (λ es. asked_in c.rows.asked x
    ++ asked_so x.now (flat_map asked_by (entry_views es))) c.as_slice.ensures.value in
    record {
      can = tt;
      finite = tt;
      told = λ x. asks_more c.rows.asked c.put_row.new.asked first (root_asks (rows_of rest)) x
          (asked_so x.now (root_asks c.args.table.now)) asks
          (ap (λ es. asked_in c.rows.asked x ++ asked_so x.now (root_asks (rows_of es))) (sym steps)
          ∙ c.rows.invariant.told x);
    }
