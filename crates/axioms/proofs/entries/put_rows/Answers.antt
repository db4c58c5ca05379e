use Rattle.std.proofs.Common.{rules, ◌≡◌, ◌∷◌, ◌||◌, List, ℕ, Vec, sym, ap, ◌∙◌}
use Rattle.std.specs.List.{list_any}
use Rattle.std.specs.declared.alloc.Global.{Global}
use Rattle.features.specs.EntryViews.{entry_views}
use Rattle.features.specs.inner.Tables.{rows_of}
use Rattle.features.specs.declared.entry.Entry.{Entry}
use Rattle.model.specs.Causes.{same_entry}
use Rattle.axioms.specs.inner.Entries.{has_named, named_view, row_has}
use Rattle.axioms.proofs.EntryLemmas.{row_has_is}
use Rattle.axioms.proofs.GatherLemmas.{one_more}
use Rattle.axioms.proofs.entries.put_rows.Goals as goal

pub rows-preserved : goal.rows-preserved
rows-preserved c =
    let table = c.args.table.now in
    let row : List ℕ × Vec Entry Global = (c.in-Some.row.now, c.in-Some.field-0-1.now) in
    let rest : List (List ℕ × Vec Entry Global) = c.next.new.self in
    let steps : c.rows.row-iterator ≡ row ∷ rest = search rules in
    record {
      can = tt;
      finite = tt;
      told = λ x. one_more (has_named c.rows.set x) (has_named c.put_entries.new.set x)
          (row_has (named_view x) table (row.0, entry_views row.1.items))
          (list_any (row_has (named_view x) table) (rows_of rest)) _
          (c.in_ok-put_entries.ensures x ∙ ap (λ b. has_named c.rows.set x || b)
          (ap (list_any (same_entry (named_view x))) c.entries.ensures
          ∙ row_has_is (named_view x) table (row.0, entry_views row.1.items)))
          (sym (ap (λ es. has_named c.rows.set x || list_any (row_has (named_view x) table) (rows_of es)) steps)
          ∙ c.rows.invariant.told x);
    }
