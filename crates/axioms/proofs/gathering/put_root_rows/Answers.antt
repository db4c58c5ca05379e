use Rattle.std.proofs.Common.{rules, ◌≡◌, ◌∷◌, ◌||◌, List, ℕ, Vec, sym, ap, ◌∙◌}
use Rattle.std.specs.List.{list_any}
use Rattle.std.specs.declared.alloc.Global.{Global}
use Rattle.features.specs.EntryViews.{entry_views}
use Rattle.features.specs.inner.Tables.{rows_of}
use Rattle.features.specs.declared.entry.Entry.{Entry}
use Rattle.model.specs.Causes.{asks_for}
use Rattle.axioms.specs.inner.Asking.{row_names}
use Rattle.axioms.specs.inner.Pairs.{has_pair}
use Rattle.axioms.proofs.GatherLemmas.{names_is, one_more}
use Rattle.axioms.proofs.gathering.put_root_rows.Goals as goal

pub rows-preserved : goal.rows-preserved
rows-preserved c =
    let row : List ℕ × Vec Entry Global = (c.in-Some.field-0-0.now, c.in-Some.entries.now) in
    let rest : List (List ℕ × Vec Entry Global) = c.next.new.self in
    let steps : c.rows.entries-iterator ≡ row ∷ rest = search rules in
    record {
      can = tt;
      finite = tt;
      told = λ d g. one_more (has_pair c.rows.asked d g) (has_pair c.put_entries.new.asked d g)
          (row_names d g (row.0, entry_views row.1.items)) (list_any (row_names d g) (rows_of rest)) _
          (c.in_ok-put_entries.ensures d g ∙ ap (λ b. has_pair c.rows.asked d g || b) (ap (λ es. list_any (asks_for d g)
          (entry_views es)) c.as_slice.ensures.value ∙ names_is d g (row.0, entry_views row.1.items)))
          (sym (ap (λ es. has_pair c.rows.asked d g || list_any (row_names d g) (rows_of es)) steps)
          ∙ c.rows.invariant.told d g);
    }
