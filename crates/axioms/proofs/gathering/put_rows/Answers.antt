use Rattle.std.proofs.Common.{rules, ◌≡◌, ◌∷◌, ◌||◌, List, ℕ, Vec, sym, ap, ◌∙◌}
use Rattle.std.specs.List.{list_any}
use Rattle.std.specs.declared.alloc.Global.{Global}
use Rattle.features.specs.EntryViews.{entry_views}
use Rattle.features.specs.inner.Tables.{rows_of}
use Rattle.features.specs.declared.entry.Entry.{Entry}
use Rattle.model.specs.Causes.{asks_for}
use Rattle.axioms.specs.inner.Asking.{row_may_ask}
use Rattle.axioms.specs.inner.Pairs.{has_pair}
use Rattle.axioms.proofs.GatherLemmas.{may_ask_is, one_more}
use Rattle.axioms.proofs.gathering.put_rows.Goals as goal

pub rows-preserved : goal.rows-preserved
rows-preserved c =
    let table = c.args.table.now in
    let row : List ℕ × Vec Entry Global = (c.in-Some.row.now, c.in-Some.field-0-1.now) in
    let rest : List (List ℕ × Vec Entry Global) = c.next.new.self in
    let steps : c.rows.row-iterator ≡ row ∷ rest = search rules in
    record {
      can = tt;
      finite = tt;
      told = λ d g. one_more (has_pair c.rows.asked d g) (has_pair c.put_entries.new.asked d g)
          (row_may_ask d g table (row.0, entry_views row.1.items)) (list_any (row_may_ask d g table) (rows_of rest)) _
          (c.in_ok-put_entries.ensures d g ∙ ap (λ b. has_pair c.rows.asked d g || b) (ap (list_any (asks_for d g))
          c.entries.ensures ∙ may_ask_is d g table (row.0, entry_views row.1.items)))
          (sym (ap (λ es. has_pair c.rows.asked d g || list_any (row_may_ask d g table) (rows_of es)) steps)
          ∙ c.rows.invariant.told d g);
    }
