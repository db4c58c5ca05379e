use Rattle.std.proofs.Common.{rules, ◌≡◌, ◌+◌, ◌++◌, ◌∷◌, List, ℕ, Vec, length, sym, ap, ◌∙◌, arith}
use Rattle.std.specs.declared.alloc.Global.{Global}
use Rattle.features.specs.inner.Tables.{rows_of}
use Rattle.features.specs.EntryViews.{entry_views}
use Rattle.features.specs.declared.entry.Entry.{Entry}
use Rattle.facts.specs.inner.FactNumbers.{number_in, numbers_view, numbers_views}
use Rattle.facts.specs.inner.RuleLists.{entries_rules}
use Rattle.facts.proofs.RowRules.{numbered_rules, by_numbers, numbered_more}
use Rattle.facts.proofs.rules.features_rules.Goals as goal

pub rows-init : goal.rows-init
rows-init c =
    let ps = numbers_views c.args.packages.now in
    let p = numbers_view c.args.node.now in
    let first = c.args.node.now.features in
    let all : rows_of c.into_iter-entries-iterator.result ≡ c.args.table.now = search rules in
    record {
      can = tt;
      finite = tt;
      counted = ap (λ rows. first + length rows) all;
      told = ap (λ rows. c.args.rules.now.items ++ numbered_rules ps p first rows) all
          ∙ ap (λ rs. c.args.rules.now.items ++ rs) (by_numbers ps p c.args.table.now first
          c.iter-entries-items.ensures.order (λ f. ap (number_in first f) c.requires));
    }

pub overflow_add-fact : goal.overflow_add-fact
overflow_add-fact c =
    let row : List ℕ × Vec Entry Global = (c.in-Some.field-0-0.now, c.in-Some.entries.now) in
    let rest : List (List ℕ × Vec Entry Global) = c.next.new.self in
    let steps : c.rows.entries-iterator ≡ row ∷ rest = search rules in
    omega (
      arith,
      ap (λ es. length (rows_of es)) steps,
      c.rows.invariant.counted,
      ap length c.requires,
      c.args.node.now.within,
    )

pub rows-preserved : goal.rows-preserved
rows-preserved c =
    let ps = numbers_views c.args.packages.now in
    let p = numbers_view c.args.node.now in
    let row : List ℕ × Vec Entry Global = (c.in-Some.field-0-0.now, c.in-Some.entries.now) in
    let rest : List (List ℕ × Vec Entry Global) = c.next.new.self in
    let steps : c.rows.entries-iterator ≡ row ∷ rest = search rules in
    record {
      can = tt;
      finite = tt;
      counted = omega (arith, ap (λ es. length (rows_of es)) steps, c.rows.invariant.counted);
      told = numbered_more ps p c.rows.rules.items c.entries_rules.new.rules.items _ c.rows.fact (c.rows.fact + 1)
          (row.0, entry_views row.1.items) (rows_of rest)
          (ap (λ es. c.rows.rules.items ++ numbered_rules ps p c.rows.fact (rows_of es)) (sym steps)
          ∙ c.rows.invariant.told)
          (c.in_ok-entries_rules.ensures ∙ ap (λ es. c.rows.rules.items
          ++ entries_rules ps p c.rows.fact (entry_views es)) c.as_slice.ensures.value) (omega arith);
    }
