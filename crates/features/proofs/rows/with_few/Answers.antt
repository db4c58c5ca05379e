use Rattle.std.proofs.Common.{rules, subst, sym}
use Rattle.std.specs.Vec.Iter.{into_iter_items}
use Rattle.features.specs.inner.Drafts.{with_rows}
use Rattle.features.specs.inner.Tables.{AreRising, rows_of}
use Rattle.features.proofs.BuildLemmas.{row-put}
use Rattle.features.proofs.rows.with_few.Goals as goal

pub rows-init : goal.rows-init
rows-init c = record {
  can = tt;
  finite = tt;
  rising = subst AreRising (sym c.in_ok-reserve_exact.ensures.items) c.requires;
  told = rw c.in_ok-reserve_exact.ensures.items (search rules);
}

pub put_row-requires : goal.put_row-requires
put_row-requires c = c.rows.invariant.rising

pub rows-preserved : goal.rows-preserved
rows-preserved c = record {
  can = tt;
  finite = tt;
  rising = c.in_ok-put_row.ensures.rising;
  told = row-put c.rows.rows.items c.put_row.new.rows.items (into_iter_items c.next.new.self) c.in-Some.row.0
      c.in-Some.row.1 (with_rows (rows_of c.args.rows.items) (rows_of c.args.more.items))
      c.in_ok-put_row.ensures.put (search rules);
}
