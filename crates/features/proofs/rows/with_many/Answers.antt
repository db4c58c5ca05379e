use Rattle.std.proofs.Common.{◌≡◌, rules, ap, ap₂, ◌∙◌}
use Rattle.std.specs.Vec.Iter.{into_iter_items}
use Rattle.features.specs.inner.Drafts.{with_rows}
use Rattle.features.specs.inner.Tables.{rows_of}
use Rattle.features.proofs.BuildLemmas.{row-put}
use Rattle.features.proofs.RowLemmas.{rise_too}
use Rattle.features.proofs.rows.with_many.Goals as goal

pub rows-init : goal.rows-init
rows-init c =
    let left : into_iter_items c.into_iter-name-iterator.result ≡ c.in_ok-added.added.items = search rules in
    record {
      can = tt;
      finite = tt;
      told = ap₂ (λ t more. with_rows t more)
          (ap rows_of c.in_ok-features.ensures ∙ c.in_ok-copies.ensures) (ap rows_of left ∙ c.in_ok-added.ensures);
    }

pub rows-preserved-in_ok-insert : goal.rows-preserved-in_ok-insert
rows-preserved-in_ok-insert c = record {
  can = tt;
  finite = tt;
  told = row-put c.rows.features.entries c.insert.new.self.entries
      (into_iter_items c.next.new.self) c.in-Some.name c.in-Some.entries (with_rows (rows_of c.args.rows.now)
      (rows_of c.args.more.now)) c.in_ok-insert.ensures.entries (search rules);
}

pub rows-preserved : goal.rows-preserved
rows-preserved c = record {
  can = tt;
  finite = tt;
  told = row-put c.rows.features.entries c.insert.new.self.entries
      (into_iter_items c.next.new.self) c.in-Some.name c.in-Some.entries (with_rows (rows_of c.args.rows.now)
      (rows_of c.args.more.now)) c.in_ok-insert.ensures.entries (search rules);
}

pub map_of-requires : goal.map_of-requires
map_of-requires c = rise_too c.args.rows.now c.in_ok-copies.field-0.items c.in_ok-copies.ensures c.requires
