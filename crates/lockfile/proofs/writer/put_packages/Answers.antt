use Rattle.lockfile.proofs.Writing.{then-more}
use Rattle.lockfile.specs.inner.Written.{written_block, written_list, entry_view, entry_views}
use Rattle.lockfile.proofs.writer.put_packages.Goals as goal

pub entries-preserved : goal.entries-preserved
entries-preserved c =
    let all = entry_views c.args.entries.now in
    let block = rw (
      c.deref-in-entries.ensures.value,
      c.in_ok-listed.ensures,
      c.deref.ensures.value,
    ) at c.in_ok-put_package.ensures in
    then-more (λ w. written_block w (written_list all w)) entry_view c.args.out.now.items c.args.entries.now
    c.entries.entry-index c.entry-item.result c.entries-test.true c.entry-item.is c.entries.invariant block
