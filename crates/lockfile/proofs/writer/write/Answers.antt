use Rattle.std.proofs.Common.{◌∙◌}
use Rattle.model.specs.Order.{package_cmp}
use Rattle.lockfile.proofs.Writing.{whole-text, strictly-sorted}
use Rattle.lockfile.proofs.writer.write.Goals as goal

pub entries-requires : goal.entries-requires
entries-requires c = rw c.packages.ensures.views (strictly-sorted package_cmp _ c.packages.ensures.content.in_order)

pub returns : goal.returns
returns c =
    let table = rw c.packages.ensures.views at c.in_ok-entries.ensures in
    let written = rw (
      c.deref.ensures.value,
      table,
      c.in_ok-extend_from_slice.ensures.items,
      c.new-out.ensures.items,
    ) at c.in_ok-put_packages.ensures in
    written ∙ whole-text c.args.content.now
