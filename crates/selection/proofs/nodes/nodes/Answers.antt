use Rattle.std.proofs.Common.{sym}
use Rattle.std.proofs.lemmas.List.{length-map}
use Rattle.lockfile.specs.inner.Views.{package_view, package_views}
use Rattle.model.proofs.Contents.{within_at, rising_at}
use Rattle.selection.proofs.Seconds.{view_at}
use Rattle.selection.proofs.nodes.nodes.Goals as goal

pub node-requires-clause-within : goal.node-requires-clause-within
node-requires-clause-within c =
    let here = view_at c.args.content.now c.packages.locked-index c.locked-item.result c.packages-test.true
    (sym c.locked-item.is) in
    let within = within_at (package_views c.args.content.now) c.requires c.packages.locked-index
    (package_view c.locked-item.result) here in
    rw (length-map c.args.content.now package_view) at within

pub node-requires-clause-rising : goal.node-requires-clause-rising
node-requires-clause-rising c =
    rising_at (package_views c.args.content.now) c.requires c.packages.locked-index (package_view c.locked-item.result)
    (view_at c.args.content.now c.packages.locked-index c.locked-item.result c.packages-test.true
    (sym c.locked-item.is))
