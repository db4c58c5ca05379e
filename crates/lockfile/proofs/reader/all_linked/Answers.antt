use Rattle.std.proofs.Common.{ℕ, rules, ◌∙◌, Vec}
use Rattle.std.specs.declared.alloc.Global.{Global}
use Rattle.std.proofs.lemmas.Iterator.{YieldsList-from_zip, YieldsList-from_map_by}
use Rattle.std.proofs.lemmas.Iterator.Adapters.{YieldsList-from_vec}
use Rattle.std.proofs.lemmas.Iterator.Consumers.{YieldsList-at, map_from_collect}
use Rattle.std.proofs.lemmas.Result.{IfOk-weaker}
use Rattle.lockfile.specs.Locks.{linked}
use Rattle.lockfile.specs.inner.Views.{package_view, unlinked_view}
use Rattle.lockfile.specs.declared.packages.UnlinkedPackage.{UnlinkedPackage}
use Rattle.lockfile.proofs.Linking.{linked-zip}
use Rattle.lockfile.proofs.reader.all_linked.Goals as goal

pub returns : goal.returns
returns c =
    let pairs = YieldsList-from_zip
    (YieldsList-at c.zip.ensures.first (YieldsList-from_vec c.args.packages.items (search rules) (search rules)))
    (YieldsList-at c.zip.ensures.second (YieldsList-from_vec c.args.lists.items (search rules) (search rules))) in
    IfOk-weaker c.collect.result _ _ (λ v e. e ∙ linked-zip c.args.packages.items c.args.lists.items)
    (map_from_collect c.collect.result c.collect.ensures.ran (YieldsList-from_map_by _ package_view
    (λ (p : UnlinkedPackage × Vec ℕ Global). linked (unlinked_view p.0, p.1.items))
    (YieldsList-at c.map.ensures.source pairs) c.map.ensures.closure (λ x r q k. search rules)))
