use Rattle.std.proofs.Common.{◌∙◌, rules, ap}
use Rattle.std.proofs.lemmas.Fn.{always_returns_same}
use Rattle.semver.specs.Identifiers.{parts_of}
use Rattle.model.specs.Candidates.{is_locked}
use Rattle.model.specs.Order.{package_cmp}
use Rattle.lockfile.specs.inner.Views.{package_view}
use Rattle.catalogue.proofs.Alike.{wanted, search_locks}
use Rattle.catalogue.proofs.old_lock.is_locked_in.Goals as goal

pub returns : goal.returns
returns c =
    let r = wanted c.args.name.now (parts_of c.args.version.now) c.args.source.now in
    let searched = c.binary_search_by.ensures.position
    (λ p. package_cmp (package_view p) r) (always_returns_same _ _ _ (λ a r g called. search rules)) in
    let content = rw (← c.packages-packages.ensures.views) at c.packages-packages.ensures.content in
    c.is_ok.ensures.value
    ∙ search_locks c.packages-packages.result.now c.args.source.now c.args.name.now (parts_of c.args.version.now)
    c.binary_search_by.result c.requires content.in_order c.binary_search_by.ensures.bound searched
    ∙ ap (λ ps.
    is_locked ps c.args.source.now c.args.name.now (parts_of c.args.version.now)) c.packages-packages.ensures.views
