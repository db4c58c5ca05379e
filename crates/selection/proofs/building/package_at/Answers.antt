use Rattle.std.proofs.Common.{◌≡◌, ◌-◌, [], IfOk, option_map, sym, ap, subst}
use Rattle.catalogue.specs.Problems.{problem_in}
use Rattle.lockfile.specs.inner.Views.{package_view}
use Rattle.model.specs.inner.ContentOf.{package_of}
use Rattle.selection.proofs.MetVersions.{got_item, owner_at_met, no_owner}
use Rattle.selection.proofs.RankLists.{no_item}
use Rattle.selection.proofs.building.package_at.Goals as goal

pub returns-in-Some : goal.returns-in-Some
returns-in-Some c =
    let q = problem_in c.args.manifest.now c.args.catalogue.now in
    let versions = c.args.versions.now in
    let at = owner_at_met c.args.catalogue.now versions c.args.place c.in-Some.met.now c.if-place-eq0.false
    (got_item versions (c.args.place - 1) c.get.result c.in-Some.met c.get.ensures.lookup c.in-Some.is) in
    subst (λ o. IfOk c.met_package.result (λ p. option_map package_view p ≡ option_map (λ n. package_of q n []) o))
    (sym at) c.met_package.ensures

pub returns-in-None : goal.returns-in-None
returns-in-None c =
    let q = problem_in c.args.manifest.now c.args.catalogue.now in
    let versions = c.args.versions.now in
    sym (ap (option_map (λ n. package_of q n []))
    (no_owner c.args.catalogue.now versions c.args.place c.if-place-eq0.false
    (no_item versions (c.args.place - 1) c.get.result c.get.ensures.lookup c.in-None.is)))
