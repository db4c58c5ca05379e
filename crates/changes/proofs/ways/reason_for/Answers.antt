use Rattle.std.proofs.Common.{rules, ◌≡◌, ℕ, Bool, true, None, Option, Vec, option_map, subst}
use Rattle.std.specs.List.{list_any}
use Rattle.std.specs.declared.alloc.Global.{Global}
use Rattle.semver.specs.Identifiers.{parts_of}
use Rattle.lockfile.specs.inner.Views.{package_views}
use Rattle.model.specs.Content.{Package}
use Rattle.changes.specs.inner.Ways.{HasNoWay, IsFound, is_meant, is_own}
use Rattle.changes.proofs.ways.reason_for.Goals as goal

pub returns-in-None : goal.returns-in-None
returns-in-None c =
    let begins : Package → Bool = is_own c.args.manifest.now in
    let ends : Package → Bool = is_meant c.args.name.now (option_map (λ v. parts_of v.now) c.args.version) in
    let meant : list_any ends c.args.content.now ≡ true = search rules in
    let none : c.in_ok-places.field-0 ≡ None = search rules in
    let no_way : HasNoWay (package_views c.packages-packages.result.now) begins ends
    = subst (λ (o : Option (Vec ℕ Global)). IsFound (package_views c.packages-packages.result.now) begins ends
    (option_map (λ v. v.items) o)) none c.in_ok-places.ensures in
    (meant, subst (λ cs. HasNoWay cs begins ends) c.packages-packages.ensures.views no_way)
