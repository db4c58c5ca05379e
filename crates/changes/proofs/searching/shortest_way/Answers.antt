use Rattle.std.proofs.Common.{◌≡◌, ◌∙◌, Bool, List, Some, ap, option_map, subst, sym}
use Rattle.std.specs.List.{find}
use Rattle.semver.specs.Identifiers.{parts_of}
use Rattle.lockfile.specs.inner.Views.{package_views}
use Rattle.model.specs.Content.{Package}
use Rattle.changes.specs.inner.Searches.{AreLed, IsBehind, IsLed, is_end}
use Rattle.changes.specs.inner.Ways.{is_meant, is_own}
use Rattle.changes.specs.declared.searching.Visit.{Visit}
use Rattle.changes.proofs.Leading.{behind_from_led}
use Rattle.changes.proofs.Searched.{first_passes, found, none_found}
use Rattle.changes.proofs.searching.shortest_way.Goals as goal

pub way_to-requires-clause-end : goal.way_to-requires-clause-end
way_to-requires-clause-end c =
    let content = package_views c.args.packages.now in
    let begins : Package → Bool = is_own c.args.manifest.now in
    let ends : Package → Bool = is_meant c.args.name.now (option_map (λ v. parts_of v.now) c.args.version) in
    let visits = c.in_ok-visits.visits.items in
    let end = c.in-Some.end in
    let e : find (is_end content ends) visits ≡ Some end =
    ap (find (is_end content ends)) (sym c.deref.ensures.value) ∙ sym c.in-Some.ensures in
    let first = first_passes (is_end content ends) visits end e in
    subst (λ (vs : List Visit). IsBehind vs end.before end.depth) (sym c.deref-in-Some.ensures.value)
    (behind_from_led content begins visits end.place end.before end.depth
    (c.in_ok-visits.ensures.led first.0 end first.1))

pub returns-in-Some : goal.returns-in-Some
returns-in-Some c =
    let content = package_views c.args.packages.now in
    let begins : Package → Bool = is_own c.args.manifest.now in
    let ends : Package → Bool = is_meant c.args.name.now (option_map (λ v. parts_of v.now) c.args.version) in
    let visits = c.in_ok-visits.visits.items in
    let end = c.in-Some.end in
    let e : find (is_end content ends) visits ≡ Some end =
    ap (find (is_end content ends)) (sym c.deref.ensures.value) ∙ sym c.in-Some.ensures in
    let first = first_passes (is_end content ends) visits end e in
    let s = c.in_ok-visits.ensures in
    let there = sym c.deref-in-Some.ensures.value in
    let way = c.in_ok-way_to-in-Some.ensures.way content begins ends
    (subst (λ (vs : List Visit). AreLed content begins vs) there s.led)
    (subst (λ (vs : List Visit). IsLed content begins vs end.place end.before end.depth) there
    (s.led first.0 end first.1))
    first.2 in
    found content begins ends visits s end c.in_ok-way_to-in-Some.field-0.items e way
    c.in_ok-way_to-in-Some.ensures.length

pub returns : goal.returns
returns c =
    let content = package_views c.args.packages.now in
    let begins : Package → Bool = is_own c.args.manifest.now in
    let ends : Package → Bool = is_meant c.args.name.now (option_map (λ v. parts_of v.now) c.args.version) in
    none_found content begins ends c.in_ok-visits.visits.items c.in_ok-visits.ensures
    (ap (find (is_end content ends)) (sym c.deref.ensures.value) ∙ sym c.in-None.ensures)
