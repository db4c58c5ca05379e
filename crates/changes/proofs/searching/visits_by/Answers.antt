use Rattle.std.proofs.Common.{rules, ◌≡◌, ◌<◌, ◌∙◌, Bool, false, [], Some, length, replicate, slice_get, ap}
use Rattle.std.proofs.Common.{subst, sym, arith}
use Rattle.std.specs.List.{All}
use Rattle.std.proofs.lemmas.List.{length-map, length-replicate}
use Rattle.lockfile.specs.inner.Views.{package_view, package_views}
use Rattle.model.specs.Content.{Package, list_if}
use Rattle.changes.specs.inner.Searches.{places_below}
use Rattle.changes.specs.inner.Ways.{is_own}
use Rattle.changes.proofs.Searched.{begun_by, list_within, roots_within, searched, stepped_by}
use Rattle.changes.proofs.searching.visits_by.Goals as goal

pub visit_all-requires : goal.visit_all-requires
visit_all-requires c =
    let content = package_views c.args.packages.now in
    let begins : Package → Bool = is_own c.args.manifest.now in
    let same : length content ≡ length c.args.packages.now = length-map c.args.packages.now package_view in
    let are : c.deref.result.now ≡ places_below content begins (length content)
    = c.deref.ensures.value ∙ c.in_ok-roots.ensures ∙ ap (places_below content begins) (sym same) in
    let long : length c.args.seen.now ≡ length content
    = ap length c.requires.seen ∙ length-replicate (length c.args.packages.now) false ∙ sym same in
    record {
      within = subst (λ n. All (λ i. i < n) c.deref.result.now) (sym long)
          (roots_within content begins c.deref.result.now are);
    }

pub visits-init : goal.visits-init
visits-init c =
    let content = package_views c.args.packages.now in
    let begins : Package → Bool = is_own c.args.manifest.now in
    let same : length content ≡ length c.args.packages.now = length-map c.args.packages.now package_view in
    let are : c.deref.result.now ≡ places_below content begins (length content)
    = c.deref.ensures.value ∙ c.in_ok-roots.ensures ∙ ap (places_below content begins) (sym same) in
    let unseen : c.args.seen.now ≡ replicate (length content) false
    = c.requires.seen ∙ ap (λ n. replicate n false) (sym same) in
    let none : c.new-visits.result.items ≡ [] = search rules in
    let b = begun_by content begins c.args.seen.now c.visit_all.new.seen c.new-visits.result.items
    c.visit_all.new.visits.items c.deref.result.now unseen none are c.in_ok-visit_all.ensures.seen
    c.in_ok-visit_all.ensures.visits in
    record { searching = b.0; begun = b.1 }

pub visit_all-requires-in-visits : goal.visit_all-requires-in-visits
visit_all-requires-in-visits c =
    let content = package_views c.args.packages.now in
    let long : length c.visits.seen ≡ length content = c.visits.invariant.searching.size in
    record {
      within = subst (λ js. All (λ j. j < length c.visits.seen) js) (sym c.list_at.ensures)
          (subst (λ n. All (λ j. j < n) (list_if (slice_get content c.visit_at-place.result.place))) (sym long)
          (list_within (length content) content c.requires.content.within c.visit_at-place.result.place));
    }

pub visits-preserved : goal.visits-preserved
visits-preserved c =
    let content = package_views c.args.packages.now in
    let begins : Package → Bool = is_own c.args.manifest.now in
    let v = c.visit_at-place.result in
    let at : slice_get c.visits.visits.items c.visits.next ≡ Some v
    = ap (λ vs. slice_get vs c.visits.next) (sym c.deref-in-visits.ensures.value) ∙ c.visit_at-place.ensures in
    let s = stepped_by content begins c.visits.next c.visits.seen c.visit_all-in-visits.new.seen c.visits.visits.items
    c.visit_all-in-visits.new.visits.items v c.list_at.result.now c.requires.content c.visits.invariant.searching
    c.visits.invariant.begun at c.list_at.ensures c.in_ok-visit_all-2.ensures.seen c.in_ok-visit_all-2.ensures.visits in
    record { searching = s.0; begun = s.1 }

pub returns : goal.returns
returns c = searched (package_views c.args.packages.now) (is_own c.args.manifest.now) c.visits.next c.visits.seen
    c.visits.visits.items c.visits.invariant.searching c.visits.invariant.begun (omega (arith, c.visits-test.false))
