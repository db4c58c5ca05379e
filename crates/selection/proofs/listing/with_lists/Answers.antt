use Rattle.std.proofs.Common.{◌≡◌, ◌+◌, ◌++◌, ◌∷◌, [], length, map, refl, sym, ap, ◌∙◌, subst, arith}
use Rattle.std.proofs.lemmas.List.{append_assoc, map-append}
use Rattle.std.specs.Vec.Iter.{into_iter_items, into_iter_len}
use Rattle.facts.specs.inner.Graphs.{node_views}
use Rattle.lockfile.specs.inner.Views.{package_view, package_views}
use Rattle.selection.specs.inner.Contents.{HaveLists, IsListed, IsWithList, flags_at, placed_view, placed_views}
use Rattle.selection.specs.inner.Contents.{targets_at}
use Rattle.selection.proofs.RankLists.{beside_more}
use Rattle.selection.proofs.listing.with_lists.Goals as goal

pub kept-preserved : goal.kept-preserved
kept-preserved c =
    let nodes = node_views c.args.nodes.now in
    let enabled = map (λ v. v.items) c.args.enabled.now in
    let here : into_iter_items c.kept.kept-iterator ≡ c.in-Some.kept ∷ into_iter_items c.next.new.self =
    c.in-Some.ensures.steps.0 in
    let left : into_iter_len c.next.new.self + 1 ≡ into_iter_len c.kept.kept-iterator = c.in-Some.ensures.steps.1 in
    let count = ap length here in
    let counted = c.kept.invariant.counted in
    let told = c.kept.invariant.told in
    let k = placed_view c.in-Some.kept in
    record {
      can = tt;
      finite = tt;
      counted = omega (arith, counted, count, left);
      told = (
        told.0 ++ k ∷ [],
        append_assoc told.0 (k ∷ []) (placed_views (into_iter_items c.next.new.self))
            ∙ ap (λ ks. told.0 ++ placed_views ks) (sym here) ∙ told.1,
        subst (HaveLists nodes enabled c.args.ranks.now (told.0 ++ k ∷ []))
            (sym (ap package_views c.in_ok-push.ensures.items ∙ map-append package_view c.kept.packages.items (_ ∷ [])))
            (beside_more (λ k p. IsWithList (λ n r. IsListed (targets_at nodes n) (flags_at enabled n) c.args.ranks.now
            r) k p) told.0 (package_views c.kept.packages.items) k _ told.2
            (record { head = refl; rising = c.in_ok-locked.ensures.rising; members = c.in_ok-locked.ensures.members })),
      );
    }
