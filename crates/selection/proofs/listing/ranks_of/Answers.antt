use Rattle.std.proofs.Common.{◌<◌, ◌∙◌, Some, sym, ap, arith}
use Rattle.std.proofs.lemmas.List.{length-map}
use Rattle.std.proofs.lemmas.Option.{slice_get-get_or}
use Rattle.model.proofs.Lists.{all_get}
use Rattle.model.proofs.Places.{map_at}
use Rattle.selection.specs.inner.Contents.{placed_view, placed_views, places_in}
use Rattle.selection.proofs.RankLists.{one_rank, ranks_are}
use Rattle.selection.proofs.listing.ranks_of.Goals as goal

pub index_mut-requires : goal.index_mut-requires
index_mut-requires c =
    let ks = c.args.kept.now in
    let k = c.index-kept-rank.result in
    let at = map_at (λ k. k.1) (placed_views ks) c.kept.rank (placed_view k) (map_at placed_view ks c.kept.rank k
    (slice_get-get_or ks c.kept.rank k c.kept-test.true ∙ ap Some (sym c.index-kept-rank.is))) in
    let below =
    all_get (λ n. n < c.args.count) (places_in (placed_views ks)) c.kept.rank k.place c.requires.within at in
    let many = c.kept.invariant.many in
    omega (arith, below, many)

pub kept-preserved : goal.kept-preserved
kept-preserved c =
    let ks = c.args.kept.now in
    let k = c.index-kept-rank.result in
    let at = map_at (λ k. k.1) (placed_views ks) c.kept.rank (placed_view k) (map_at placed_view ks c.kept.rank k
    (slice_get-get_or ks c.kept.rank k c.kept-test.true ∙ ap Some (sym c.index-kept-rank.is))) in
    let below =
    all_get (λ n. n < c.args.count) (places_in (placed_views ks)) c.kept.rank k.place c.requires.within at in
    one_rank (places_in (placed_views ks)) c.args.count c.kept.rank k.place c.kept.ranks.items c.requires.apart
    at below c.kept.invariant

pub returns : goal.returns
returns c =
    let test = c.kept-test.false in
    ranks_are (places_in (placed_views c.args.kept.now)) c.args.count c.kept.rank c.kept.ranks.items c.kept.invariant
    (rw (length-map, length-map) (omega (arith, test)))
