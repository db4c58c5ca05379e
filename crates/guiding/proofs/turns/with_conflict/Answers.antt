use Rattle.std.proofs.Common.{◌≡◌, ◌+◌, ◌<◌, add-one, ap, arith, length, sym, take, ◌∙◌}
use Rattle.incompatibilities.specs.Stores.{entries_view, entry}
use Rattle.incompatibilities.specs.inner.Counts.{combinations, links_in}
use Rattle.guiding.proofs.Counts.{counted_more, one_further}
use Rattle.guiding.proofs.turns.with_conflict.Goals as goal

pub gained-preserved : goal.gained-preserved
gained-preserved g c =
    let es = entries_view g.S.States.tests c.args.store.now in
    let place = c.gained.place in
    let was = c.gained.invariant in
    let more = c.with_more-count-in-gained.ensures in
    let within : place < length es = omega (arith, c.gained-test.true, c.len-place-end.ensures) in
    let links : c.links_in.result ≡ links_in (entry es place).origin =
    c.links_in.ensures ∙ ap links_in (c.origin.ensures.value ∙ ap (λ k. (entry es k).origin) c.new.ensures) in
    let next : combinations (take (place + 1) es) ≡ combinations (take place es) + c.links_in.result =
    ap (λ k. combinations (take k es)) (add-one place) ∙ one_further es place within
    ∙ ap (λ k. combinations (take place es) + k) (sym links) in
    record {
      counted = counted_more (combinations (take place es)) (combinations (take (place + 1) es)) c.args.steps
          c.gained.count c.with_more-count-in-gained.result c.links_in.result (combinations (take c.args.from es)) next
          was.counted more.counted more.more;
      more = omega (arith, was.more, more.more);
    }
