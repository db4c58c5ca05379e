use Rattle.std.proofs.Common.{◌≡◌, ◌+◌, ◌-◌, ◌∷◌, ◌++◌, [], ◌∙◌, ap, get_or, arith}
use Rattle.std.specs.Simd.Lanes.{chunk}
use Rattle.version_sets.specs.inner.Forms.{all_words}
use Rattle.version_sets.proofs.Kept.{window_long}
use Rattle.version_sets.proofs.Spreads.{chunk_more}
use Rattle.version_sets.proofs.window.Window.between.Goals as goal

pub places-preserved : goal.places-preserved
places-preserved c =
    let w = c.args.self.now in
    let m = c.places.place - c.args.from in
    let here : c.places.place ≡ c.args.from + (c.places.place - c.args.from) = omega arith in
    let more : (c.places.place - c.args.from) + 1 ≡ c.places.place + 1 - c.args.from = omega arith in
    c.in_ok-push.ensures.items ∙ ap (λ xs. xs ++ c.at.result ∷ []) c.places.invariant
    ∙ chunk_more c.args.from m (all_words w) c.at.result (omega (arith, window_long w))
    (c.at.ensures ∙ ap (λ k. get_or (all_words w) k 0) here)
    ∙ ap (λ n. chunk c.args.from n (all_words w)) more
