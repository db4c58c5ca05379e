use Rattle.std.proofs.Common.{◌≡◌, ℕ, ◌+◌, ◌-◌, ◌∷◌, ◌++◌, [], ◌∙◌, ap, ap₂, map, sym, arith}
use Rattle.std.proofs.lemmas.List.FromFn.{map-range_with_len_more}
use Rattle.std.specs.List.{range_with_len}
use Rattle.version_sets.specs.inner.Windows.{full_word}
use Rattle.version_sets.specs.inner.Words.{and_not}
use Rattle.version_sets.proofs.windows.range_words.Goals as goal

pub places-preserved : goal.places-preserved
places-preserved c =
    let word = λ (k : ℕ). and_not (full_word c.args.to k) (full_word c.args.from k) in
    let more : (c.places.place - c.args.first) + 1 ≡ c.places.place + 1 - c.args.first = omega arith in
    c.in_ok-push.ensures.items ∙ ap₂ (λ xs x. xs ++ x ∷ []) c.places.invariant c.range_word.ensures
    ∙ sym (map-range_with_len_more word c.args.first (c.places.place - c.args.first) c.places.place (omega arith))
    ∙ ap (λ m. map word (range_with_len c.args.first m)) more
