-- Numbers in a row.
use Rattle.std.proofs.Common.{◌≡◌, ◌∙◌, ◌+◌, ℕ, ◌<◌, Contains, subst, sym, arith}
use Rattle.std.specs.List.{range_with_len}
use Rattle.std.proofs.lemmas.List.FromFn.{length-range_with_len, get_or-range_with_len}

-- each number below n is in the row
pub in_range : (n i : ℕ) → i < n → Contains (range_with_len 0 n) i
in_range n i lt = (
  i,
  subst (λ k. i < k) (sym (length-range_with_len 0 n)) lt,
  get_or-range_with_len 0 n i i lt ∙ (let e : 0 + i ≡ i = omega arith in e),
)
