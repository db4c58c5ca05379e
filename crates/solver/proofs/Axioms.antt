-- How many entries are axioms, one entry more.
use Rattle.std.proofs.Common.{◌≡◌, ℕ, zero, suc, ◌+◌, ◌<◌, ◌≤◌, List, [], ◌∷◌, length, take, ap, ◌∙◌, arith}
use Rattle.incompatibilities.specs.inner.Counts.{axioms, given_in}
use Rattle.incompatibilities.specs.Stores.{EntryView, entry}
use Rattle.incompatibilities.specs.declared.origin.Origin.{Origin}
use Rattle.incompatibilities.specs.declared.origin.Origin.TheVariants.{Axiom, Learned}

axioms_more : (es : List EntryView) (n : ℕ) → n < length es
    → axioms (take (suc n) es) ≡ axioms (take n es) + given_in (entry es n).origin
axioms_more [] n lt = absurd (omega (arith, lt))
axioms_more (e ∷ es) zero lt = omega arith
axioms_more (e ∷ es) (suc n) lt = let rest = axioms_more es n (omega (arith, lt)) in omega (arith, rest)

given_le : (o : Origin) → given_in o ≤ 1
given_le (Axiom kind) = omega arith
given_le (Learned chain) = omega arith

-- no more axioms than entries so far
axioms_le : (es : List EntryView) (n : ℕ) → axioms (take n es) ≤ n
axioms_le es zero = omega arith
axioms_le [] (suc n) = omega arith
axioms_le (e ∷ es) (suc n) = let one = given_le e.origin in let rest = axioms_le es n in omega (arith, one, rest)

module _ (es : List EntryView) (n count more : ℕ) (o : Origin) (lt : n < length es) (is : count ≡ axioms (take n es))
    (at : o ≡ (entry es n).origin) (given : more ≡ given_in o) where
  pub counted : count + more ≡ axioms (take (n + 1) es)
  counted =
      let here : more ≡ given_in (entry es n).origin = given ∙ ap given_in at in
      let step = axioms_more es n lt in
      let after : suc n ≡ n + 1 = omega arith in
      let next : axioms (take (suc n) es) ≡ axioms (take (n + 1) es) = ap (λ k. axioms (take k es)) after in
      omega (arith, here, step, next, is)

  pub counted_le : count + more ≤ n + 1
  counted_le =
      let few = axioms_le es n in
      let one : more ≤ 1 = let le = given_le o in omega (arith, le, given) in
      omega (arith, few, one, is)
