-- How many combinations the chains of a store have, as it gains entries.
use Rattle.std.proofs.Common.{◌≡◌, ℕ, zero, suc, ◌+◌, ◌<◌, ◌≤◌, ◌⊎◌, List, [], ◌∷◌, ◌++◌, length, take}
use Rattle.std.proofs.Common.{refl, ap, ◌∙◌, arith, inl, inr}
use Rattle.std.proofs.lemmas.List.{take-append-le}
use Rattle.incompatibilities.specs.Stores.{EntryView, IsAxiom, entry}
use Rattle.incompatibilities.specs.declared.origin.Origin.{Origin}
use Rattle.incompatibilities.specs.declared.origin.Origin.TheVariants.{Axiom, Learned}
use Rattle.propagation.specs.Promises.{most}
use Rattle.guiding.specs.inner.Counting.{CountsOn, HasCounted}
use Rattle.incompatibilities.specs.inner.Counts.{combinations, links_in}

pub combinations_append : (xs ys : List EntryView) → combinations (xs ++ ys) ≡ combinations xs + combinations ys
combinations_append [] ys = omega arith
combinations_append (x ∷ xs) ys = omega (arith, combinations_append xs ys)

axiom_is : (o : Origin) → IsAxiom o → links_in o ≡ 0
axiom_is (Axiom kind) given = refl
axiom_is (Learned chain) given = absurd given

pub no_combinations : (xs : List EntryView)
    → ((i : ℕ) → i < length xs → IsAxiom (entry xs i).origin) → combinations xs ≡ 0
no_combinations [] given = refl
no_combinations (x ∷ xs) given = omega (
  arith,
  axiom_is x.origin (given zero (omega arith)),
  no_combinations xs (λ i lt. given (suc i) (omega (arith, lt))),
)

-- axioms are gained
pub counts_axioms : (old new gained : List EntryView) → new ≡ old ++ gained
    → ((i : ℕ) → i < length gained → IsAxiom (entry gained i).origin) → (steps : ℕ) → CountsOn old steps new steps
counts_axioms old new gained grown given steps n (inl le) =
    inl (omega (arith, le, ap combinations grown, combinations_append old gained, no_combinations gained given))
counts_axioms old new gained grown given steps n (inr all) = inr all

-- more steps count what fewer do
pub counted_up : (some n steps more : ℕ) → HasCounted some n steps → steps ≤ more → HasCounted some n more
counted_up some n steps more (inl le) up = inl (omega (arith, le, up))
counted_up some n steps more (inr all) up = inr (omega (arith, all, up))

-- ---- counted one by one

pub one_further : (es : List EntryView) (k : ℕ) → k < length es
    → combinations (take (suc k) es) ≡ combinations (take k es) + links_in (entry es k).origin
one_further [] k lt = absurd (omega (arith, lt))
one_further (e ∷ es) zero lt = omega arith
one_further (e ∷ es) (suc k) lt = omega (arith, one_further es k (omega (arith, lt)))

take_all : (es : List EntryView) → take (length es) es ≡ es
take_all [] = refl
take_all (e ∷ es) = ap (λ (xs : List EntryView). e ∷ xs) (take_all es)

-- some more are counted
pub counted_more : (a b steps count more links base : ℕ) → b ≡ a + links
    → (a + steps ≤ count + base) ⊎ (most ≤ count) → (count + links ≤ more) ⊎ (most ≤ more) → count ≤ more
    → (b + steps ≤ more + base) ⊎ (most ≤ more)
counted_more a b steps count more links base is (inl le) (inl fits) up = inl (omega (arith, is, le, fits))
counted_more a b steps count more links base is (inl le) (inr all) up = inr all
counted_more a b steps count more links base is (inr all) fits up = inr (omega (arith, all, up))

-- learned entries are gained, and the steps count their combinations
pub counts_gained : (old new gained : List EntryView) (steps after from : ℕ) → new ≡ old ++ gained → from ≡ length old
    → (combinations new + steps ≤ after + combinations (take from new)) ⊎ (most ≤ after) → steps ≤ after
    → CountsOn old steps new after
counts_gained old new gained steps after from grown is (inr all) up n le = inr all
counts_gained old new gained steps after from grown is (inl more) up n (inr all) = inr (omega (arith, all, up))
counts_gained old new gained steps after from grown is (inl more) up n (inl le) = inl (omega (arith, more, le, front))
  where
    front : combinations (take from new) ≡ combinations old
    front = ap combinations (ap (take from) grown ∙ take-append-le from old gained (omega (arith, is))
        ∙ ap (λ k. take k old) is ∙ take_all old)
