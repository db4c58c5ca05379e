-- A set's values, where places without one are passed over.
use Rattle.std.proofs.Common.{◌≡◌, ℕ, zero, suc, ◌+◌, ◌-◌, ◌≤◌, List, [], ◌∷◌, ◌++◌, drop, length, replicate, true}
use Rattle.std.proofs.Common.{false, not}
use Rattle.std.proofs.Common.{refl, sym, ap, true≢false, ◌∙◌, arith}
use Rattle.std.proofs.lemmas.Bool.{not-true}
use Rattle.version_sets.specs.Sets.{Members, between, meets}
use Rattle.solver.specs.inner.Decoding.{states_in, IsChosenTo}

-- a set without numbers below a place has the values from there on alone
none_below : {X : Type 0} (xs : List X) (m : Members) (k to : ℕ) → length xs ≡ length m
    → meets m (replicate to true ++ replicate k false) ≡ false → states_in (drop to xs) (drop to m) ≡ states_in xs m
none_below xs m k zero e h = refl
none_below [] [] k (suc to) e h = refl
none_below [] (b ∷ m) k (suc to) e h = absurd (omega (arith, e))
none_below (x ∷ xs) [] k (suc to) e h = absurd (omega (arith, e))
none_below (x ∷ xs) (false ∷ m) k (suc to) e h = none_below xs m k to (omega (arith, e)) h
none_below (x ∷ xs) (true ∷ m) k (suc to) e h = absurd (true≢false h)

-- a set without numbers from one place on and below another
none_between : {X : Type 0} (xs : List X) (m : Members) (from width k to : ℕ) → length xs ≡ length m → to ≡ from + width
    → meets m (replicate from false ++ (replicate width true ++ replicate k false)) ≡ false
    → states_in (drop to xs) (drop to m) ≡ states_in (drop from xs) (drop from m)
none_between xs m zero width k to e is h =
    ap (λ t. states_in (drop t xs) (drop t m)) (omega (arith, is)) ∙ none_below xs m k width e h
none_between xs m (suc from) width k zero e is h = absurd (omega (arith, is))
none_between [] [] (suc from) width k (suc to) e is h = refl
none_between [] (b ∷ m) (suc from) width k (suc to) e is h = absurd (omega (arith, e))
none_between (x ∷ xs) [] (suc from) width k (suc to) e is h = absurd (omega (arith, e))
none_between (x ∷ xs) (false ∷ m) (suc from) width k (suc to) e is h =
    none_between xs m from width k to (omega (arith, e)) (omega (arith, is)) h
none_between (x ∷ xs) (true ∷ m) (suc from) width k (suc to) e is h =
    none_between xs m from width k to (omega (arith, e)) (omega (arith, is)) h

-- so what was made before is all of it there too
pub skipped : {X : Type 0} (xs : List X) (m part : Members) (n from to : ℕ) (made : List X) → length xs ≡ length m
    → from ≤ to → part ≡ between n from to → not (meets m part) ≡ true → IsChosenTo xs m from made
    → IsChosenTo xs m to made
skipped xs m part n from to made e le is apart before = ap (λ ys. made ++ ys)
    (none_between xs m from (to - from) (n - to) to e (omega (arith, le))
    (ap (meets m) (sym is) ∙ not-true (meets m part) apart)) ∙ before
