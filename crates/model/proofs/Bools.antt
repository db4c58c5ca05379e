-- Tests over lists: when each element passes, and which is the first.
use Rattle.std.proofs.Common.{◌≡◌, ℕ, zero, suc, List, [], ◌∷◌, filter, Bool, true, false, cond, ◌||◌, Contains, Some}
use Rattle.std.proofs.Common.{option_map, slice_get, refl, sym, ap, ◌∙◌, true≢false}
use Rattle.std.specs.List.{list_all, list_any, find}
use Rattle.std.proofs.lemmas.Bool.{and_from, or_parts}
use Rattle.std.proofs.lemmas.Option.{none-some, same_Some}
use Rattle.model.proofs.Lists.{in_first, in_rest}
use Rattle.model.specs.inner.Instances.{first_place}

-- a test that each element passes
pub all_pass : {X : Type 0} (p : X → Bool) (xs : List X) → ((x : X) → Contains xs x → p x ≡ true) → list_all p xs ≡ true
all_pass p [] h = refl
all_pass p (x ∷ xs) h =
    and_from (p x) (list_all p xs) (h x (in_first x xs)) (all_pass p xs (λ y c. h y (in_rest x y xs c)))

-- a list of which no element passes has nothing left
pub filter-none : {X : Type 0} (p : X → Bool) (xs : List X) → list_any p xs ≡ false → filter p xs ≡ []
filter-none p [] h = refl
filter-none p (x ∷ xs) h = let e =
    or_parts (p x) (list_any p xs) h in ap (λ b. cond b (x ∷ filter p xs) (filter p xs)) e.0 ∙ filter-none p xs e.1

-- where some element passes the first one is found
pub find-there : {X : Type 0} (p : X → Bool) (xs : List X) → list_any p xs ≡ true
    → (x : X) × (find p xs ≡ Some x) × Contains xs x × (p x ≡ true)
find-there {X = X} p [] h = absurd (true≢false (sym h))
find-there {X = X} p (x ∷ xs) h = by (λ h. find-there p xs h) (p x) refl h
  where
    by : (list_any p xs ≡ true → (y : X) × (find p xs ≡ Some y) × Contains xs y × (p y ≡ true)) → (b : Bool) → p x ≡ b
        → (b || list_any p xs) ≡ true
        → (y : X) × (cond b (Some x) (find p xs) ≡ Some y) × Contains (x ∷ xs) y × (p y ≡ true)
    by rest true e h = (x, refl, in_first x xs, e)
    by rest false e h = let r = rest h in (r.0, r.1, in_rest x r.0 xs r.2, r.3)

pub place-there : {X : Type 0} (p : X → Bool) (xs : List X) (i : ℕ) (x : X) → slice_get xs i ≡ Some x → p x ≡ true
    → (j : ℕ) × (y : X) × (first_place p xs ≡ Some j) × (slice_get xs j ≡ Some y) × (p y ≡ true)
place-there {X = X} p [] i x e h = absurd (none-some x e)
place-there {X = X} p (z ∷ xs) i x e h = by (λ k e. place-there p xs k x e h) i e (p z) refl
  where
    by : ((k : ℕ) → slice_get xs k ≡ Some x → (j : ℕ) × (y : X) × (first_place p xs ≡ Some j)
        × (slice_get xs j ≡ Some y) × (p y ≡ true)) → (i : ℕ) → slice_get (z ∷ xs) i ≡ Some x
        → (b : Bool) → p z ≡ b → (j : ℕ) × (y : X) × (cond b (Some 0) (option_map suc (first_place p xs)) ≡ Some j)
        × (slice_get (z ∷ xs) j ≡ Some y) × (p y ≡ true)
    by rest i e true f = (0, z, refl, refl, f)
    by rest zero e false f = absurd (true≢false (sym h ∙ ap p (sym (same_Some z x e)) ∙ f))
    by rest (suc k) e false f = let r = rest k e in (suc r.0, r.1, ap (option_map suc) r.2, r.3, r.4)
