-- Reading the index: each entry with a term at a vertex is there, beside its states.
use Rattle.std.proofs.Common.{◌≡◌, ℕ, zero, suc, ◌+◌, ◌<◌, Bool, true, false, cond}
use Rattle.std.proofs.Common.{List, [], ◌∷◌, length, get_or, Some, refl, sym, ap}
use Rattle.std.proofs.Common.{◌∙◌, subst, arith}
use Rattle.std.specs.Option.{is_some}
use Rattle.version_sets.specs.Sets.{Members}
use Rattle.incompatibilities.specs.inner.Indexed.{HaveStates}
use Rattle.incompatibilities.specs.Stores.{EntryView, entry, ids_at, ids_from, terms_of}
use Rattle.incompatibilities.specs.Stores.{touches}
use Rattle.propagation.proofs.Fronts.{ids_below}

-- the index: each entry with a term at the vertex is there
abbrev pub StandsIn : List ℕ → ℕ → Type 0
StandsIn xs id = (j : ℕ) × (j < length xs) × (get_or xs j 0 ≡ id)

in_first : (b : Bool) (n : ℕ) (xs : List ℕ) → b ≡ true → StandsIn (cond b (n ∷ xs) xs) n
in_first true n xs e = (0, omega arith, refl)
in_first false n xs e = absurd cc

in_rest : (b : Bool) (n id : ℕ) (xs : List ℕ) → StandsIn xs id → StandsIn (cond b (n ∷ xs) xs) id
in_rest true n id xs s = (suc s.0, (let lt = s.1 in omega (arith, lt)), s.2)
in_rest false n id xs s = s

from_all : (n v : ℕ) (es : List EntryView) (id : ℕ) → id < length es
    → touches v (entry es id).terms ≡ true → StandsIn (ids_from n v es) (n + id)
from_all n v [] id lt t = absurd (omega (arith, lt))
from_all n v (e ∷ es) zero lt t = let same : n ≡ n + 0 = omega arith in subst (StandsIn (ids_from n v (e ∷ es))) same
    (in_first (touches v e.terms) n (ids_from (suc n) v es) t)
from_all n v (e ∷ es) (suc id) lt t =
    let same : suc n + id ≡ n + suc id = omega arith in
    subst (StandsIn (ids_from n v (e ∷ es))) same (in_rest (touches v e.terms) n (suc n + id)
    (ids_from (suc n) v es) (from_all (suc n) v es id (omega (arith, lt)) t))

pub ids_all : (v : ℕ) (es : List EntryView) (id : ℕ) (x : Members) → id < length es
    → terms_of es id v ≡ Some x → StandsIn (ids_at v es) id
ids_all v es id x lt e = let same : 0 + id ≡ id = omega arith in subst (StandsIn (ids_at v es)) same
    (from_all 0 v es id lt (ap is_some e))

pub id_below : (v : ℕ) (es : List EntryView) (on : List ℕ) (j id : ℕ) → on ≡ ids_at v es → j < length on
    → id ≡ get_or on j 0 → id < length es
id_below v es on j id is lt here = subst (λ n. n < length es) (sym (here ∙ ap (λ xs. get_or xs j 0) is))
    (ids_below v es j (subst (λ xs. j < length xs) is lt))

-- a row and the states beside it
pub read_any : (xs : List ℕ) (j d e : ℕ) → j < length xs → get_or xs j d ≡ get_or xs j e
read_any [] j d e lt = absurd (omega (arith, lt))
read_any (x ∷ xs) zero d e lt = refl
read_any (x ∷ xs) (suc j) d e lt = read_any xs j d e (omega (arith, lt))

pub states_long : {S : Type 0} (tests : S → Members) (es : List EntryView) (v : ℕ) (ids : List ℕ) (ss : List S)
    → HaveStates tests es v ids ss → length ids ≡ length ss
states_long tests es v [] [] h = refl
states_long tests es v [] (s ∷ ss) h = absurd h
states_long tests es v (id ∷ ids) [] h = absurd h
states_long tests es v (id ∷ ids) (s ∷ ss) h = omega (arith, states_long tests es v ids ss h.1)

pub states_read : {S : Type 0} (tests : S → Members) (es : List EntryView) (v : ℕ) (ids : List ℕ) (ss : List S) (j : ℕ)
    (id : ℕ) (s : S) → HaveStates tests es v ids ss → j < length ids → id ≡ get_or ids j 0 → s ≡ get_or ss j s
    → terms_of es id v ≡ Some (tests s)
states_read tests es v [] ss j id s h lt here is = absurd (omega (arith, lt))
states_read tests es v (i ∷ ids) [] j id s h lt here is = absurd h
states_read {S} tests es v (i ∷ ids) (t ∷ ss) zero id s h lt here is =
    ap (λ k. terms_of es k v) here ∙ h.0 ∙ ap (λ (x : S). Some (tests x)) (sym is)
states_read tests es v (i ∷ ids) (t ∷ ss) (suc j) id s h lt here is =
    states_read tests es v ids ss j id s h.1 (omega (arith, lt)) here is
