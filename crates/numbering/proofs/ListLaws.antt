-- A value that is put behind those of its key is there, and no other key has it.
use Rattle.std.proofs.Common.{◌≡◌, ℕ, List, [], ◌∷◌, ◌++◌, Bool, true, false, cond, Option, Some, None, Vec, map, refl}
use Rattle.std.proofs.Common.{Result, Ok, Err, sym, ap, ◌∙◌, unwrap_or}
use Rattle.std.specs.Prelude.{OnOk}
use Rattle.std.specs.Borrow.{Bor}
use Rattle.std.specs.HashMap.{HashMap, get}
use Rattle.std.specs.Map.{lookup}
use Rattle.std.specs.declared.alloc.Global.{Global}
use Rattle.std.proofs.lemmas.List.{append-nil, map-append}
use Rattle.model.specs.Summary.{same_text}
use Rattle.model.proofs.Same.{text-same}
use Rattle.numbering.specs.inner.Lists.{Puts, if_some, listed_in, same_name}

pub some_or : {T : Type 0} (o : Option (Vec T Global)) (none : Vec T Global) → none.items ≡ []
    → if_some o ≡ (unwrap_or o none).items
some_or None none empty = sym empty
some_or (Some values) none empty = refl

-- a map with the list w at the key k, where equal keys find the same: w is what was there, or else an empty list, with
-- one value more
module _ {K T S : Type 0} (same : K → K → Bool) (m new : HashMap K (Vec T Global) S) (k : K) (value : T)
    (w : Vec T Global) (alike : (x : K) → same k x ≡ true → get same m k ≡ get same m x)
    (is : (x : K) → get same new x ≡ cond (same k x) (Some w) (get same m x)) where
  pub pushed : {found : Option (Vec T Global)} (before none : Vec T Global) → found ≡ get same m k
      → before ≡ unwrap_or found none → none.items ≡ [] → w.items ≡ before.items ++ value ∷ []
      → (x : K) → if_some (get same new x) ≡ if_some (get same m x) ++ cond (same k x) (value ∷ []) []
  pushed before none had or empty more x = ap if_some (is x) ∙ by (same k x) refl
    where
      by : (b : Bool) → same k x ≡ b
          → if_some (cond b (Some w) (get same m x)) ≡ if_some (get same m x) ++ cond b (value ∷ []) []
      by true e = more ∙ ap (λ l. l ++ value ∷ []) (ap (λ v. v.items) (or ∙ ap (λ o. unwrap_or o none) had)
          ∙ sym (some_or (get same m k) none empty) ∙ ap if_some (alike x e))
      by false e = sym (append-nil (if_some (get same m x)))

-- equal texts find the same
pub same_at : {T S : Type 0} (m : HashMap (Bor (List ℕ)) (Vec T Global) S) (text x : Bor (List ℕ))
    → same_name text x ≡ true → get same_name m text ≡ get same_name m x
same_at m text x e = ap (λ n. lookup (λ (k : Bor (List ℕ)). same_text n k.now) m.entries) (text-same text.now x.now e)

-- what is put, of what the values stand for
pub put_views : {T X S : Type 0} (view : T → X) (m new : HashMap (Bor (List ℕ)) (Vec T Global) S) (text : Bor (List ℕ))
    (value : T) → Puts m text value new
    → (x : Bor (List ℕ))
    → map view (listed_in new x) ≡ map view (listed_in m x) ++ cond (same_text text.now x.now) (view value ∷ []) []
put_views view m new text value put x =
    ap (map view) (put x) ∙ map-append view (listed_in m x) (cond (same_text text.now x.now) (value ∷ []) [])
    ∙ ap (λ l. map view (listed_in m x) ++ l) (by (same_text text.now x.now))
  where
    by : (b : Bool) → map view (cond b (value ∷ []) []) ≡ cond b (view value ∷ []) []
    by true = refl
    by false = refl

-- what holds anyway
pub on_ok_always : {A E P : Type 0} (r : Result A E) → P → OnOk r P
on_ok_always (Ok a) p = p
on_ok_always (Err e) p = tt
