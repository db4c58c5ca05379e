-- Lists that are read one after another, behind a front that was read before.
use Rattle.std.proofs.Common.{◌≡◌, List, [], ◌∷◌, ◌++◌, map, append_assoc, Result, Ok, Err, ap, ◌∙◌}
use Rattle.std.proofs.lemmas.List.{map-append}
use Rattle.model.specs.Outcome.{◌>>=◌}

-- what is read, behind a front that was read before
abbrev pub with_front : {F A : Type 0} → List A → Result (List A) F → Result (List A) F
with_front front read = read >>= λ rest. Ok (front ++ rest)

-- one more is read behind that front
pub with_front-next : {F A : Type 0} (front : List A) (x : A) (rest all : Result (List A) F)
    → with_front front (rest >>= λ others. Ok (x ∷ others)) ≡ all → with_front (front ++ x ∷ []) rest ≡ all
with_front-next front x (Ok others) all told = ap Ok (append_assoc front (x ∷ []) others) ∙ told
with_front-next front x (Err e) all told = told

-- one more element behind the front, which the step that read it tells
pub pushed : {F X A : Type 0} (view : X → A) (xs ys : List X) (x : X) (first : Result A F)
    (rest whole : Result (List A) F)
    → ys ≡ xs ++ x ∷ [] → first ≡ Ok (view x)
    → with_front (map view xs) (first >>= λ a. rest >>= λ others. Ok (a ∷ others)) ≡ whole
    → with_front (map view ys) rest ≡ whole
pushed view xs ys x first (Err e) whole more read told = rw read at told
pushed view xs ys x first (Ok others) whole more read told =
    rw more (ap Ok (ap (λ l. l ++ others) (map-append view xs (x ∷ []))
    ∙ append_assoc (map view xs) (view x ∷ []) others) ∙ rw read at told)

-- more elements behind the front, which the step that read them tells
pub appended : {F X A : Type 0} (view : X → A) (xs more ys : List X) (first : Result (List A) F)
    (rest whole : Result (List A) F)
    → ys ≡ xs ++ more → first ≡ Ok (map view more)
    → with_front (map view xs) (first >>= λ front. rest >>= λ others. Ok (front ++ others)) ≡ whole
    → with_front (map view ys) rest ≡ whole
appended view xs more ys first (Err e) whole joined read told = rw read at told
appended view xs more ys first (Ok others) whole joined read told =
    rw joined (ap Ok (ap (λ l. l ++ others) (map-append view xs more)
    ∙ append_assoc (map view xs) (map view more) others) ∙ rw read at told)
