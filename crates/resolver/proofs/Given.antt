-- What holds of whatever a chain of steps gives, if it gives anything.
use Rattle.std.proofs.Common.{◌≡◌, Bool, true, false, cond, List, [], ◌∷◌, ◌++◌, Option, Some, None, Result, Ok, Err}
use Rattle.std.proofs.Common.{refl}
use Rattle.std.specs.Bool.{⊤}
use Rattle.std.specs.List.{AllByRecursion}
use Rattle.model.specs.Outcome.{◌>>=◌}

abbrev pub Given : {A E : Type 0} → (A → Type 0) → Result A E → Type 0
Given P (Ok x) = P x
Given P (Err e) = ⊤

pub any : {A B E : Type 0} (Q : B → Type 0) (m : Result A E) (f : A → Result B E)
    → ((x : A) → Given Q (f x)) → Given Q (m >>= f)
any Q (Ok x) f h = h x
any Q (Err e) f h = tt

pub next : {A B E : Type 0} (P : A → Type 0) (Q : B → Type 0) (m : Result A E) (f : A → Result B E) → Given P m
    → ((x : A) → P x → Given Q (f x)) → Given Q (m >>= f)
next P Q (Ok x) f g h = h x g
next P Q (Err e) f g h = tt

pub tested : {A E : Type 0} (P : A → Type 0) (b : Bool) (x : A) (e : E) → (b ≡ true → P x)
    → Given P (cond b (Ok x) (Err e))
tested P true x e h = h refl
tested P false x e h = tt

pub either : {A E : Type 0} (P : A → Type 0) (b : Bool) (m n : Result A E) → Given P m
    → Given P n → Given P (cond b m n)
either P true m n g h = g
either P false m n g h = h

pub got : {A E : Type 0} (P : A → Type 0) (m : Result A E) (x : A) → Given P m → m ≡ Ok x → P x
got P m x g is = rw (is) at g

abbrev pub IfSome : {A : Type 0} → (A → Type 0) → Option A → Type 0
IfSome P None = ⊤
IfSome P (Some x) = P x

pub each-append : {A : Type 0} (P : A → Type 0) (xs ys : List A) → AllByRecursion P xs → AllByRecursion P ys
    → AllByRecursion P (xs ++ ys)
each-append P [] ys g h = h
each-append P (x ∷ xs) ys g h = (g.0, each-append P xs ys g.1 h)
