-- A chain of steps that ends well: each step did.
use Rattle.std.proofs.Common.{◌≡◌, Bool, true, false, cond, Option, Some, None, Result, Ok, Err, refl, ap}
use Rattle.std.specs.Option.{ok_or}
use Rattle.model.specs.Outcome.{◌>>=◌, guard}

pub record Steps {A B E : Type 0} (r : Result A E) (f : A → Result B E) (y : B) : Type 0 where
  pub at : A
  pub first : r ≡ Ok at
  pub then : f at ≡ Ok y

pub steps : {A B E : Type 0} (r : Result A E) (f : A → Result B E) (y : B) → (r >>= f) ≡ Ok y → Steps r f y
steps (Ok x) f y h = record { at = x; first = refl; then = h }
steps (Err e) f y h = cc

abbrev Alike : {A E : Type 0} → Result A E → Result A E → Type 0
Alike r s = r ≡ s

pub same-Ok : {A E : Type 0} (x y : A) → Alike {A = A} {E = E} (Ok x) (Ok y) → x ≡ y
same-Ok x y h = cc

pub same-Some : {A : Type 0} {x y : A} → Some x ≡ Some y → x ≡ y
same-Some h = cc

pub some : {A E : Type 0} (o : Option A) (e : E) (x : A) → ok_or o e ≡ Ok x → o ≡ Some x
some None e x h = cc
some (Some y) e x h = ap Some (same-Ok _ _ h)

pub passed : {E : Type 0} (test : Bool) (e : E) (u : Unit {0}) → guard test e ≡ Ok u → test ≡ true
passed true e u h = refl
passed false e u h = cc

-- of a choice that ends well only at its first branch
pub chosen : {A E : Type 0} (test : Bool) (x y : A) (e : E) → cond test (Ok x) (Err e) ≡ Ok y → (test ≡ true) × (x ≡ y)
chosen true x y e h = (refl, same-Ok _ _ h)
chosen false x y e h = cc
