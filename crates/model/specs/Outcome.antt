-- What a function gives that may always want memory, and is otherwise exact.
use Rattle.std.specs.Prelude.{◌≡◌, Bool, true, false, if◌then◌else◌, Result, Ok, Err}

-- a fault of memory says nothing; another is the one that is defined
abbrev pub Faults : {Y E : Type 0} → Bool → E → Result Y E → Type 0
Faults true e meant = Unit {0}
Faults false e meant = meant ≡ Err e

-- what was returned, seen by view, is what is meant, unless memory is wanting
abbrev pub Gives : {X Y E : Type 0} → (E → Bool) → (X → Y) → Result X E → Result Y E → Type 0
Gives wants_memory view (Ok x) meant = meant ≡ Ok (view x)
Gives wants_memory view (Err e) meant = Faults (wants_memory e) e meant

-- one step after another, up to the first fault
infixl 10 ◌>>=◌
abbrev pub ◌>>=◌ : {A B E : Type 0} → Result A E → (A → Result B E) → Result B E
(Ok x) >>= f = f x
(Err e) >>= f = Err e

-- goes on where the test passes
abbrev pub guard : {E : Type 0} → Bool → E → Result (Unit {0}) E
guard test e = if test then Ok tt else Err e
