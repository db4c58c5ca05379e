-- What becomes of a lock that `resolve` gives.
use Rattle.std.specs.Prelude.{ℕ, List, Bool, true, false, Option, Some, None, option_map}
use Rattle.outcomes.specs.declared.outcome.Outcome.{Outcome}

-- a status, and the lock that is to replace the old one
abbrev pub Ending : Type 0
Ending = ℕ × Option (List ℕ)

abbrev pub ending_view : Outcome → Ending
ending_view o = (o.status, option_map (λ v. v.items) o.new_lock)

-- one that is kept is a yes; with another one `--locked` makes a no, and only without that `--write` hands it on
abbrev pub ending_of : Bool → Bool → Bool → List ℕ → Ending
ending_of true locked write bytes = (0, None)
ending_of false true write bytes = (1, None)
ending_of false false true bytes = (0, Some bytes)
ending_of false false false bytes = (0, None)
