-- What a map from texts has.
use Rattle.std.specs.Prelude.{ℕ, List, Option}
use Rattle.std.specs.Borrow.{Bor}
use Rattle.std.specs.Map.{lookup}
use Rattle.model.specs.Summary.{same_text}

-- what it has at a text
abbrev pub at_text : {X : Type 0} → List (Bor (List ℕ) × X) → List ℕ → Option X
at_text es d = lookup (λ k. same_text d k.now) es
