-- It doesn't matter which of two texts comes first.
use Rattle.std.proofs.Common.{◌≡◌, ℕ, List}
use Rattle.std.specs.Cmp.Lexicographic.{nat_list_eq_equiv}
use Rattle.model.specs.Summary.{same_text}

pub text-flips : (a b : List ℕ) → same_text a b ≡ same_text b a
text-flips a b = nat_list_eq_equiv.symm a b
