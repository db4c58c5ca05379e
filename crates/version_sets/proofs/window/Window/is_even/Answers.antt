use Rattle.std.proofs.Common.{◌≡◌, ℕ, Bool, true, false, List, [], ◌∷◌, length, refl, arith, rules}
use Rattle.std.proofs.Math.Bool.{beq}
use Rattle.std.proofs.lemmas.Bool.{false≢true}
use Rattle.version_sets.proofs.Spreads.{even_flanked}
use Rattle.version_sets.proofs.window.Window.is_even.Goals as goal

no_length : (xs : List ℕ) → length xs ≡ 0 → xs ≡ []
no_length [] e = refl
no_length (x ∷ xs) e = absurd (omega arith)

one_bool : (p q : Bool) → beq p q ≡ true → p ≡ q
one_bool true true e = refl
one_bool false false e = refl
one_bool true false e = absurd (false≢true e)
one_bool false true e = absurd (false≢true e)

pub returns : goal.returns
returns c =
    let w = c.args.self.now in
    let none : length w.words.items ≡ 0 = search rules in
    λ alike. even_flanked w.universe w.low w.first w.words.items w.high w.ends (no_length w.words.items none)
    (one_bool w.low w.high alike)
