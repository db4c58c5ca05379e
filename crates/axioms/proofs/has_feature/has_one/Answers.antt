use Rattle.std.proofs.Common.{◌≡◌, ◌==◌, ◌∙◌, ℕ, suc, Bool, true, false, not, length, List, [], ◌∷◌, refl, ap, arith}
use Rattle.std.specs.List.{list_any}
use Rattle.std.proofs.lemmas.Bool.{eqb-true}
use Rattle.axioms.proofs.has_feature.has_one.Goals as goal

not_empty : (n : ℕ) → (suc n == 0) ≡ false
not_empty n = by (suc n == 0) refl
  where
    by : (t : Bool) → (suc n == 0) ≡ t → t ≡ false
    by true e = absurd (let k = eqb-true (suc n) 0 e in omega (arith, k))
    by false e = refl

one : {A : Type 0} (xs : List A) → not (length xs == 0) ≡ list_any (λ x. true) xs
one [] = refl
one (x ∷ xs) = ap not (not_empty (length xs))

pub returns : goal.returns
returns c = ap not c.is_empty.ensures ∙ one c.args.versions.now
