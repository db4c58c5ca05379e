-- A map's look-up is by text.
use Rattle.std.proofs.Common.{◌≡◌, ℕ, List, [], ◌∷◌, cond, Some, refl, sym, ap₂}
use Rattle.std.specs.Borrow.{Bor}
use Rattle.std.specs.BTreeMap.{is_at}
use Rattle.std.specs.Cmp.Lexicographic.{slice_cmp, texts_ties}
use Rattle.std.specs.Map.{lookup}
use Rattle.std.specs.Ordering.{nat_cmp}
use Rattle.features.specs.inner.TextMaps.{at_text}

pub at_text-get : {X : Type 0} (d : List ℕ) (es : List (Bor (List ℕ) × X))
    → lookup (is_at (λ k. slice_cmp nat_cmp d k.now)) es ≡ at_text es d
at_text-get d [] = refl
at_text-get d (e ∷ es) = ap₂ (λ b o. cond b (Some e.1) o) (sym (texts_ties d e.0.now)) (at_text-get d es)
