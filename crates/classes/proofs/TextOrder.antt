-- Of two versions of equal precedence the texts are ordered as their build metadata is.
use Rattle.std.proofs.Common.{◌≡◌, ℕ, List, [], ◌∷◌, ◌++◌, refl, sym, ap, ◌∙◌, Ordering, Less, Equal, Greater}
use Rattle.std.specs.Ordering.{ordering_then}
use Rattle.std.specs.Fmt.{decimal}
use Rattle.std.specs.FinMap.{nat_cmp-IsAntisymmetric}
use Rattle.std.specs.Cmp.{nat_cmp_is}
use Rattle.semver.specs.Identifiers.{parts_text, marked}
use Rattle.semver.specs.OrderLaws.{pre-anti}
use Rattle.semver.specs.Parse.{Parts}
use Rattle.model.specs.Order.{text_cmp, precedence, version_cmp}

same_first : (b : ℕ) (x y : List ℕ) → text_cmp (b ∷ x) (b ∷ y) ≡ text_cmp x y
same_first b x y = ap (λ r. ordering_then r (text_cmp x y)) (sym (nat_cmp_is b b Equal refl))

same_front : (front x y : List ℕ) → text_cmp (front ++ x) (front ++ y) ≡ text_cmp x y
same_front [] x y = refl
same_front (b ∷ front) x y = same_first b (front ++ x) (front ++ y) ∙ same_front front x y

same_mark : (x y : List ℕ) → text_cmp (marked 43 x) (marked 43 y) ≡ text_cmp x y
same_mark [] [] = refl
same_mark [] (b ∷ y) = refl
same_mark (a ∷ x) [] = refl
same_mark (a ∷ x) (b ∷ y) = same_first 43 (a ∷ x) (b ∷ y)

texts : (a b c : ℕ) (pre x y : List ℕ)
    → text_cmp (parts_text (a, b, c, pre, x)) (parts_text (a, b, c, pre, y)) ≡ text_cmp x y
texts a b c pre x y =
    let after_patch : List ℕ → List ℕ = λ z. marked 45 pre ++ marked 43 z in
    let after_minor : List ℕ → List ℕ = λ z. decimal c ++ after_patch z in
    let after_major : List ℕ → List ℕ = λ z. decimal b ++ (46 ∷ after_minor z) in
    same_front (decimal a) (46 ∷ after_major x) (46 ∷ after_major y) ∙ same_first 46 (after_major x) (after_major y)
    ∙ same_front (decimal b) (46 ∷ after_minor x) (46 ∷ after_minor y) ∙ same_first 46 (after_minor x) (after_minor y)
    ∙ same_front (decimal c) (after_patch x) (after_patch y)
    ∙ same_front (marked 45 pre) (marked 43 x) (marked 43 y) ∙ same_mark x y

first_equal : (r s : Ordering) → ordering_then r s ≡ Equal → r ≡ Equal
first_equal Less s e = cc e
first_equal Equal s e = refl
first_equal Greater s e = cc e

second_equal : (r s : Ordering) → ordering_then r s ≡ Equal → s ≡ Equal
second_equal Less s e = cc e
second_equal Equal s e = e
second_equal Greater s e = cc e

equal_precedence : (v w : Parts) → precedence v w ≡ Equal
    → text_cmp (parts_text v) (parts_text w) ≡ text_cmp (v.4) (w.4)
equal_precedence v w e =
    let rest1 = second_equal _ _ e in
    let rest2 = second_equal _ _ rest1 in
    let major : v.0 ≡ w.0 = nat_cmp-IsAntisymmetric _ _ (first_equal _ _ e) in
    let minor : v.1 ≡ w.1 = nat_cmp-IsAntisymmetric _ _ (first_equal _ _ rest1) in
    let patch : v.2 ≡ w.2 = nat_cmp-IsAntisymmetric _ _ (first_equal _ _ rest2) in
    let pre : v.3 ≡ w.3 = pre-anti _ _ (second_equal _ _ rest2) in
    rw (major, minor, patch, pre) (texts w.0 w.1 w.2 w.3 v.4 w.4)

pub version_cmp-build : (v w : Parts) → version_cmp v w ≡ ordering_then (precedence v w) (text_cmp (v.4) (w.4))
version_cmp-build v w = by (precedence v w) refl
  where
    by : (r : Ordering) → precedence v w ≡ r
        → ordering_then r (text_cmp (parts_text v) (parts_text w)) ≡ ordering_then r (text_cmp (v.4) (w.4))
    by Less e = refl
    by Equal e = equal_precedence v w e
    by Greater e = refl
