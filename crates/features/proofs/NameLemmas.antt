-- A name of a package is a name of a feature.
use Rattle.std.proofs.Common.{◌≡◌, ℕ, ◌≤◌, List, [], ◌∷◌, length, true, ◌&&◌, nat_le, refl, ap₂, arith}
use Rattle.std.specs.List.{list_all}
use Rattle.std.proofs.lemmas.Bool.{leb-true}
use Rattle.model.proofs.Same.{both}
use Rattle.features.specs.Names.{is_package_byte, is_package_name, is_feature_byte, is_feature_name}

also_byte : (b : ℕ) → is_package_byte b ≡ true → is_feature_byte b ≡ true
also_byte b h = rw h refl

also_bytes : (text : List ℕ) → list_all is_package_byte text ≡ true → list_all is_feature_byte text ≡ true
also_bytes [] h = refl
also_bytes (b ∷ text) h =
    let p = both (is_package_byte b) (list_all is_package_byte text) h in
    ap₂ (λ x y. x && y) (also_byte b p.0) (also_bytes text p.1)

pub feature_name-package : (text : List ℕ) → is_package_name text ≡ true → is_feature_name text ≡ true
feature_name-package text h =
    let p = both (nat_le 1 (length text)) (nat_le (length text) 64 && list_all is_package_byte text) h in
    let q = both (nat_le (length text) 64) (list_all is_package_byte text) p.1 in
    let short : length text ≤ 64 = leb-true _ _ q.0 in
    let shorter : nat_le (length text) 255 ≡ true = grind arith in
    ap₂ (λ x y. x && y) p.0 (ap₂ (λ x y. x && y) shorter (also_bytes text q.1))
