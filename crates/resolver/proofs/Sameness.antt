-- What tests as the same is the same.
use Rattle.std.proofs.Common.{◌≡◌, ℕ, suc, List, [], ◌∷◌, Bool, true, ◌&&◌, length, map, Option, Some, None, refl, sym}
use Rattle.std.proofs.Common.{ap, ap₂, arith, true≢false}
use Rattle.std.specs.Cmp.Lexicographic.{pointwise}
use Rattle.std.specs.List.{list_all, zip}
use Rattle.model.specs.Content.{Package, Content, same_version, same_option}
use Rattle.model.specs.Summary.{same_text}
use Rattle.model.proofs.Same.{both, text-same, text-refl, version-same, version-refl}
use Rattle.resolver.specs.inner.Same.{same_package, same_content}

-- lists of one length are the same where they are place by place
pub place_by_place : {X Y : Type 0} (view : X → Y) (same : Y → Y → Bool) (a b : List X) → length a ≡ length b
    → list_all (λ p. same (view p.0) (view p.1)) (zip a b) ≡ pointwise same (map view a) (map view b)
place_by_place view same [] [] e = refl
place_by_place view same [] (y ∷ b) e = absurd (let more : 0 ≡ suc (length b) = e in omega (arith, more))
place_by_place view same (x ∷ a) [] e = absurd (let more : suc (length a) ≡ 0 = e in omega (arith, more))
place_by_place view same (x ∷ a) (y ∷ b) e =
    let more : suc (length a) ≡ suc (length b) = e in
    ap (λ r. same (view x) (view y) && r) (place_by_place view same a b (omega (arith, more)))

option-same : (a b : Option (List ℕ)) → same_option a b ≡ true → a ≡ b
option-same None None h = refl
option-same (Some a) (Some b) h = ap Some (text-same a b h)
option-same None (Some b) h = absurd (true≢false (sym h))
option-same (Some a) None h = absurd (true≢false (sym h))

package-same : (p r : Package) → same_package p r ≡ true → p ≡ r
package-same p r h =
    let name = both (same_text p.name r.name) _ h in
    let version = both (same_version p.version r.version) _ name.1 in
    let source = both (same_option p.source r.source) _ version.1 in
    let checksum = both (same_option p.checksum r.checksum) _ source.1 in
    built (text-same p.name r.name name.0) (version-same p.version r.version version.0)
    (option-same p.source r.source source.0)
    (option-same p.checksum r.checksum checksum.0) (text-same p.list r.list checksum.1)
  where
    built : p.name ≡ r.name → p.version ≡ r.version → p.source ≡ r.source → p.checksum ≡ r.checksum
        → p.list ≡ r.list → p ≡ r
    built a b c d e = λ i. record { name = a i; version = b i; source = c i; checksum = d i; list = e i }

-- contents that test as the same are
pub content-same : (a b : Content) → same_content a b ≡ true → a ≡ b
content-same [] [] h = refl
content-same [] (r ∷ b) h = absurd (true≢false (sym h))
content-same (p ∷ a) [] h = absurd (true≢false (sym h))
content-same (p ∷ a) (r ∷ b) h = let t =
    both (same_package p r) _ h in ap₂ (λ x xs. x ∷ xs) (package-same p r t.0) (content-same a b t.1)

option-refl : (a : Option (List ℕ)) → same_option a a ≡ true
option-refl None = refl
option-refl (Some a) = text-refl a

package-refl : (p : Package) → same_package p p ≡ true
package-refl p =
    rw (text-refl p.name, version-refl p.version, option-refl p.source, option-refl p.checksum, text-refl p.list) refl

pub content-refl : (a : Content) → same_content a a ≡ true
content-refl [] = refl
content-refl (p ∷ a) = rw (package-refl p) (content-refl a)
