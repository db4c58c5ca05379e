-- Names, numbers, classes and versions have no space, and names no `@`.
use Rattle.std.proofs.Common.{◌≡◌, ℕ, ◌<◌, ◌^◌, List, [], ◌∷◌, Bool, true, false, ◌||◌, ◌==◌, decimal, refl, ap}
use Rattle.std.proofs.Common.{◌∙◌, subst, arith}
use Rattle.std.specs.Char.{is_ascii_digit}
use Rattle.std.specs.List.{list_all, list_any}
use Rattle.std.proofs.lemmas.Bool.Decides.{nat_tests}
use Rattle.std.proofs.lemmas.Bool.{and_parts}
use Rattle.semver.specs.Grammar.{IsValid, is_identifier_byte, is_build_identifier, is_pre_identifier, is_pre_release}
use Rattle.semver.specs.Grammar.{is_build}
use Rattle.semver.specs.Identifiers.{parts_text, marked}
use Rattle.semver.specs.Order.{parts}
use Rattle.semver.specs.OrderLaws.{join_dots, join-parts}
use Rattle.semver.specs.Parse.{Parts}
use Rattle.model.specs.Selection.{Class, patch, minor, major}
use Rattle.features.specs.Names.{is_package_byte}
use Rattle.classes.specs.Classes.{class_text}
use Rattle.features.specs.inner.Valid.{IsPackageName}
use Rattle.vertices.specs.inner.Valid.{IsValidClass}
use Rattle.vertices.proofs.Around.{Lacks, lacks-append, lacks-all}
use Rattle.vertices.proofs.Numbers.{decimal-digits}

-- a byte that passes a test which another fails is not that other
pub not-byte : (test : ℕ → Bool) (byte : ℕ) → test byte ≡ false → (b : ℕ) → test b ≡ true → (b == byte) ≡ false
not-byte test byte fails b h = by (b == byte) refl
  where
    by : (t : Bool) → (b == byte) ≡ t → t ≡ false
    by true e = let same : b ≡ byte = grind (arith, nat_tests) in let no : test byte ≡ true =
        subst (λ c. test c ≡ true) same h in cc
    by false e = refl

pub name-lacks : (byte : ℕ) → is_package_byte byte ≡ false → (n : List ℕ) → IsPackageName n → Lacks byte n
name-lacks byte fails n h = lacks-all is_package_byte byte (not-byte is_package_byte byte fails) n
    (and_parts _ (list_all is_package_byte n) (and_parts _ _ h).1).1

pub decimal-dense : (n : ℕ) → n < 2 ^ 64 → Lacks 32 (decimal n)
decimal-dense n h = lacks-all is_ascii_digit 32 (not-byte is_ascii_digit 32 refl) (decimal n) (decimal-digits n h)

pub class-dense : (c : Class) → IsValidClass c → Lacks 32 (class_text c)
class-dense (major n) h = decimal-dense n h.1
class-dense (minor n) h = decimal-dense n h.1
class-dense (patch n) h = decimal-dense n h

build-part : (part : List ℕ) → is_build_identifier part ≡ true → Lacks 32 part
build-part part h = lacks-all is_identifier_byte 32 (not-byte is_identifier_byte 32 refl) part
    (and_parts _ (list_all is_identifier_byte part) h).1

pre-part : (part : List ℕ) → is_pre_identifier part ≡ true → Lacks 32 part
pre-part part h = build-part part (and_parts (is_build_identifier part) _ h).0

dots : (test : List ℕ → Bool) → ((part : List ℕ) → test part ≡ true → Lacks 32 part) → (ps : List (List ℕ))
    → list_all test ps ≡ true → Lacks 32 (join_dots ps)
unfolding join_dots
dots test dense [] h = refl
dots test dense (p ∷ []) h = dense p (and_parts (test p) _ h).0
dots test dense (p ∷ (q ∷ ps)) h =
    let both = and_parts (test p) (list_all test (q ∷ ps)) h in
    lacks-append 32 p (46 ∷ join_dots (q ∷ ps)) (dense p both.0) (dots test dense (q ∷ ps) both.1)

dotted : (test : List ℕ → Bool) → ((part : List ℕ) → test part ≡ true → Lacks 32 part) → (text : List ℕ)
    → list_all test (parts text) ≡ true → Lacks 32 text
dotted test dense text h = subst (λ t. Lacks 32 t) (join-parts text) (dots test dense (parts text) h)

pre-dense : (text : List ℕ) → is_pre_release text ≡ true → Lacks 32 text
pre-dense [] h = refl
pre-dense (b ∷ bs) h = dotted is_pre_identifier pre-part (b ∷ bs) h

build-dense : (text : List ℕ) → is_build text ≡ true → Lacks 32 text
build-dense [] h = refl
build-dense (b ∷ bs) h = dotted is_build_identifier build-part (b ∷ bs) h

marked-dense : (mark : ℕ) → (mark == 32) ≡ false → (text : List ℕ) → Lacks 32 text → Lacks 32 (marked mark text)
marked-dense mark m [] h = refl
marked-dense mark m (b ∷ bs) h = ap (λ t. t || list_any (λ c. c == 32) (b ∷ bs)) m ∙ h

pub version-dense : (v : Parts) → IsValid v → Lacks 32 (parts_text v)
version-dense v h =
    lacks-append 32 (decimal v.0) _ (decimal-dense v.0 h.0)
    (lacks-append 32 (decimal v.1) _ (decimal-dense v.1 h.1)
    (lacks-append 32 (decimal v.2) _ (decimal-dense v.2 h.2)
    (lacks-append 32 (marked 45 (v.3)) _ (marked-dense 45 refl (v.3) (pre-dense (v.3) h.3))
    (marked-dense 43 refl (v.4) (build-dense (v.4) h.4)))))
