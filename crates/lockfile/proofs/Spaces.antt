-- Names and versions have no space, so that a dependency text falls apart at its spaces in one way.
use Rattle.std.proofs.Common.{◌≡◌, ℕ, suc, ◌+◌, ◌%◌, ◌^◌, ◌<◌, Bool, true, List, [], ◌∷◌, ◌++◌, refl}
use Rattle.std.proofs.Common.{subst, arith}
use Rattle.std.specs.Fmt.{decimal}
use Rattle.std.specs.List.{list_all}
use Rattle.std.proofs.lemmas.Fmt.{decimal_by_steps}
use Rattle.std.proofs.lemmas.Bool.{and_parts}
use Rattle.semver.specs.Grammar.{IsValid, is_identifier_byte, is_build_identifier, is_pre_identifier, is_pre_release}
use Rattle.semver.specs.Grammar.{is_build}
use Rattle.semver.specs.Identifiers.{parts_text, marked}
use Rattle.semver.specs.Order.{parts}
use Rattle.semver.specs.OrderLaws.{join_dots, join-parts}
use Rattle.semver.specs.Parse.{Parts}
use Rattle.features.specs.Names.{is_package_name, is_package_byte}
use Rattle.lockfile.specs.inner.Search.{HasNoSpace}

-- no byte is a space, by recursion
abbrev pub Free : List ℕ → Type 0
Free [] = Unit {0}
Free (b ∷ bs) = (b ≡ 32 → ⊥) × Free bs

pub free-from : (text : List ℕ) → HasNoSpace text → Free text
free-from [] h = tt
free-from (b ∷ bs) h = (h 0 (omega arith), free-from bs (λ i l. h (suc i) (omega arith)))

free-append : (a b : List ℕ) → Free a → Free b → Free (a ++ b)
free-append [] b h k = k
free-append (x ∷ a) b h k = (h.0, free-append a b h.1 k)

-- ---- names

package-byte : (b : ℕ) → is_package_byte b ≡ true → b ≡ 32 → ⊥
package-byte b h e = let no : is_package_byte 32 ≡ true = rw e at h in cc

package-bytes : (text : List ℕ) → list_all is_package_byte text ≡ true → Free text
package-bytes [] h = tt
package-bytes (b ∷ bs) h = let both =
    and_parts (is_package_byte b) _ h in (package-byte b both.0, package-bytes bs both.1)

pub free-name : (name : List ℕ) → is_package_name name ≡ true → Free name
free-name name h = package-bytes name (and_parts _ (list_all is_package_byte name) (and_parts _ _ h).1).1

-- ---- versions

free-decimal : (n : ℕ) → n < 2 ^ 64 → Free (decimal n)
free-decimal n l = decimal_by_steps (λ m ds. Free ds) (λ m k. (λ e. omega arith, tt))
    (λ m ds k h. free-append ds ((48 + m % 10) ∷ []) h (λ e. omega arith, tt)) n l

identifier-byte : (b : ℕ) → is_identifier_byte b ≡ true → b ≡ 32 → ⊥
identifier-byte b h e = let no : is_identifier_byte 32 ≡ true = rw e at h in cc

identifier-bytes : (text : List ℕ) → list_all is_identifier_byte text ≡ true → Free text
identifier-bytes [] h = tt
identifier-bytes (b ∷ bs) h = let both =
    and_parts (is_identifier_byte b) _ h in (identifier-byte b both.0, identifier-bytes bs both.1)

build-part : (part : List ℕ) → is_build_identifier part ≡ true → Free part
build-part part h = identifier-bytes part (and_parts _ _ h).1

pre-part : (part : List ℕ) → is_pre_identifier part ≡ true → Free part
pre-part part h = build-part part (and_parts _ _ h).0

free-dots : (test : List ℕ → Bool) → ((part : List ℕ) → test part ≡ true → Free part) → (ps : List (List ℕ))
    → list_all test ps ≡ true → Free (join_dots ps)
unfolding join_dots
free-dots test free [] h = tt
free-dots test free (p ∷ []) h = free p (and_parts (test p) _ h).0
free-dots test free (p ∷ (q ∷ ps)) h =
    let both = and_parts (test p) _ h in
    free-append p (46 ∷ join_dots (q ∷ ps)) (free p both.0) (λ e. omega arith, free-dots test free (q ∷ ps) both.1)

free-parts : (test : List ℕ → Bool) → ((part : List ℕ) → test part ≡ true → Free part) → (text : List ℕ)
    → list_all test (parts text) ≡ true → Free text
free-parts test free text h = subst Free (join-parts text) (free-dots test free (parts text) h)

free-pre : (text : List ℕ) → is_pre_release text ≡ true → Free text
free-pre [] h = tt
free-pre (b ∷ bs) h = free-parts is_pre_identifier pre-part (b ∷ bs) h

free-build : (text : List ℕ) → is_build text ≡ true → Free text
free-build [] h = tt
free-build (b ∷ bs) h = free-parts is_build_identifier build-part (b ∷ bs) h

free-marked : (mark : ℕ) → (mark ≡ 32 → ⊥) → (text : List ℕ) → Free text → Free (marked mark text)
free-marked mark m [] h = tt
free-marked mark m (b ∷ bs) h = (m, h)

pub free-version : (v : Parts) → IsValid v → Free (parts_text v)
free-version v h =
    free-append (decimal v.0) _ (free-decimal v.0 h.0) (
      λ e. omega arith,
      free-append (decimal v.1) _ (free-decimal v.1 h.1) (
        λ e. omega arith,
        free-append (decimal v.2) _ (free-decimal v.2 h.2)
            (free-append (marked 45 (v.3)) _ (free-marked 45 (λ e. omega arith) (v.3) (free-pre (v.3) h.3))
            (free-marked 43 (λ e. omega arith) (v.4) (free-build (v.4) h.4))),
      ),
    )

-- ---- a text falls apart in one way

pub one-split : (a b x y : List ℕ) → Free a → Free b → a ++ (32 ∷ x) ≡ b ++ (32 ∷ y) → (a ≡ b) × (x ≡ y)
one-split [] [] x y h k e = let rest : x ≡ y = cc in (refl, rest)
one-split [] (c ∷ b) x y h k e = let space : c ≡ 32 = cc in absurd (k.0 space)
one-split (c ∷ a) [] x y h k e = let space : c ≡ 32 = cc in absurd (h.0 space)
one-split (c ∷ a) (d ∷ b) x y h k e =
    let rest : a ++ (32 ∷ x) ≡ b ++ (32 ∷ y) = cc in
    let split = one-split a b x y h.1 k.1 rest in
    let front : c ∷ a ≡ d ∷ b = cc in
    (front, split.1)

pub no-split : (a b x : List ℕ) → Free a → a ≡ b ++ (32 ∷ x) → ⊥
no-split [] [] x h e = cc
no-split [] (c ∷ b) x h e = cc
no-split (c ∷ a) [] x h e = let space : c ≡ 32 = cc in h.0 space
no-split (c ∷ a) (d ∷ b) x h e = let rest : a ≡ b ++ (32 ∷ x) = cc in no-split a b x h.1 rest
