-- Contents that are no valid selection: two versions of one class, a package that nobody needs, an older package beside
-- the target, no root.
use Rattle.std.proofs.Common.{◌≡◌, ◌⊎◌, ℕ, zero, suc, [], ◌∷◌, Contains, Some, slice_get, refl, sym, ap, ◌∙◌, subst}
use Rattle.std.proofs.Common.{inl, inr, true≢false, arith}
use Rattle.std.proofs.lemmas.Option.{none-some, same_Some}
use Rattle.model.specs.Summary.{Dependency}
use Rattle.model.specs.Content.{Problem, Content, Package, is_root, target_of}
use Rattle.model.specs.Selection.{IsValidSelection, IsRootAt, IsReached}
use Rattle.model.specs.Selection.IsReached.{root, listed}
use Rattle.model.specs.Verdict.{IsVerdict, no_root}
use Rattle.model.specs.Order.{IsContent}
use Rattle.model.proofs.Lists.{in_none, in_first, in_rest}
use Rattle.model.proofs.Examples.Small.{text_a, text_b, version_1_0, version_1_1, version_2_0, on_any, candidate}
use Rattle.model.proofs.Examples.Small.{asked_by_demo, locked, demo, in_one, formed}

-- the root needs a; there are three versions of a, and one of b
abbrev needs_a : Problem
needs_a = asked_by_demo (on_any text_a ∷ [])
    ((text_a, candidate version_1_0 [] [] ∷ candidate version_1_1 [] [] ∷ candidate version_2_0 [] [] ∷ [])
    ∷ (text_b, candidate version_1_0 [] [] ∷ []) ∷ [])

root_dep : (i : ℕ) (d : Dependency) → slice_get (needs_a.brings).dependencies i ≡ Some d → on_any text_a ≡ d
root_dep zero d e = same_Some (on_any text_a) d e
root_dep (suc i) d e = absurd (none-some d e)

-- two versions of one class
abbrev twice : Content
twice = locked text_a version_1_0 [] ∷ locked text_a version_1_1 [] ∷ demo (1 ∷ []) ∷ []

pub twice-invalid : IsValidSelection needs_a twice → ⊥
twice-invalid v =
    let same : zero ≡ suc zero = v.one_in_class 0 1 (locked text_a version_1_0 []) (locked text_a version_1_1 [])
    (refl, refl) (refl, refl) refl refl in
    omega arith

-- b is listed, and nobody needs it
abbrev unneeded : Content
unneeded = locked text_a version_1_0 [] ∷ locked text_b version_1_0 [] ∷ demo (0 ∷ 1 ∷ []) ∷ []

-- it is a content
unneeded-formed : IsContent unneeded
unneeded-formed = formed unneeded refl

pub unneeded-invalid : IsValidSelection needs_a unneeded → ⊥
unneeded-invalid v =
    let t = (v.lists 2 1 (demo (0 ∷ 1 ∷ [])) refl).0 (in_rest 0 1 (1 ∷ []) (in_first 1 [])) in
    let to : target_of unneeded 2 (on_any text_a) ≡ Some 1 =
    ap (target_of unneeded 2) (root_dep t.0 t.1 (t.2).0) ∙ t.3 in
    let same : zero ≡ suc zero = same_Some 0 1 to in
    omega arith

-- b is there, and no list leads to it
abbrev unlisted : Content
unlisted = locked text_a version_1_0 [] ∷ locked text_b version_1_0 [] ∷ demo (0 ∷ []) ∷ []

unlisted-formed : IsContent unlisted
unlisted-formed = formed unlisted refl

root_place : (n : ℕ) → IsRootAt needs_a unlisted n → n ≡ 2
root_place zero (p, got, is) =
    absurd (true≢false (sym (ap (is_root needs_a) (same_Some (locked text_a version_1_0 []) p got) ∙ is)))
root_place (suc zero) (p, got, is) =
    absurd (true≢false (sym (ap (is_root needs_a) (same_Some (locked text_b version_1_0 []) p got) ∙ is)))
root_place (suc (suc zero)) r = refl
root_place (suc (suc (suc n))) (p, got, is) = absurd (none-some p got)

lists_lead : (n t : ℕ) (p : Package) → slice_get unlisted n ≡ Some p → Contains p.list t → t ≡ 0
lists_lead zero t p got c = absurd
    (in_none t (subst (λ (x : Package). Contains x.list t) (sym (same_Some (locked text_a version_1_0 []) p got)) c))
lists_lead (suc zero) t p got c = absurd
    (in_none t (subst (λ (x : Package). Contains x.list t) (sym (same_Some (locked text_b version_1_0 []) p got)) c))
lists_lead (suc (suc zero)) t p got c =
    sym (in_one 0 t (subst (λ (x : Package). Contains x.list t) (sym (same_Some (demo (0 ∷ [])) p got)) c))
lists_lead (suc (suc (suc n))) t p got c = absurd (none-some p got)

not_reached : (n : ℕ) → IsReached needs_a unlisted n → (n ≡ 2) ⊎ (n ≡ 0)
not_reached n (root m r) = inl (root_place n r)
not_reached n (listed m t p r got c) = inr (lists_lead m n p got c)

pub unlisted-invalid : IsValidSelection needs_a unlisted → ⊥
unlisted-invalid v = elim (not_reached 1 (v.reached 1 (omega arith))) [
  | inl e ↦ (let same : suc zero ≡ suc (suc zero) = e in omega arith)
  | inr e ↦ (let same : suc zero ≡ zero = e in omega arith)
]

-- an older version that serves the dependency too stands beside its target
abbrev older_beside : Content
older_beside = locked text_a version_1_0 [] ∷ locked text_a version_2_0 [] ∷ demo (0 ∷ 1 ∷ []) ∷ []

older_beside-formed : IsContent older_beside
older_beside-formed = formed older_beside refl

pub older_beside-invalid : IsValidSelection needs_a older_beside → ⊥
older_beside-invalid v =
    let t = (v.lists 2 0 (demo (0 ∷ 1 ∷ [])) refl).0 (in_first 0 (1 ∷ [])) in
    let to : target_of older_beside 2 (on_any text_a) ≡ Some 0 =
    ap (target_of older_beside 2) (root_dep t.0 t.1 (t.2).0) ∙ t.3 in
    let same : suc zero ≡ zero = same_Some 1 0 to in
    omega arith

-- without a package there is no root
pub empty-verdict : IsVerdict needs_a [] no_root
empty-verdict (n, r) = none-some r.0 r.1
