-- In package order the packages of one name and class stand side by side, but for the root.
use Rattle.std.proofs.Common.{◌≡◌, ◌↔◌, ℕ, ◌<◌, ◌≤◌, Bool, true, false, List, length, Some, slice_get, get_or}
use Rattle.std.proofs.Common.{option_map, refl, sym, ap, ◌∙◌, subst, arith, inl, inr, Ordering, Less, Equal, Greater}
use Rattle.std.proofs.Common.{true≢false, is_gt, nat_lt}
use Rattle.std.specs.Ordering.{ordering_then, ordering_reverse}
use Rattle.std.proofs.lemmas.Bool.{cases_lt, and_from, ltb-false}
use Rattle.std.proofs.lemmas.Cmp.{nat_list_cmp_total}
use Rattle.std.proofs.lemmas.Map.Lookups.{exact_bytes}
use Rattle.std.proofs.lemmas.Option.{slice_get-get_or, slice_get-map, same_Some}
use Rattle.model.specs.Summary.{same_text}
use Rattle.model.specs.Content.{Package, Content, Problem, is_root}
use Rattle.model.specs.Selection.{Class, patch, minor, major, class_of, IsOther}
use Rattle.model.specs.Axioms.{is_lower}
use Rattle.model.specs.Order.{text_cmp, version_cmp, source_cmp, package_cmp, IsContent}
use Rattle.model.specs.Verdict.{IsFreeOf, two_in_class}
use Rattle.model.specs.Vertices.{same_class}
use Rattle.model.proofs.Contents.{older_first}
use Rattle.model.proofs.Lists.{pairs_get}
use Rattle.model.proofs.Orders.{class_above}
use Rattle.model.proofs.Same.{both, text-same, text-refl, class-same, class-refl}
use Rattle.lockfile.specs.inner.Views.{package_view, package_views}
use Rattle.lockfile.specs.declared.package.Package as code
use Rattle.selection.specs.inner.Graphs.{IsOnlyRoot}
use Rattle.selection.specs.inner.Names.{is_like}

-- a package of the program at its place
pub view_at : (ps : List code.Package) (n : ℕ) (p : code.Package) → n < length ps → get_or ps n p ≡ p
    → slice_get (package_views ps) n ≡ Some (package_view p)
view_at ps n p lt e =
    slice_get-map package_view ps n ∙ ap (option_map package_view) (slice_get-get_or ps n p lt ∙ ap Some e)

tie : (a b : ℕ) → (nat_lt a b ≡ true → ⊥) → (nat_lt b a ≡ true → ⊥) → a ≡ b
tie a b f g = by (nat_lt a b) refl (nat_lt b a) refl
  where
    by : (x : Bool) → nat_lt a b ≡ x → (y : Bool) → nat_lt b a ≡ y → a ≡ b
    by true e y h = absurd (f e)
    by false e true h = absurd (g h)
    by false e false h = (let p = ltb-false a b e in let r = ltb-false b a h in omega arith)

-- a class that is neither lower nor higher is the same
between : (k m : Class) → (is_lower k m ≡ true → ⊥) → (is_lower m k ≡ true → ⊥) → k ≡ m
between (patch a) (patch b) f g = ap patch (tie a b f g)
between (patch a) (minor b) f g = absurd (f refl)
between (patch a) (major b) f g = absurd (f refl)
between (minor a) (patch b) f g = absurd (g refl)
between (minor a) (minor b) f g = ap minor (tie a b f g)
between (minor a) (major b) f g = absurd (f refl)
between (major a) (patch b) f g = absurd (g refl)
between (major a) (minor b) f g = absurd (g refl)
between (major a) (major b) f g = ap major (tie a b f g)

-- names that don't fall one way or the other are one
sandwiched : (a b : List ℕ) → is_gt (text_cmp a b) ≡ false → is_gt (text_cmp b a) ≡ false → a ≡ b
sandwiched a b f g = by (text_cmp a b) refl (text_cmp b a) refl (nat_list_cmp_total.antisymm a b)
  where
    by : (o : Ordering) → text_cmp a b ≡ o → (r : Ordering) → text_cmp b a ≡ r
        → text_cmp a b ≡ ordering_reverse (text_cmp b a) → a ≡ b
    by Equal e r h s = exact_bytes a b e
    by Greater e r h s = absurd (true≢false (sym (ap is_gt e) ∙ f))
    by Less e Greater h s = absurd (true≢false (sym (ap is_gt h) ∙ g))
    by Less e Less h s = (let x : Less ≡ Greater = sym e ∙ s ∙ ap ordering_reverse h in cc)
    by Less e Equal h s = (let x : Less ≡ Equal = sym e ∙ s ∙ ap ordering_reverse h in cc)

name_first : (p r : Package) → package_cmp p r ≡ Less → is_gt (text_cmp p.name r.name) ≡ false
name_first p r e = by (text_cmp p.name r.name) e
  where
    by : (o : Ordering) → ordering_then o
        (ordering_then (version_cmp p.version r.version) (source_cmp p.source r.source)) ≡ Less → is_gt o ≡ false
    by Less e = refl
    by Equal e = refl
    by Greater e = (let x : Greater ≡ Less = e in cc)

module _ (content : Content) (formed : IsContent content) where
  -- what stands between two packages of one name and class is of that name and class
  within : (n b m : ℕ) (p s r : Package) → slice_get content n ≡ Some p → slice_get content b ≡ Some s
      → slice_get content m ≡ Some r → m < b → b < n
      → r.name ≡ p.name → class_of r.version ≡ class_of p.version
      → (s.name ≡ p.name) × (class_of s.version ≡ class_of p.version)
  within n b m p s r gn gb gm lt le name class =
      let before : package_cmp r s ≡ Less =
      pairs_get (λ p r. package_cmp p r ≡ Less) content m b r s formed.in_order lt gm gb in
      let after : package_cmp s p ≡ Less =
      pairs_get (λ p r. package_cmp p r ≡ Less) content b n s p formed.in_order le gb gn in
      let same : s.name ≡ p.name = sandwiched s.name p.name (name_first s p after)
      (subst (λ x. is_gt (text_cmp x s.name) ≡ false) name (name_first r s before)) in
      let older = older_first content formed m b r s gm gb lt (name ∙ sym same) in
      let newer = older_first content formed b n s p gb gn le same in (
        same,
        between (class_of s.version) (class_of p.version)
            (λ h. true≢false (sym (class_above s.version r.version
            (subst (λ k. is_lower (class_of s.version) k ≡ true) (sym class) h)) ∙ older))
            (λ h. true≢false (sym (class_above p.version s.version h) ∙ newer)),
      )

  stands_between : (n b m : ℕ) (p s r : Package) → slice_get content n ≡ Some p → slice_get content b ≡ Some s
      → slice_get content m ≡ Some r → m ≤ b → b < n
      → r.name ≡ p.name → class_of r.version ≡ class_of p.version
      → (s.name ≡ p.name) × (class_of s.version ≡ class_of p.version)
  stands_between n b m p s r gn gb gm le lt name class = elim (cases_lt m b) [
    | inl less ↦ within n b m p s r gn gb gm less lt name class
    | inr back ↦
        let place : m ≡ b = omega arith in
        let one : r ≡ s = same_Some r s (sym gm ∙ ap (slice_get content) place ∙ gb) in
        (ap (λ (x : Package). x.name) (sym one) ∙ name, ap (λ (x : Package). class_of x.version) (sym one) ∙ class)
  ]

  module _ (q : Problem) (root : ℕ) (only : IsOnlyRoot q content root) where
    pub other_place : (m : ℕ) (r : Package) → IsOther q content m r → m ≡ root → ⊥
    other_place m r o e =
        let there = (only m).1 e in
        let one : r ≡ there.0 = same_Some r there.0 (sym o.0 ∙ there.1) in
        true≢false (sym there.2 ∙ ap (is_root q) (sym one) ∙ o.1)

    pub is_other : (b : ℕ) (s : Package) → slice_get content b ≡ Some s → (b ≡ root → ⊥) → is_root q s ≡ false
    is_other b s got n = by (is_root q s) refl
      where
        by : (x : Bool) → is_root q s ≡ x → x ≡ false
        by true e = absurd (n ((only b).0 (s, got, e)))
        by false e = refl

    -- at the root itself
    pub root_alone : (n : ℕ) → n ≡ root → (false ≡ false) ↔ IsFreeOf q content two_in_class n
    root_alone n e = (λ h m p r lt o u name class. other_place n p o e, λ h. refl)

    -- where only the root stands before
    pub first_alone : (n : ℕ) → ((m : ℕ) → m < n → m ≡ root) → (false ≡ false) ↔ IsFreeOf q content two_in_class n
    first_alone n h = (λ e m p r lt o u name class. other_place m r u (h m lt), λ e. refl)

    like_of : (s p : Package) → s.name ≡ p.name → class_of s.version ≡ class_of p.version → is_like s p ≡ true
    like_of s p name class =
        and_from (same_text s.name p.name) (same_class (class_of s.version) (class_of p.version))
        (subst (λ x. same_text s.name x ≡ true) name (text-refl s.name))
        (subst (λ x. same_class (class_of s.version) x ≡ true) class (class-refl (class_of s.version)))

    -- the last one before decides
    pub second_by : (n b : ℕ) (p s : Package) → slice_get content n ≡ Some p → slice_get content b ≡ Some s
        → (n ≡ root → ⊥) → b < n → (b ≡ root → ⊥)
        → ((m : ℕ) → m < n → (m ≡ root → ⊥) → m ≤ b) → (is_like s p ≡ false) ↔ IsFreeOf q content two_in_class n
    second_by n b p s gn gb here lt there last = (free, alone (is_like s p) refl)
      where
        free : is_like s p ≡ false → IsFreeOf q content two_in_class n
        free e m t r before o u name class =
            let one : t ≡ p = same_Some t p (sym o.0 ∙ gn) in
            let near = stands_between n b m p s r gn gb u.0 (last m before (other_place m r u)) lt
            (name ∙ ap (λ (x : Package). x.name) one) (class ∙ ap (λ (x : Package). class_of x.version) one) in
            true≢false (sym (like_of s p near.0 near.1) ∙ e)

        alone : (x : Bool) → is_like s p ≡ x → IsFreeOf q content two_in_class n → x ≡ false
        alone false e h = refl
        alone true e h =
            let same = both (same_text s.name p.name) (same_class (class_of s.version) (class_of p.version)) e in
            absurd (h b p s lt (gn, is_other n p gn here) (gb, is_other b s gb there) (text-same s.name p.name same.0)
            (class-same (class_of s.version) (class_of p.version) same.1))
