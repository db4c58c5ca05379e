-- In package order the packages of a name stand side by side: what is looked for by name isn't among those of lower
-- names.
use Rattle.std.proofs.Common.{◌≡◌, ℕ, zero, suc, ◌<◌, ◌≤◌, Bool, true, false, cond, ◌&&◌, List, [], ◌∷◌, drop, find}
use Rattle.std.proofs.Common.{length, get_or, Some, option_map, slice_get, is_some, refl, sym, ap, ◌∙◌, subst}
use Rattle.std.proofs.Common.{arith, inl, inr, true≢false, Ordering}
use Rattle.std.specs.List.{AllWithin}
use Rattle.std.specs.List.Sorted.{IsPartitionedBy}
use Rattle.std.specs.Ordering.{is_gt, is_lt, ordering_index, ordering_then}
use Rattle.std.specs.declared.cmp.Ordering.TheVariants.{Less, Equal, Greater}
use Rattle.std.proofs.lemmas.Bool.{cases_lt}
use Rattle.std.proofs.lemmas.Map.Lookups.{exact_bytes}
use Rattle.semver.specs.Identifiers.{parts_text}
use Rattle.std.proofs.lemmas.List.{length-map}
use Rattle.std.proofs.lemmas.Option.{slice_get-get_or, slice_get-map}
use Rattle.lockfile.specs.inner.Views.{package_view, package_views}
use Rattle.lockfile.specs.declared.package.Package as locked
use Rattle.classes.proofs.GroupLemmas.{not_below}
use Rattle.model.specs.Content.{Package, Problem}
use Rattle.model.specs.Axioms.{is_lower}
use Rattle.model.specs.Order.{package_cmp, precedence, source_cmp, text_cmp, version_cmp, IsContent}
use Rattle.model.specs.Selection.{Class, class_of, IsValidSelection}
use Rattle.model.specs.Summary.{same_text}
use Rattle.model.specs.Vertices.{same_class}
use Rattle.model.proofs.Contents.{text-equal}
use Rattle.model.proofs.Owners.{root_parts}
use Rattle.model.proofs.Same.{text-same}
use Rattle.model.proofs.Tests.{below-less}
use Rattle.selection.proofs.NameOrder.{names_rise}
use Rattle.lockfile.specs.inner.Search.{named_cmp}
use Rattle.lookups.proofs.Pieces as class_order
use Rattle.guiding.specs.inner.Found.{before_by, is_before, is_locked, is_sourceless}
use Rattle.guiding.proofs.Owners.{sourceless_root}

-- what is found is past those that fail
pub find_past : {X : Type 0} (t : X → Bool) (xs : List X) (n : ℕ) → n ≤ length xs → AllWithin (λ x. t x ≡ false) xs 0 n
    → find t (drop n xs) ≡ find t xs
find_past t xs zero le h = refl
find_past t [] (suc n) le h = absurd (omega (arith, le))
find_past t (x ∷ xs) (suc n) le h =
    find_past t xs n (omega (arith, le)) (λ k e l u. h (suc k) e (omega arith) (omega (arith, u)))
    ∙ sym (ap (λ b. cond b (Some x) (find t xs)) (h zero x (omega arith) (omega arith)))

view_at : (ps : List locked.Package) (i : ℕ) (d : locked.Package)
    → get_or (package_views ps) i (package_view d) ≡ package_view (get_or ps i d)
view_at [] i d = refl
view_at (p ∷ ps) zero d = refl
view_at (p ∷ ps) (suc i) d = view_at ps i d

module _ (name : List ℕ) where
  pub lower_first : (ps : List locked.Package) → IsContent (package_views ps)
      → IsPartitionedBy (λ p. is_lt (named_cmp name (package_view p))) ps
  lower_first ps formed i j d le lt h = elim (cases_lt i j) [
    | inl less ↦
        let before : package_cmp (package_view (get_or ps i d)) (package_view (get_or ps j d)) ≡ Less =
        subst (λ r. package_cmp (package_view (get_or ps i d)) r ≡ Less) (view_at ps j d)
        (subst (λ p. package_cmp p (get_or (package_views ps) j (package_view d)) ≡ Less) (view_at ps i d)
        (formed.in_order i j (package_view d) less (omega (arith, lt, length-map ps package_view)))) in
        below-less (named_cmp name (package_view (get_or ps i d))) (named_cmp name (package_view (get_or ps j d)))
        (names_rise name (package_view (get_or ps i d)) (package_view (get_or ps j d)) before) h
    | inr ge ↦ let same : j ≡ i =
        omega (arith, le, ge) in subst (λ k. is_lt (named_cmp name (package_view (get_or ps k d))) ≡ true) same h
  ]

  -- a package of a lower name isn't one of this name
  pub lower_is_other : (k : Class) (p : Package) → is_lt (named_cmp name p) ≡ true → is_locked name k p ≡ false
  lower_is_other k p h = by (is_some p.source) (same_text name p.name) refl (same_class k (class_of p.version))
    where
      by : (a b : Bool) → same_text name p.name ≡ b → (c : Bool) → (a && b && c) ≡ false
      by false false e c = refl
      by true false e c = refl
      by false true e c = refl
      by true true e c = absurd (true≢false (sym h ∙ ap is_lt (text-equal p.name name (sym (text-same name p.name e)))))

-- ---- by name and class

no_newer : (o t s : Ordering) → ordering_then (ordering_then o t) s ≡ Less → is_gt o ≡ false
no_newer Less t s e = refl
no_newer Equal t s e = refl
no_newer Greater t s e = let no : Greater ≡ Less = e in cc

module _ (name : List ℕ) (k : Class) where
  lower_of_name : (p r : Package) → named_cmp name p ≡ Equal → named_cmp name r ≡ Equal → package_cmp p r ≡ Less
      → is_lower (class_of r.version) k ≡ true → is_lower (class_of p.version) k ≡ true
  lower_of_name p r here there less l =
      let one : text_cmp p.name r.name ≡ Equal =
      text-equal p.name r.name (exact_bytes p.name name here ∙ sym (exact_bytes r.name name there)) in
      let rest = sym (ap (λ o. ordering_then o
      (ordering_then (version_cmp p.version r.version) (source_cmp p.source r.source))) one) ∙ less in
      class_order.lower_first (class_of p.version) (class_of r.version) k
      (not_below p.version r.version (no_newer (precedence p.version r.version)
      (text_cmp (parts_text p.version) (parts_text r.version)) (source_cmp p.source r.source) rest)) l

  before_rises : (p r : Package) → package_cmp p r ≡ Less → is_before name k r ≡ true → is_before name k p ≡ true
  before_rises p r less h = by (named_cmp name p) refl (named_cmp name r) refl (names_rise name p r less) h
    where
      by : (a : Ordering) → named_cmp name p ≡ a → (b : Ordering) → named_cmp name r ≡ b
          → ordering_index a ≤ ordering_index b → before_by b (is_lower (class_of r.version) k) ≡ true
          → before_by a (is_lower (class_of p.version) k) ≡ true
      by Less x b y le h = refl
      by a x Greater y le h = absurd (true≢false (sym h))
      by Equal x Equal y le h = lower_of_name p r x y less h
      by Equal x Less y le h = absurd (omega arith)
      by Greater x Less y le h = absurd (omega arith)
      by Greater x Equal y le h = absurd (omega arith)

  pub before_parted : (ps : List locked.Package) → IsContent (package_views ps)
      → IsPartitionedBy (λ p. is_before name k (package_view p)) ps
  before_parted ps formed i j d le lt h = elim (cases_lt i j) [
    | inl less ↦
        let before : package_cmp (package_view (get_or ps i d)) (package_view (get_or ps j d)) ≡ Less =
        subst (λ r. package_cmp (package_view (get_or ps i d)) r ≡ Less) (view_at ps j d)
        (subst (λ p. package_cmp p (get_or (package_views ps) j (package_view d)) ≡ Less) (view_at ps i d)
        (formed.in_order i j (package_view d) less (omega (arith, lt, length-map ps package_view)))) in
        before_rises (package_view (get_or ps i d)) (package_view (get_or ps j d)) before h
    | inr ge ↦ let same : j ≡ i =
        omega (arith, le, ge) in subst (λ n. is_before name k (package_view (get_or ps n d)) ≡ true) same h
  ]

  -- a package of a lower name or class isn't the one
  pub before_is_other : (p : Package) → is_before name k p ≡ true → is_locked name k p ≡ false
  before_is_other p h = by (named_cmp name p) refl h
    where
      at_end : (a b c : Bool) → c ≡ false → (a && b && c) ≡ false
      at_end false b c e = refl
      at_end true false c e = refl
      at_end true true c e = e

      by : (o : Ordering) → named_cmp name p ≡ o → before_by o (is_lower (class_of p.version) k) ≡ true
          → is_locked name k p ≡ false
      by Less e h = lower_is_other name k p (ap is_lt e)
      by Equal e h = at_end (is_some p.source) (same_text name p.name) (same_class k (class_of p.version))
          (class_order.apart_below k (class_of p.version) h)
      by Greater e h = absurd (true≢false (sym h))

-- nor is the root among those of lower names than its own
module _ (q : Problem) (ps : List locked.Package) (valid : IsValidSelection q (package_views ps)) where
  sourced_by : (k : ℕ) (p : Package) → slice_get (package_views ps) k ≡ Some p → is_lt (named_cmp q.name p) ≡ true
      → is_sourceless p ≡ false
  sourced_by k p got h = by (is_sourceless p) refl
    where
      named : is_sourceless p ≡ true → q.name ≡ p.name
      named s = (root_parts q p (sourceless_root q (package_views ps) valid k p got s)).1

      by : (b : Bool) → is_sourceless p ≡ b → b ≡ false
      by false s = refl
      by true s = absurd (true≢false (sym h ∙ ap is_lt (text-equal p.name q.name (sym (named s)))))

  pub lower_is_sourced : (k : ℕ) (e : locked.Package) → k < length ps
      → is_lt (named_cmp q.name (package_view (get_or ps k e))) ≡ true
      → is_sourceless (package_view (get_or ps k e)) ≡ false
  lower_is_sourced k e lt h = sourced_by k (package_view (get_or ps k e))
      (slice_get-map package_view ps k ∙ ap (option_map package_view) (slice_get-get_or ps k e lt)) h
