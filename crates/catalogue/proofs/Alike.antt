-- Among packages in package order the one that is asked for is found by search.
use Rattle.std.proofs.Common.{◌≡◌, ◌≢◌, ℕ, ◌<◌, true, false, ◌&&◌, ◌||◌, List, [], ◌∷◌, length, get_or, Some, None}
use Rattle.std.proofs.Common.{Result, Ok, Err, is_ok, refl, sym, ap, ap₂, ◌∙◌, subst, arith, Ordering, inl, inr}
use Rattle.std.specs.List.{All, AllPairs, list_any}
use Rattle.std.specs.List.Sorted.{IsBinarySearchResult, IsSearchInRange, IsNonDecreasingBy}
use Rattle.std.specs.Ordering.{ordering_index, is_eq}
use Rattle.std.specs.declared.cmp.Ordering.TheVariants.{Less, Equal, Greater}
use Rattle.std.proofs.lemmas.Bool.{cases_lt}
use Rattle.std.proofs.lemmas.List.{length-map}
use Rattle.std.proofs.lemmas.List.Elements.{Contains-get_or}
use Rattle.std.proofs.Math.ListN.{get_or-map}
use Rattle.semver.specs.Grammar.{IsValid}
use Rattle.semver.specs.Parse.{Parts}
use Rattle.model.specs.Candidates.{is_locked}
use Rattle.model.specs.Content as model
use Rattle.model.specs.Content.{Content, same_version, same_option}
use Rattle.model.specs.Order.{text_cmp, version_cmp, package_cmp}
use Rattle.model.proofs.Lists.{to_any, to_map, all_first, all_rest}
use Rattle.model.proofs.Same.{version-same, version-refl}
use Rattle.model.proofs.Flips.{text-flips}
use Rattle.lockfile.specs.Locks.{is_alike}
use Rattle.lockfile.specs.inner.Views.{package_view, package_views}
use Rattle.lockfile.specs.declared.package.Package.{Package}
use Rattle.model.proofs.PackageOrder.{package_total}
use Rattle.model.proofs.Tests.{one_test, beside}
use Rattle.lockfile.proofs.PackageOrder.{then-eq, text-eq, version-eq, source-eq}
use Rattle.catalogue.proofs.Found.{less-other, greater-other}

-- the package that is asked for
abbrev pub wanted : List ℕ → Parts → List ℕ → model.Package
wanted name version source = record { name = name; version = version; source = Some source; checksum = None; list = [] }

alike-eq : (p r : model.Package) → IsValid p.version → IsValid r.version → is_alike p r ≡ is_eq (package_cmp p r)
alike-eq p r h k =
    sym (then-eq (text_cmp p.name r.name) _ ∙ ap₂ (λ a b. a && b) (text-eq p.name r.name)
    (then-eq (version_cmp p.version r.version) _
    ∙ ap₂ (λ a b. a && b) (version-eq p.version r.version h k) (source-eq p.source r.source)))

version-flips : (a b : Parts) → same_version a b ≡ same_version b a
version-flips a b =
    one_test _ _ (λ h. subst (λ x. same_version b x ≡ true) (sym (version-same a b h)) (version-refl b))
    (λ h. subst (λ x. same_version a x ≡ true) (sym (version-same b a h)) (version-refl a))

-- a package is locked where one that is alike is there
locked-alike : (old : Content) (source name : List ℕ) (v : Parts)
    → is_locked old source name v ≡ list_any (λ p. is_alike p (wanted name v source)) old
locked-alike [] source name v = refl
locked-alike (p ∷ ps) source name v =
    ap₂ (λ a b. a || b) (ap₂ (λ a b. a && (b && same_option p.source (Some source))) (text-flips name p.name)
    (version-flips v p.version)) (locked-alike ps source name v)

-- ---- the search

rises : (ps : List Package) (r : model.Package) → AllPairs (λ p q. package_cmp p q ≡ Less) (package_views ps)
    → IsNonDecreasingBy (λ p. ordering_index (package_cmp (package_view p) r)) ps
rises ps r h i j d le within = elim (cases_lt i j) [
  | inl less ↦
      let lt : package_cmp (get_or (package_views ps) i (package_view d)) (get_or (package_views ps) j (package_view d))
      ≡ Less = h i j (package_view d) less (rw length-map within) in
      beside package_total (package_view (get_or ps i d)) (package_view (get_or ps j d)) r
      (rw (get_or-map package_view ps i d, get_or-map package_view ps j d) at lt)
  | inr back ↦ let e : i ≡ j = omega arith in rw e (omega arith)
]

none-any : (ps : List Package) (r : model.Package) → IsValid r.version
    → All (λ p. package_cmp (package_view p) r ≢ Equal) ps → list_any (λ p. is_alike p r) (package_views ps) ≡ false
none-any [] r k h = refl
none-any (p ∷ ps) r k h =
    ap₂ (λ a b. a || b) (alike-eq (package_view p) r p.version_reads k ∙ other (package_cmp (package_view p) r)
    (all_first (λ (p : Package). package_cmp (package_view p) r ≢ Equal) p ps h))
    (none-any ps r k (all_rest (λ (p : Package). package_cmp (package_view p) r ≢ Equal) p ps h))
  where
    other : (o : Ordering) → o ≢ Equal → is_eq o ≡ false
    other Less n = refl
    other Equal n = absurd (n refl)
    other Greater n = refl

one-any : (ps : List Package) (r : model.Package) (i : ℕ) → IsValid r.version → i < length ps
    → ((d : Package) → package_cmp (package_view (get_or ps i d)) r ≡ Equal)
    → list_any (λ p. is_alike p r) (package_views ps) ≡ true
one-any [] r i k lt h = absurd (omega (arith, lt))
one-any (p ∷ ps) r i k lt h =
    let x = get_or (p ∷ ps) i p in
    to_any (λ q. is_alike q r) (package_views (p ∷ ps)) (package_view x)
    (to_map package_view (p ∷ ps) x (Contains-get_or (p ∷ ps) i p lt))
    (alike-eq (package_view x) r x.version_reads k ∙ ap is_eq (h p))

pub search_locks : (ps : List Package) (source name : List ℕ) (v : Parts) (found : Result ℕ ℕ) → IsValid v
    → AllPairs (λ p q. package_cmp p q ≡ Less) (package_views ps)
    → IsSearchInRange found (length ps)
    → IsBinarySearchResult (λ p. package_cmp (package_view p) (wanted name v source)) ps found
    → is_ok found ≡ is_locked (package_views ps) source name v
search_locks ps source name v (Ok i) k h within searched =
    sym (locked-alike (package_views ps) source name v ∙ one-any ps (wanted name v source) i k within searched)
search_locks ps source name v (Err i) k h within searched =
    let r = wanted name v source in
    let split = searched (rises ps r h) in
    sym (locked-alike (package_views ps) source name v ∙ none-any ps r k (λ j d inside. elim (cases_lt j i) [
      | inl less ↦ less-other (package_cmp (package_view (get_or ps j d)) r) (split.0 j d (omega arith) less)
      | inr back ↦ greater-other (package_cmp (package_view (get_or ps j d)) r) (split.1 j d back inside)
    ]))
