-- The text by which lists name a package means that package alone.
use Rattle.std.proofs.Common.{◌≡◌, ℕ, zero, suc, ◌+◌, Bool, true, false, ◌&&◌, ◌==◌, List, [], ◌∷◌, ◌++◌, map, length}
use Rattle.std.proofs.Common.{filter, slice_get, Option, Some, None, refl, sym, ◌∙◌, ap, subst, arith}
use Rattle.std.specs.List.{AllByRecursion}
use Rattle.std.specs.List.Sorted.{IsStrictlySortedBy}
use Rattle.std.specs.Option.{option_map_or, option_or}
use Rattle.std.specs.Ordering.{is_eq}
use Rattle.std.specs.declared.cmp.Ordering.TheVariants.{Less}
use Rattle.std.proofs.lemmas.Bool.{eqb-true, and_from}
use Rattle.std.proofs.lemmas.Cmp.{nat_list_cmp_total, tied_itself}
use Rattle.semver.specs.Identifiers.{parts_text}
use Rattle.semver.proofs.Grammar.{version_parts-complete}
use Rattle.model.specs.Content.{Package, Content, same_version, passes}
use Rattle.model.specs.Order.{text_cmp, version_cmp, package_cmp}
use Rattle.model.specs.Summary.{same_text}
use Rattle.lockfile.specs.Locks.{version_form, source_form, is_form, is_form_without_source, places_from, places, only}
use Rattle.lockfile.specs.Locks.{place_meant}
use Rattle.lockfile.specs.inner.Search.{IsOrdered, IsRead, is_named, is_versioned, is_sourced}
use Rattle.lockfile.specs.Spelling.{named, versioned, dependency_text}
use Rattle.lockfile.specs.inner.Written.{AreRead}
use Rattle.lockfile.proofs.Alone.{both-ways, version-ways, filter-agree, some-pass}
use Rattle.lockfile.proofs.Forms.{meant-name, meant-version, meant-source, none}
use Rattle.model.proofs.PackageOrder.{package_total, version_total}
use Rattle.lockfile.proofs.PackageOrder.{then-eq}
use Rattle.lockfile.proofs.Ranges.{places-map}
use Rattle.model.proofs.Sorting.{each-weaker}
use Rattle.lockfile.proofs.Spaces.{free-name, free-version}

-- ---- the only place that passes

no-places : (test : Package → Bool) (m : ℕ) (ps : Content) → length (filter test ps) ≡ 0 → places_from m test ps ≡ []
no-places test m [] h = refl
no-places test m (p ∷ ps) h = by_case (test p) refl (no-places test (m + 1) ps)
  where
    by_case : (b : Bool) → test p ≡ b → (length (filter test ps) ≡ 0 → places_from (m + 1) test ps ≡ [])
        → places_from m test (p ∷ ps) ≡ []
    by_case true e rest = let some : suc (length (filter test ps)) ≡ 0 = rw e at h in absurd (omega arith)
    by_case false e rest = rw e (rest (rw e at h))

only-place : (test : Package → Bool) (m n : ℕ) (ps : Content) → passes test (slice_get ps n) ≡ true
    → length (filter test ps) ≡ 1 → only (places_from m test ps) ≡ Some (m + n)
only-place test m n [] h k = cc
only-place test m zero (p ∷ ps) h k =
    let one : suc (length (filter test ps)) ≡ 1 = rw h at k in
    let place : m ≡ m + 0 = omega arith in
    rw (h, no-places test (m + 1) ps (omega arith)) (ap Some place)
only-place test m (suc n) (p ∷ ps) h k = by_case (test p) refl (only-place test (m + 1) n ps h)
  where
    by_case : (b : Bool) → test p ≡ b
        → (length (filter test ps) ≡ 1 → only (places_from (m + 1) test ps) ≡ Some (m + 1 + n))
        → only (places_from m test (p ∷ ps)) ≡ Some (m + suc n)
    by_case true e rest =
        let two : suc (length (filter test ps)) ≡ 1 = rw e at k in
        let some = some-pass test ps n h in
        absurd (omega arith)
    by_case false e rest =
        let place : m + 1 + n ≡ m + suc n = omega arith in
        rw e (rest (rw e at k) ∙ ap Some place)

places-length : (test : Package → Bool) (m : ℕ) (ps : Content)
    → length (places_from m test ps) ≡ length (filter test ps)
places-length test m [] = refl
places-length test m (p ∷ ps) = by_case (test p) refl (places-length test (m + 1) ps)
  where
    by_case : (b : Bool) → test p ≡ b → length (places_from (m + 1) test ps) ≡ length (filter test ps)
        → length (places_from m test (p ∷ ps)) ≡ length (filter test (p ∷ ps))
    by_case true e h = rw e (ap suc h)
    by_case false e h = rw e h

not-one : (ns : List ℕ) → (length ns ≡ 1 → ⊥) → only ns ≡ None
not-one [] h = refl
not-one (n ∷ []) h = absurd (h refl)
not-one (n ∷ (k ∷ ns)) h = refl

no-place : (test : Package → Bool) (ps : Content) → (length (filter test ps) ≡ 1 → ⊥) → only (places test ps) ≡ None
no-place test ps h = not-one (places test ps) (λ e. h (sym (places-length test 0 ps) ∙ e))

-- ---- a package is the only one of its name, version and source

later-differ : (q : Package) (ps : Content) → AllByRecursion (λ r. package_cmp q r ≡ Less) ps
    → AllByRecursion (λ r. is_eq (package_cmp r q) ≡ false) ps
later-differ q ps h = each-weaker (λ r. package_cmp q r ≡ Less) (λ r. is_eq (package_cmp r q) ≡ false)
    (λ r less. rw (package_total.antisymm r q, less) refl) ps h

at-place : (P : Package → Type 0) (ps : Content) (n : ℕ) (q : Package) → AllByRecursion P ps
    → slice_get ps n ≡ Some q → P q
at-place P [] n q h e = cc
at-place P (p ∷ ps) zero q h e = let same : p ≡ q = cc in subst P same h.0
at-place P (p ∷ ps) (suc n) q h e = at-place P ps n q h.1 e

own-place : (ps : Content) (m n : ℕ) (q : Package) → IsOrdered ps → slice_get ps n ≡ Some q
    → only (places_from m (λ r. is_eq (package_cmp r q)) ps) ≡ Some (m + n)
unfolding IsStrictlySortedBy
own-place [] m n q s e = cc
own-place (p ∷ ps) m zero q s e =
    let same : p ≡ q = cc in
    let place : m ≡ m + 0 = omega arith in
    rw (
      same,
      tied_itself package_total q,
      none (λ r. is_eq (package_cmp r q)) (m + 1) ps (later-differ q ps (rw same at s.0)),
    ) (ap Some place)
own-place (p ∷ ps) m (suc n) q s e =
    let less : package_cmp p q ≡ Less = at-place (λ r. package_cmp p r ≡ Less) ps n q s.0 e in
    let place : m + 1 + n ≡ m + suc n = omega arith in
    rw less (own-place ps (m + 1) n q s.1 e ∙ ap Some place)

sourced-place : (ps : Content) (n : ℕ) (q : Package) (o : Option (List ℕ)) → IsOrdered ps → slice_get ps n ≡ Some q
    → q.source ≡ o → only (places (is_sourced q.name q.version o) ps) ≡ Some n
sourced-place ps n q o s e is =
    let place : 0 + n ≡ n = omega arith in
    subst (λ t. only (places (is_sourced q.name q.version t) ps) ≡ Some n) is (own-place ps 0 n q s e ∙ ap Some place)

-- ---- of its name, of its name and version

pass-at : (test : Package → Bool) (ps : Content) (n : ℕ) (q : Package) → slice_get ps n ≡ Some q → test q ≡ true
    → passes test (slice_get ps n) ≡ true
pass-at test ps n q e h = rw e h

named-counts : (q : Package) (ps : Content) → length (filter (is_named q.name) ps) ≡ named ps q
named-counts q ps = ap length (filter-agree (is_named q.name) (λ r. same_text q.name r.name) ps (each ps))
  where
    each : (ps : Content) → AllByRecursion (λ r. is_named q.name r ≡ same_text q.name r.name) ps
    each [] = tt
    each (r ∷ rs) = (both-ways q.name r.name, each rs)

versioned-counts : (q : Package) (ps : Content) → IsRead q → AreRead ps
    → length (filter (is_versioned q.name q.version) ps) ≡ versioned ps q
versioned-counts q ps h k = ap length
    (filter-agree (is_versioned q.name q.version) (λ r. same_text q.name r.name && same_version q.version r.version) ps
    (each-weaker IsRead
    (λ r. is_versioned q.name q.version r ≡ (same_text q.name r.name && same_version q.version r.version)) (λ r i.
    let first = both-ways q.name r.name in
    let second = version-ways q.version r.version h.1 i.1 in
    then-eq (text_cmp r.name q.name) (version_cmp r.version q.version) ∙ rw (first, second) refl) ps k))

named-itself : (q : Package) → is_named q.name q ≡ true
named-itself q = ap is_eq (tied_itself nat_list_cmp_total q.name)

versioned-itself : (q : Package) → is_versioned q.name q.version q ≡ true
versioned-itself q = then-eq (text_cmp q.name q.name) (version_cmp q.version q.version)
    ∙ and_from _ _ (ap is_eq (tied_itself nat_list_cmp_total q.name)) (ap is_eq (tied_itself version_total q.version))

-- ---- the text of a package

else-some : (o p : Option ℕ) (n : ℕ) → o ≡ Some n → option_or o p ≡ Some n
else-some o p n e = rw e refl

else-other : (o p : Option ℕ) (n : ℕ) → o ≡ None → p ≡ Some n → option_or o p ≡ Some n
else-other o p n e f = rw e f

not-true : (n : ℕ) → (n == 1) ≡ false → n ≡ 1 → ⊥
not-true n h e = let no : (1 == 1) ≡ false = rw e at h in cc

pub text-means : (ps : Content) (n : ℕ) (q : Package) → IsOrdered ps → AreRead ps → slice_get ps n ≡ Some q
    → place_meant ps (dependency_text ps q) ≡ Some n
text-means ps n q s r e = by_name (named ps q == 1) refl
  where
    read : IsRead q
    read = at-place IsRead ps n q r e

    start : 0 + n ≡ n
    start = omega arith

    two : Option ℕ
    two =
        option_or (only (places (is_versioned q.name q.version) ps))
        (only (places (is_sourced q.name q.version None) ps))

    by_words : place_meant ps (version_form q) ≡ two
    by_words = meant-version q.name q.version (parts_text q.version) ps r (free-name q.name read.0)
        (free-version q.version read.1) (version_parts-complete q.version read.1)

    by_source : (o : Option (List ℕ)) → q.source ≡ o → (versioned ps q == 1) ≡ false
        → place_meant ps (option_map_or (source_form q) o (version_form q)) ≡ Some n
    by_source None is several = by_words ∙ else-other _ _ n (no-place (is_versioned q.name q.version) ps (λ f. not-true
        (versioned ps q) several (sym (versioned-counts q ps read r) ∙ f))) (sourced-place ps n q None s e is)
    by_source (Some t) is several =
        meant-source q.name q.version t (parts_text q.version) (40 ∷ (t ++ (41 ∷ []))) ps r (free-name q.name read.0)
        (free-version q.version read.1) (version_parts-complete q.version read.1) refl
        ∙ sourced-place ps n q (Some t) s e is

    by_version : (b : Bool) → (named ps q == 1) ≡ false → (versioned ps q == 1) ≡ b
        → place_meant ps (dependency_text ps q) ≡ Some n
    by_version true f g =
        let one : length (filter (is_versioned q.name q.version) ps) ≡ 1 =
        versioned-counts q ps read r ∙ eqb-true (versioned ps q) 1 g in
        let found = only-place (is_versioned q.name q.version) 0 n ps
        (pass-at (is_versioned q.name q.version) ps n q e (versioned-itself q)) one ∙ ap Some start in
        rw (f, g) (by_words ∙ else-some _ _ n found)
    by_version false f g = rw (f, g) (by_source q.source refl g)

    by_name : (b : Bool) → (named ps q == 1) ≡ b → place_meant ps (dependency_text ps q) ≡ Some n
    by_name true f =
        let one : length (filter (is_named q.name) ps) ≡ 1 = named-counts q ps ∙ eqb-true (named ps q) 1 f in
        rw f (meant-name q.name ps r (free-name q.name read.0) ∙ only-place (is_named q.name) 0 n ps
        (pass-at (is_named q.name) ps n q e (named-itself q)) one ∙ ap Some start)
    by_name false f = by_version (versioned ps q == 1) f refl

-- ---- what a text means doesn't depend on the lists

abbrev pub unlisted : Package → Package
unlisted p = record p { list = [] }

pub means-unlisted : (ps : Content) (text : List ℕ) → place_meant (map unlisted ps) text ≡ place_meant ps text
means-unlisted ps text =
    rw (places-map (is_form text) unlisted 0 ps, places-map (is_form_without_source text) unlisted 0 ps) refl
