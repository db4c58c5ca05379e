-- Among packages in order those that are wanted stand next to one another: one of them is the only one if the packages
-- beside it aren't wanted.
use Rattle.std.proofs.Common.{◌≡◌, ℕ, zero, suc, ◌+◌, ◌-◌, ◌≤◌, Bool, true, false, not, ◌&&◌, ◌==◌, cond, List, [], ◌∷◌}
use Rattle.std.proofs.Common.{length, filter, slice_get, Some, refl, sym, ◌∙◌, ap, arith, Ordering}
use Rattle.std.specs.List.{AllByRecursion}
use Rattle.std.specs.List.Sorted.{IsStrictlySortedBy}
use Rattle.std.specs.Ordering.{is_eq, ordering_index}
use Rattle.std.specs.declared.cmp.Ordering.TheVariants.{Less, Equal, Greater}
use Rattle.std.proofs.lemmas.Bool.Decides.{nat_tests}
use Rattle.std.proofs.lemmas.Cmp.{nat_list_eq_equiv, eq_by_cmp_equiv, tied_itself, nat_list_cmp_total}
use Rattle.std.proofs.lemmas.Option.{slice_get-map}
use Rattle.std.proofs.lemmas.Bool.{and_from}
use Rattle.std.proofs.Math.Bool.{and-false, and-true}
use Rattle.semver.specs.Grammar.{IsValid}
use Rattle.semver.specs.Parse.{Parts}
use Rattle.model.specs.Content.{Package, Content, same_version, passes}
use Rattle.model.specs.Order.{text_cmp, version_cmp}
use Rattle.model.specs.Summary.{same_text}
use Rattle.lockfile.specs.inner.Search.{IsOrdered, IsRead, named_cmp, versioned_cmp, wanted_cmp, is_wanted}
use Rattle.lockfile.specs.Spelling.{named, versioned}
use Rattle.lockfile.specs.inner.Views.{package_view, package_views}
use Rattle.lockfile.specs.inner.Written.{AreRead}
use Rattle.lockfile.specs.declared.package.Package.{Package as Locked}
use Rattle.lockfile.specs.declared.meaning.Wanted.{Wanted}
use Rattle.model.proofs.PackageOrder.{version_total}
use Rattle.lockfile.proofs.PackageOrder.{text-eq, version-eq, then-eq}
use Rattle.lockfile.proofs.Ranges.{wanted-rises, above, none-later}
use Rattle.model.proofs.Sorting.{each-weaker}

-- ---- where the packages stand beside those that are wanted

between : (r s t : Ordering) → ordering_index r ≤ ordering_index s → ordering_index s ≤ ordering_index t
    → is_eq r ≡ true → is_eq t ≡ true → is_eq s ≡ true
between r Equal t l k h e = refl
between Equal Less t l k h e = absurd (omega arith)
between Less Less t l k h e = cc
between Greater Less t l k h e = cc
between r Greater Equal l k h e = absurd (omega arith)
between r Greater Less l k h e = cc
between r Greater Greater l k h e = cc

-- ---- how many pass

filter-none : (test : Package → Bool) (ps : Content) → AllByRecursion (λ p. test p ≡ false) ps → filter test ps ≡ []
filter-none test [] h = refl
filter-none test (p ∷ ps) h = rw h.0 (filter-none test ps h.1)

pub some-pass : (test : Package → Bool) (ps : Content) (n : ℕ) → passes test (slice_get ps n) ≡ true
    → 1 ≤ length (filter test ps)
some-pass test [] n h = cc
some-pass test (p ∷ ps) zero h = rw h (omega arith)
some-pass test (p ∷ ps) (suc n) h =
    let rest = some-pass test ps n h in
    elim (test p) as
    (λ b. 1 ≤ length (cond b (p ∷ filter test ps) (filter test ps))) [ true ↦ omega arith | false ↦ rest ]

more-than-one : (n : ℕ) → 1 ≤ n → (suc n == 1) ≡ false
more-than-one n l = grind (arith, nat_tests)

pub first-alone : (w : Wanted) (p : Package) (ps : Content) → IsOrdered (p ∷ ps) → is_wanted w p ≡ true
    → not (passes (is_wanted w) (slice_get ps 0)) ≡ (length (filter (is_wanted w) (p ∷ ps)) == 1)
unfolding IsStrictlySortedBy
first-alone w p [] s h = rw h refl
first-alone w p (r ∷ rs) s h = by_case (is_wanted w r) refl
  where
    by_case : (b : Bool) → is_wanted w r ≡ b → not (is_wanted w r) ≡ (length (filter (is_wanted w) (p ∷ (r ∷ rs))) == 1)
    by_case true e = rw (h, e, more-than-one (suc (length (filter (is_wanted w) rs))) (omega arith)) refl
    by_case false e =
        let past : wanted_cmp w r ≡ Greater = above (wanted_cmp w p) (wanted_cmp w r) (wanted-rises w p r s.0.0) h e in
        rw (h, e, filter-none (is_wanted w) rs (none-later w r rs s.1 past)) refl

-- the package before one that is wanted is, if an earlier one is
near : (w : Wanted) (p : Package) (ps : Content) (n : ℕ) → IsOrdered (p ∷ ps) → is_wanted w p ≡ true
    → passes (is_wanted w) (slice_get ps (suc n)) ≡ true → passes (is_wanted w) (slice_get ps n) ≡ true
unfolding IsStrictlySortedBy
near w p [] n s h k = cc
near w p (r ∷ []) n s h k = cc
near w p (r ∷ (q ∷ qs)) zero s h k = between (wanted_cmp w p) (wanted_cmp w r) (wanted_cmp w q)
    (wanted-rises w p r s.0.0) (wanted-rises w r q s.1.0.0) h k
near w p (r ∷ (q ∷ qs)) (suc n) s h k = near w p (q ∷ qs) n (s.0.1, s.1.1) h k

pub later-alone : (w : Wanted) (ps : Content) (n : ℕ) → IsOrdered ps
    → passes (is_wanted w) (slice_get ps (suc n)) ≡ true
    → (not (passes (is_wanted w) (slice_get ps (suc (suc n)))) && not (passes (is_wanted w) (slice_get ps n)))
    ≡ (length (filter (is_wanted w) ps) == 1)
unfolding IsStrictlySortedBy
later-alone w [] n s h = cc
later-alone w (p ∷ []) n s h = cc
later-alone w (p ∷ (r ∷ rs)) zero s h = by_case (is_wanted w p) refl
  where
    by_case : (b : Bool) → is_wanted w p ≡ b → (not (passes (is_wanted w) (slice_get rs 0)) && not (is_wanted w p))
        ≡ (length (filter (is_wanted w) (p ∷ (r ∷ rs))) == 1)
    by_case true e = rw (e, h, more-than-one (suc (length (filter (is_wanted w) rs))) (omega arith))
        (and-false (not (passes (is_wanted w) (slice_get rs 0))))
    by_case false e =
        let first = first-alone w r rs s.1 h in
        rw e (and-true (not (passes (is_wanted w) (slice_get rs 0))) ∙ first)
later-alone w (p ∷ (r ∷ rs)) (suc n) s h = by_case (is_wanted w p) refl (later-alone w (r ∷ rs) n s.1 h)
  where
    by_case : (b : Bool) → is_wanted w p ≡ b
        → (not (passes (is_wanted w) (slice_get (r ∷ rs) (suc (suc n))))
        && not (passes (is_wanted w) (slice_get (r ∷ rs) n))) ≡ (length (filter (is_wanted w) (r ∷ rs)) == 1)
        → (not (passes (is_wanted w) (slice_get (r ∷ rs) (suc (suc n))))
        && not (passes (is_wanted w) (slice_get (r ∷ rs) n))) ≡ (length (filter (is_wanted w) (p ∷ (r ∷ rs))) == 1)
    by_case false e rest = rw e rest
    by_case true e rest =
        let beside : passes (is_wanted w) (slice_get (r ∷ rs) n) ≡ true = near w p (r ∷ rs) n s e h in
        let more : (suc (length (filter (is_wanted w) (r ∷ rs))) == 1) ≡ false =
        more-than-one _ (some-pass (is_wanted w) (r ∷ rs) (suc n) h) in
        rw (e, beside, more) (and-false (not (passes (is_wanted w) (slice_get (r ∷ rs) (suc (suc n))))))

-- ---- in the words of the call

-- what is known of a place other than the first, by the two places beside it
abbrev Beside : Wanted → Content → ℕ → ℕ → Type 0
Beside w ps after before =
    (not (passes (is_wanted w) (slice_get ps after)) && not (passes (is_wanted w) (slice_get ps before)))
    ≡ (length (filter (is_wanted w) ps) == 1)

pub alone-first : (w : Wanted) (ps : Content) (n : ℕ) (b : Bool) → n ≡ 0 → IsOrdered ps
    → passes (is_wanted w) (slice_get ps n) ≡ true → b ≡ passes (is_wanted w) (slice_get ps (n + 1))
    → not b ≡ (length (filter (is_wanted w) ps) == 1)
alone-first w [] n b z s h e = cc
alone-first w (p ∷ ps) zero b z s h e = rw e (first-alone w p ps s h)
alone-first w (p ∷ ps) (suc n) b z s h e = cc

alone-other : (w : Wanted) (ps : Content) (n : ℕ) → (n ≡ 0 → ⊥) → IsOrdered ps
    → passes (is_wanted w) (slice_get ps n) ≡ true → Beside w ps (n + 1) (n - 1)
alone-other w ps zero z s h = absurd (z refl)
alone-other w ps (suc n) z s h =
    let next : suc n + 1 ≡ suc (suc n) = omega arith in
    let last : suc n - 1 ≡ n = omega arith in
    rw (next, last) (later-alone w ps n s h)

-- where the next isn't wanted, and where it is
pub alone-last : (w : Wanted) (ps : Content) (n : ℕ) (a b : Bool) → (n ≡ 0 → ⊥) → IsOrdered ps
    → passes (is_wanted w) (slice_get ps n) ≡ true → a ≡ passes (is_wanted w) (slice_get ps (n + 1))
    → b ≡ passes (is_wanted w) (slice_get ps (n - 1)) → a ≡ false → not b ≡ (length (filter (is_wanted w) ps) == 1)
alone-last w ps n a b z s h e f g =
    let both = alone-other w ps n z s h in
    let after : passes (is_wanted w) (slice_get ps (n + 1)) ≡ false = sym e ∙ g in
    rw f (rw after at both)

pub alone-before : (w : Wanted) (ps : Content) (n : ℕ) (a : Bool) → (n ≡ 0 → ⊥) → IsOrdered ps
    → passes (is_wanted w) (slice_get ps n) ≡ true → a ≡ passes (is_wanted w) (slice_get ps (n + 1)) → a ≡ true
    → not a ≡ (length (filter (is_wanted w) ps) == 1)
alone-before w ps n a z s h e g =
    let both = alone-other w ps n z s h in
    let after : passes (is_wanted w) (slice_get ps (n + 1)) ≡ true = sym e ∙ g in
    rw g (rw after at both)

-- ---- of one name, of one name and version

pub both-ways : (a b : List ℕ) → is_eq (text_cmp b a) ≡ same_text a b
both-ways a b = text-eq b a ∙ sym (nat_list_eq_equiv.symm a b)

pub version-ways : (v w : Parts) → IsValid v → IsValid w → is_eq (version_cmp w v) ≡ same_version v w
version-ways v w p q = (eq_by_cmp_equiv version_total).symm w v ∙ version-eq v w p q

pub filter-agree : (s t : Package → Bool) (ps : Content) → AllByRecursion (λ p. s p ≡ t p) ps
    → filter s ps ≡ filter t ps
filter-agree s t [] h = refl
filter-agree s t (p ∷ ps) h = rw (h.0, filter-agree s t ps h.1) refl

pub are-read : (ps : List Locked) → AreRead (package_views ps)
are-read [] = tt
are-read (p ∷ ps) = ((p.named, p.version_reads), are-read ps)

pub holds-there : (w : Wanted) (ps : List Locked) (n : ℕ) (p : Locked) → slice_get ps n ≡ Some p
    → is_wanted w (package_view p) ≡ true → passes (is_wanted w) (slice_get (package_views ps) n) ≡ true
holds-there w ps n p e h = rw (slice_get-map package_view ps n, e) h

-- those that are wanted are those of the package's name, and those of its name and version
abbrev IsByName : Wanted → Package → Type 0
IsByName w p = (r : Package) → wanted_cmp w r ≡ named_cmp p.name r

abbrev IsByVersion : Wanted → Package → Type 0
IsByVersion w p = (r : Package) → wanted_cmp w r ≡ versioned_cmp p.name p.version r

name-test : (w : Wanted) (p r : Package) → IsByName w p → is_wanted w r ≡ same_text p.name r.name
name-test w p r e = ap is_eq (e r) ∙ both-ways p.name r.name

version-test : (w : Wanted) (p r : Package) → IsRead p → IsRead r → IsByVersion w p
    → is_wanted w r ≡ (same_text p.name r.name && same_version p.version r.version)
version-test w p r h k e =
    let first = both-ways p.name r.name in
    let second = version-ways p.version r.version h.1 k.1 in
    ap is_eq (e r) ∙ then-eq (text_cmp r.name p.name) (version_cmp r.version p.version) ∙ rw (first, second) refl

pub name-itself : (w : Wanted) (p : Package) → IsByName w p → is_wanted w p ≡ true
name-itself w p e = ap is_eq (e p) ∙ ap is_eq (tied_itself nat_list_cmp_total p.name)

pub version-itself : (w : Wanted) (p : Package) → IsByVersion w p → is_wanted w p ≡ true
version-itself w p e = ap is_eq (e p) ∙ then-eq (text_cmp p.name p.name) (version_cmp p.version p.version)
    ∙ and_from _ _ (ap is_eq (tied_itself nat_list_cmp_total p.name)) (ap is_eq (tied_itself version_total p.version))

pub own-name : (w : Wanted) (p : Package) (ps : Content) → AreRead ps → IsByName w p
    → (length (filter (is_wanted w) ps) == 1) ≡ (named ps p == 1)
own-name w p ps r e = ap (λ l. length l == 1) (filter-agree (is_wanted w) (λ q. same_text p.name q.name) ps
    (each-weaker IsRead (λ q. is_wanted w q ≡ same_text p.name q.name) (λ q h. name-test w p q e) ps r))

pub own-version : (w : Wanted) (p : Package) (ps : Content) → IsRead p → AreRead ps → IsByVersion w p
    → (length (filter (is_wanted w) ps) == 1) ≡ (versioned ps p == 1)
own-version w p ps h r e = ap (λ l. length l == 1)
    (filter-agree (is_wanted w) (λ q. same_text p.name q.name && same_version p.version q.version) ps
    (each-weaker IsRead (λ q. is_wanted w q ≡ (same_text p.name q.name && same_version p.version q.version))
    (λ q k. version-test w p q h k e) ps r))
