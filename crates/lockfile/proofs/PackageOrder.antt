-- Two packages that are read tie in package order just where they are alike.
use Rattle.std.proofs.Common.{◌≡◌, ℕ, Bool, true, false, ◌&&◌, nat_eq, List, [], ◌∷◌, Option, Some, None, Ok, Err, refl}
use Rattle.std.proofs.Common.{sym, ◌∙◌, ap, arith, Ordering}
use Rattle.std.specs.Cmp.{IsTotalOrder}
use Rattle.std.specs.Cmp.Lexicographic.{slice_cmp, pointwise}
use Rattle.std.specs.List.{AllByRecursion, IsAllAdjacentAnswer}
use Rattle.std.specs.List.Sorted.{IsPermutation, IsSortedBy, IsStrictlySortedBy}
use Rattle.std.specs.Ordering.{nat_cmp, is_lt, is_eq, eq_by_cmp, ordering_then}
use Rattle.std.specs.declared.cmp.Ordering.TheVariants.{Less, Equal, Greater}
use Rattle.std.proofs.lemmas.Bool.Decides.{nat_tests}
use Rattle.std.proofs.lemmas.Cmp.{on_total, tied_itself}
use Rattle.std.proofs.lemmas.Bool.{and_parts}
use Rattle.semver.specs.Grammar.{IsValid}
use Rattle.semver.specs.Identifiers.{parts_text}
use Rattle.semver.specs.OrderLaws.{same_text}
use Rattle.semver.specs.Parse.{Parts, version_parts}
use Rattle.semver.proofs.Grammar.{version_parts-complete}
use Rattle.model.specs.Content.{Package, same_version, same_option}
use Rattle.model.specs.Order.{text_cmp, precedence, version_cmp, source_cmp, package_cmp, has_alike}
use Rattle.lockfile.specs.Locks.{Unlinked, is_alike, unlinked_alike, unlinked_cmp, ordered_packages, locked_packages}
use Rattle.lockfile.specs.inner.Views.{unlinked_view, unlinked_views}
use Rattle.lockfile.specs.declared.fault.LockFault.TheVariants.{LockShape}
use Rattle.lockfile.specs.declared.packages.UnlinkedPackage.{UnlinkedPackage}
use Rattle.model.proofs.PackageOrder.{version_total, package_total}
use Rattle.model.proofs.Same.{version-refl, version-same}
use Rattle.model.proofs.Sorting.{has_alike-agrees, ordered-run, alike-run}
use Rattle.model.proofs.Tests.{one_test}
use Rattle.lockfile.specs.inner.Search.{IsRead, IsOrdered}

-- ---- where they tie

pub then-eq : (r s : Ordering) → is_eq (ordering_then r s) ≡ (is_eq r && is_eq s)
then-eq Less s = refl
then-eq Equal s = refl
then-eq Greater s = refl

and-same : (a b c d : Bool) → a ≡ c → b ≡ d → (a && b) ≡ (c && d)
and-same a b c d p q = cc

pub text-eq : (a b : List ℕ) → is_eq (text_cmp a b) ≡ pointwise nat_eq a b
text-eq [] [] = refl
text-eq [] (y ∷ ys) = refl
text-eq (x ∷ xs) [] = refl
text-eq (x ∷ xs) (y ∷ ys) =
    then-eq (nat_cmp x y) (slice_cmp nat_cmp xs ys) ∙ and-same _ _ _ _ (grind (arith, nat_tests)) (text-eq xs ys)

pub source-eq : (a b : Option (List ℕ)) → is_eq (source_cmp a b) ≡ same_option a b
source-eq None None = refl
source-eq None (Some b) = refl
source-eq (Some a) None = refl
source-eq (Some a) (Some b) = text-eq a b

-- versions with one text are one
pub text-version : (v w : Parts) → IsValid v → IsValid w → parts_text v ≡ parts_text w → v ≡ w
text-version v w p q e =
    let first = version_parts-complete v p in
    let second = version_parts-complete w q in
    let both : version_parts (parts_text v) ≡ version_parts (parts_text w) = ap version_parts e in
    cc

pub version-tie : (v w : Parts) → IsValid v → IsValid w → is_eq (version_cmp v w) ≡ true → v ≡ w
version-tie v w p q h =
    let tie = and_parts (is_eq (precedence v w)) _
    (sym (then-eq (precedence v w) (text_cmp (parts_text v) (parts_text w))) ∙ h) in
    text-version v w p q (same_text (parts_text v) (parts_text w) (sym (text-eq (parts_text v) (parts_text w)) ∙ tie.1))

pub version-eq : (v w : Parts) → IsValid v → IsValid w → is_eq (version_cmp v w) ≡ same_version v w
version-eq v w p q =
    one_test _ _ (λ h. let e : v ≡ w = version-tie v w p q h in rw (← e) (version-refl v))
    (λ h. let e : v ≡ w = version-same v w h in rw (← e, tied_itself version_total) refl)

pub package-eq : (p r : Package) → IsRead p → IsRead r → is_alike p r ≡ is_eq (package_cmp p r)
package-eq p r h k =
    sym (then-eq (text_cmp p.name r.name) _ ∙ and-same _ _ _ _ (text-eq p.name r.name)
    (then-eq (version_cmp p.version r.version) _
    ∙ and-same _ _ _ _ (version-eq p.version r.version h.1 k.1) (source-eq p.source r.source)))

-- ---- a sort of packages, and a test of the neighbours

pub each-read : (ps : List UnlinkedPackage) → AllByRecursion IsRead (locked_packages (unlinked_views ps))
each-read [] = tt
each-read (p ∷ ps) = ((p.locked.named, p.locked.version_reads), each-read ps)

each-unlinked : (ps : List UnlinkedPackage) → AllByRecursion (λ (p : Unlinked). IsRead p.locked) (unlinked_views ps)
each-unlinked [] = tt
each-unlinked (p ∷ ps) = ((p.locked.named, p.locked.version_reads), each-unlinked ps)

pub unlinked_total : IsTotalOrder unlinked_cmp
unlinked_total = on_total (λ (p : Unlinked). p.locked) package_total

alike-tests : (ps : List UnlinkedPackage)
    → has_alike unlinked_alike (unlinked_views ps) ≡ has_alike (eq_by_cmp unlinked_cmp) (unlinked_views ps)
alike-tests ps = has_alike-agrees (λ (p : Unlinked). IsRead p.locked) unlinked_alike (eq_by_cmp unlinked_cmp)
    (λ p r h k. package-eq p.locked r.locked h k) (unlinked_views ps) (each-unlinked ps)

abbrev Neighbours : List UnlinkedPackage → Bool → Type 0
Neighbours ps r = IsAllAdjacentAnswer (λ x y b. b ≡ is_lt (unlinked_cmp (unlinked_view x) (unlinked_view y))) ps r

pub packages-ordered : (ps rs : List UnlinkedPackage) → IsPermutation ps rs → (r : Bool) → r ≡ true → Neighbours rs r
    → ordered_packages (unlinked_views ps) ≡ Ok (unlinked_views rs)
packages-ordered ps rs moved r e h =
    let both = ordered-run unlinked_total unlinked_view ps rs moved r e h in
    rw (alike-tests ps, both.0, both.1) refl

pub packages-alike : (ps rs : List UnlinkedPackage) → IsPermutation ps rs
    → IsSortedBy (λ x y. is_lt (unlinked_cmp (unlinked_view x) (unlinked_view y))) rs → (r : Bool) → r ≡ false
    → Neighbours rs r → ordered_packages (unlinked_views ps) ≡ Err LockShape
packages-alike ps rs moved s r e h =
    rw (alike-tests ps, alike-run unlinked_total unlinked_view ps rs moved s r e h) refl

each-locked : (p : Unlinked) (ps : List Unlinked) → AllByRecursion (λ r. unlinked_cmp p r ≡ Less) ps
    → AllByRecursion (λ r. package_cmp p.locked r ≡ Less) (locked_packages ps)
each-locked p [] h = tt
each-locked p (r ∷ rs) h = (h.0, each-locked p rs h.1)

pub locked-sorted : (ps : List Unlinked) → IsStrictlySortedBy unlinked_cmp ps → IsOrdered (locked_packages ps)
unfolding IsStrictlySortedBy
locked-sorted [] h = tt
locked-sorted (p ∷ ps) h = (each-locked p ps h.0, locked-sorted ps h.1)

pub packages-sorted : (ps rs : List UnlinkedPackage) → IsPermutation ps rs → (r : Bool) → r ≡ true → Neighbours rs r
    → IsOrdered (locked_packages (unlinked_views rs))
packages-sorted ps rs moved r e h =
    locked-sorted (unlinked_views rs) (ordered-run unlinked_total unlinked_view ps rs moved r e h).2
