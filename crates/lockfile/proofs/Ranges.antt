-- Among packages in order those that are wanted stand next to one another: a binary search gives the first that isn't
-- below them, and it and the next one tell whether one alone is wanted.
use Rattle.std.proofs.Common.{◌≡◌, ℕ, zero, suc, ◌+◌, ◌<◌, ◌≤◌, Bool, true, false, List, [], ◌∷◌, map, length, get_or}
use Rattle.std.proofs.Common.{slice_get, Option, Some, None, option_map, refl, sym, ◌∙◌, ap, arith, Ordering, inl, inr}
use Rattle.std.specs.Cmp.{IsTotalOrder}
use Rattle.std.specs.List.{AllByRecursion}
use Rattle.std.specs.List.Sorted.{IsPartitionedBy, IsPartitionPoint, IsNonDecreasingBy, IsStrictlySortedBy}
use Rattle.std.specs.Ordering.{is_lt, is_eq, ordering_then, ordering_index}
use Rattle.std.specs.declared.cmp.Ordering.TheVariants.{Less, Equal, Greater}
use Rattle.std.proofs.lemmas.Bool.{cases_lt}
use Rattle.std.proofs.lemmas.Cmp.{alike_right, nat_list_cmp_total}
use Rattle.std.proofs.lemmas.List.{length-map}
use Rattle.std.proofs.lemmas.Option.{slice_get-map, slice_get-get_or}
use Rattle.std.proofs.Math.ListN.{get_or-map}
use Rattle.std.proofs.lemmas.Map.Keys.{Less-from_sorted}
use Rattle.semver.specs.Identifiers.{parts_of}
use Rattle.model.specs.Content.{Package, Content, passes}
use Rattle.model.specs.Order.{text_cmp, version_cmp, source_cmp, package_cmp}
use Rattle.lockfile.specs.Locks.{locked_packages, only, places, places_from}
use Rattle.lockfile.specs.inner.Views.{unlinked_views, locked_view, locked_views}
use Rattle.lockfile.specs.declared.packages.UnlinkedPackage.{UnlinkedPackage}
use Rattle.lockfile.specs.inner.Search.{IsOrdered, wanted_cmp, is_wanted}
use Rattle.lockfile.specs.declared.meaning.Wanted.{Wanted}
use Rattle.lockfile.specs.declared.meaning.Wanted.TheVariants.{Name, Version, Source}
use Rattle.model.proofs.PackageOrder.{version_total, source_total}
use Rattle.model.proofs.Sorting.{each-weaker}
use Rattle.model.proofs.Tests.{then-equal, below-less, beside, index-most}

-- ---- an answer that rises along an order

-- a comparison in two parts rises if its second part does where the first ties: o compares two elements, u and v are
-- where they stand beside a third
rises-step : (o u v : Ordering) → (o ≡ Less → v ≡ Less → u ≡ Less)
    → (o ≡ Less → v ≡ Equal → u ≡ Less) → (o ≡ Equal → u ≡ v)
    → (q x y : Ordering) → (q ≡ Less → ordering_index x ≤ ordering_index y) → ordering_then o q ≡ Less
    → ordering_index (ordering_then u x) ≤ ordering_index (ordering_then v y)
rises-step Greater u v f g h q x y k e = cc
rises-step Equal u v f g h q x y k e = rw (h refl) (same v)
  where
    same : (v : Ordering) → ordering_index (ordering_then v x) ≤ ordering_index (ordering_then v y)
    same Less = omega arith
    same Equal = k e
    same Greater = omega arith
rises-step Less u Less f g h q x y k e = rw (f refl refl) (omega arith)
rises-step Less u Equal f g h q x y k e = rw (g refl refl) (omega arith)
rises-step Less u Greater f g h q x y k e = index-most (ordering_then u x)

pub rises-then : {A : Type 0} {R : A → A → Ordering} (o : IsTotalOrder R) (a b c : A) (q x y : Ordering)
    → (q ≡ Less → ordering_index x ≤ ordering_index y) → ordering_then (R a b) q ≡ Less
    → ordering_index (ordering_then (R a c) x) ≤ ordering_index (ordering_then (R b c) y)
rises-then {R = R} o a b c q x y k e =
    rises-step (R a b) (R a c) (R b c) (λ h l. o.trans a b c h l) (λ h l. sym (alike_right o b c a l) ∙ h)
    (λ h. o.congr a b c h) q x y k e

-- ---- the wanted packages

pub then-assoc : (r s t : Ordering) → ordering_then (ordering_then r s) t ≡ ordering_then r (ordering_then s t)
then-assoc Less s t = refl
then-assoc Equal s t = refl
then-assoc Greater s t = refl

-- by name
rises-name : (a b c : List ℕ) (q x y : Ordering) → (q ≡ Less → ordering_index x ≤ ordering_index y)
    → ordering_then (text_cmp a b) q ≡ Less
    → ordering_index (ordering_then (text_cmp a c) x) ≤ ordering_index (ordering_then (text_cmp b c) y)
rises-name a b c = rises-then nat_list_cmp_total a b c

pub wanted-rises : (w : Wanted) (p r : Package) → package_cmp p r ≡ Less
    → ordering_index (wanted_cmp w p) ≤ ordering_index (wanted_cmp w r)
wanted-rises (Name n) p r e =
    let rises = rises-name p.name r.name n.now _ Equal Equal (λ h. omega arith) e in
    rw (then-equal (text_cmp p.name n.now), then-equal (text_cmp r.name n.now)) at rises
wanted-rises (Version n v) p r e =
    let wanted = parts_of v.now in
    rises-name p.name r.name n.now _ _ _ (λ h.
    let rises = rises-then version_total p.version r.version wanted _ Equal Equal (λ k. omega arith) h in
    rw (then-equal (version_cmp p.version wanted), then-equal (version_cmp r.version wanted)) at rises) e
wanted-rises (Source n v s) p r e =
    let wanted = parts_of v.now in
    rises-name p.name r.name n.now _ _ _ (λ h.
    rises-then version_total p.version r.version wanted (source_cmp p.source r.source) _ _
    (beside source_total p.source r.source (option_map (λ t. t.now) s)) h) e

same-packages : (ps : List UnlinkedPackage) → locked_packages (unlinked_views ps) ≡ locked_views ps
same-packages [] = refl
same-packages (p ∷ ps) = ap (λ rest. locked_view p ∷ rest) (same-packages ps)

-- where a package stands
abbrev pub order_to : Wanted → UnlinkedPackage → Ordering
order_to w p = wanted_cmp w (locked_view p)

-- packages in order stand beside those that are wanted in rising order
pub order_to-rises : (w : Wanted) (ps : List UnlinkedPackage) → IsOrdered (locked_packages (unlinked_views ps))
    → IsNonDecreasingBy (λ p. ordering_index (order_to w p)) ps
order_to-rises w ps s i j d l k = elim (cases_lt i j) [
  | inl less ↦
      let sorted : IsOrdered (locked_views ps) = rw same-packages at s in
      let inside : j < length (locked_views ps) = rw length-map k in
      let below = Less-from_sorted package_cmp (locked_views ps) i j (locked_view d) sorted less inside in
      wanted-rises w (locked_view (get_or ps i d)) (locked_view (get_or ps j d))
      (rw (get_or-map locked_view ps i d, get_or-map locked_view ps j d) at below)
  | inr back ↦ let e : i ≡ j = omega arith in rw e (omega arith)
]

pub less-partitioned : (w : Wanted) (ps : List UnlinkedPackage) → IsOrdered (locked_packages (unlinked_views ps))
    → IsPartitionedBy (λ p. is_lt (order_to w p)) ps
less-partitioned w ps s i j d l k h =
    below-less (order_to w (get_or ps i d)) (order_to w (get_or ps j d)) (order_to-rises w ps s i j d l k) h

-- ---- once a package is above those that are wanted, the later ones are

pub above : (r s : Ordering) → ordering_index r ≤ ordering_index s → is_eq r ≡ true → is_eq s ≡ false → s ≡ Greater
above r Greater l h k = refl
above r Equal l h k = cc
above Equal Less l h k = absurd (omega arith)
above Less Less l h k = cc
above Greater Less l h k = cc

greater : (r s : Ordering) → ordering_index r ≤ ordering_index s → r ≡ Greater → is_eq s ≡ false
greater r Less l h = refl
greater r Greater l h = refl
greater Greater Equal l h = absurd (omega arith)
greater Less Equal l h = cc
greater Equal Equal l h = cc

-- once one isn't wanted, none of the later ones is
pub none-later : (w : Wanted) (p : Package) (ps : Content) → IsOrdered (p ∷ ps) → wanted_cmp w p ≡ Greater
    → AllByRecursion (λ r. is_wanted w r ≡ false) ps
unfolding IsStrictlySortedBy
none-later w p ps s h = each-weaker (λ r. package_cmp p r ≡ Less) (λ r. is_wanted w r ≡ false)
    (λ r less. greater (wanted_cmp w p) (wanted_cmp w r) (wanted-rises w p r less) h) ps s.0

-- ---- the only place that passes

none-from : {X : Type 0} (test : X → Bool) (n : ℕ) (xs : List X) → AllByRecursion (λ x. test x ≡ false) xs
    → places_from n test xs ≡ []
none-from test n [] h = refl
none-from test n (x ∷ xs) h = rw h.0 (none-from test (n + 1) xs h.1)

pub places-map : {X Y : Type 0} (test : Y → Bool) (f : X → Y) (n : ℕ) (xs : List X)
    → places_from n test (map f xs) ≡ places_from n (λ x. test (f x)) xs
places-map test f n [] = refl
places-map test f n (x ∷ xs) = rw (places-map test f (n + 1) xs) refl

-- ---- from the first that isn't below those that are wanted

-- the packages before a place are below those that are wanted, and the one there isn't
abbrev IsFirst : Wanted → Content → ℕ → Type 0
IsFirst w [] i = Unit {0}
IsFirst w (p ∷ ps) zero = is_lt (wanted_cmp w p) ≡ false
IsFirst w (p ∷ ps) (suc i) = (is_lt (wanted_cmp w p) ≡ true) × IsFirst w ps i

first-found : (w : Wanted) (ps : List UnlinkedPackage) (i : ℕ) → IsPartitionPoint (λ p. is_lt (order_to w p) ≡ true)
    (λ p. is_lt (order_to w p) ≡ false) ps i → IsFirst w (locked_views ps) i
first-found w [] i h = tt
first-found w (p ∷ ps) zero h = h.1 0 p (omega arith) (omega arith)
first-found w (p ∷ ps) (suc i) h = (
  h.0 0 p (omega arith) (omega arith),
  first-found w ps i
      (λ k d a b. h.0 (suc k) d (omega arith) (omega arith), λ k d a b. h.1 (suc k) d (omega arith) (omega arith)),
)

lower : (r : Ordering) → is_lt r ≡ true → is_eq r ≡ false
lower Less l = refl
lower Equal l = cc
lower Greater l = cc

higher : (r : Ordering) → is_lt r ≡ false → is_eq r ≡ false → r ≡ Greater
higher Less l e = cc
higher Equal l e = cc
higher Greater l e = refl

-- what is the only place, if here says whether the package there is wanted, and next whether the one after it is
abbrev pub only_there : ℕ → Bool → Bool → Option ℕ
only_there place false next = None
only_there place true true = None
only_there place true false = Some place

only-begin : (w : Wanted) (m : ℕ) (p : Package) (ps : Content) → IsOrdered (p ∷ ps) → is_wanted w p ≡ true
    → only (places_from m (is_wanted w) (p ∷ ps)) ≡ only_there m true (passes (is_wanted w) (slice_get ps 0))
unfolding IsStrictlySortedBy
only-begin w m p [] s h = rw h refl
only-begin w m p (r ∷ rs) s h = by_case (is_wanted w r) refl
  where
    by_case : (b : Bool) → is_wanted w r ≡ b
        → only (places_from m (is_wanted w) (p ∷ (r ∷ rs))) ≡ only_there m true (is_wanted w r)
    by_case true e = rw (h, e) refl
    by_case false e =
        let past : wanted_cmp w r ≡ Greater = above (wanted_cmp w p) (wanted_cmp w r) (wanted-rises w p r s.0.0) h e in
        rw (h, e, none-from (is_wanted w) (m + 1 + 1) rs (none-later w r rs s.1 past)) refl

only-first : (w : Wanted) (m i : ℕ) (ps : Content) → IsOrdered ps → IsFirst w ps i
    → only (places_from m (is_wanted w) ps)
    ≡ only_there (m + i) (passes (is_wanted w) (slice_get ps i)) (passes (is_wanted w) (slice_get ps (suc i)))
unfolding IsStrictlySortedBy
only-first w m i [] s h = refl
only-first w m zero (p ∷ ps) s h = by_case (is_wanted w p) refl
  where
    by_case : (b : Bool) → is_wanted w p ≡ b → only (places_from m (is_wanted w) (p ∷ ps))
        ≡ only_there (m + 0) (is_wanted w p) (passes (is_wanted w) (slice_get ps 0))
    by_case true e =
        let place : m ≡ m + 0 = omega arith in
        let next = passes (is_wanted w) (slice_get ps 0) in
        only-begin w m p ps s e ∙ ap (λ n. only_there n true next) place ∙ ap (λ b. only_there (m + 0) b next) (sym e)
    by_case false e =
        rw (e, none-from (is_wanted w) (m + 1) ps (none-later w p ps s (higher (wanted_cmp w p) h e))) refl
only-first w m (suc i) (p ∷ ps) s h =
    let place : m + 1 + i ≡ m + suc i = omega arith in
    rw (lower (wanted_cmp w p) h.0, only-first w (m + 1) i ps s.1 h.1, place) refl

-- ---- in the words of the calls

-- the place that a search found, and whether the package there and the next one are wanted
abbrev pub Told : Wanted → List UnlinkedPackage → ℕ → Bool → Bool → Type 0
Told w ps first here next = (here ≡ passes (is_wanted w) (slice_get (locked_views ps) first))
    × (next ≡ passes (is_wanted w) (slice_get (locked_views ps) (first + 1)))

only-told : (w : Wanted) (ps : List UnlinkedPackage) (first : ℕ) (here next : Bool)
    → IsOrdered (locked_packages (unlinked_views ps))
    → IsPartitionPoint (λ p. is_lt (order_to w p) ≡ true) (λ p. is_lt (order_to w p) ≡ false) ps first
    → Told w ps first here next
    → only_there first here next ≡ only (places (is_wanted w) (locked_packages (unlinked_views ps)))
only-told w ps first here next s h t =
    let sorted : IsOrdered (locked_views ps) = rw same-packages at s in
    let found = only-first w 0 first (locked_views ps) sorted (first-found w ps first h) in
    let start : 0 + first ≡ first = omega arith in
    let after : first + 1 ≡ suc first = omega arith in
    let here-is = t.0 in
    let next-is = rw after at t.1 in
    rw (same-packages ps, here-is, next-is) (sym (rw start at found))

next-fails : (place : ℕ) (here : Bool) → only_there place here true ≡ None
next-fails place true = refl
next-fails place false = refl

pub wanted-twice : (w : Wanted) (ps : List UnlinkedPackage) (first : ℕ) (here next : Bool)
    → IsOrdered (locked_packages (unlinked_views ps))
    → IsPartitionPoint (λ p. is_lt (order_to w p) ≡ true) (λ p. is_lt (order_to w p) ≡ false) ps first
    → Told w ps first here next → next ≡ true
    → None ≡ only (places (is_wanted w) (locked_packages (unlinked_views ps)))
wanted-twice w ps first here next s h t e =
    sym (ap (only_there first here) e ∙ next-fails first here) ∙ only-told w ps first here next s h t

pub wanted-there : (w : Wanted) (ps : List UnlinkedPackage) (first : ℕ) (here next : Bool)
    → IsOrdered (locked_packages (unlinked_views ps))
    → IsPartitionPoint (λ p. is_lt (order_to w p) ≡ true) (λ p. is_lt (order_to w p) ≡ false) ps first
    → Told w ps first here next → here ≡ true → next ≡ false
    → Some first ≡ only (places (is_wanted w) (locked_packages (unlinked_views ps)))
wanted-there w ps first here next s h t e f =
    sym (ap (λ b. only_there first b next) e ∙ ap (only_there first true) f) ∙ only-told w ps first here next s h t

pub wanted-nowhere : (w : Wanted) (ps : List UnlinkedPackage) (first : ℕ) (here next : Bool)
    → IsOrdered (locked_packages (unlinked_views ps))
    → IsPartitionPoint (λ p. is_lt (order_to w p) ≡ true) (λ p. is_lt (order_to w p) ≡ false) ps first
    → Told w ps first here next → here ≡ false
    → None ≡ only (places (is_wanted w) (locked_packages (unlinked_views ps)))
wanted-nowhere w ps first here next s h t e =
    sym (ap (λ b. only_there first b next) e) ∙ only-told w ps first here next s h t

-- ---- the only one by those beside it

not-lower : (r t : Ordering) → ordering_index r ≤ ordering_index t → is_eq r ≡ true → is_lt t ≡ false
not-lower r Equal l e = refl
not-lower r Greater l e = refl
not-lower Equal Less l e = absurd (omega arith)
not-lower Less Less l e = cc
not-lower Greater Less l e = cc

lower-one : (r t : Ordering) → ordering_index r ≤ ordering_index t → is_eq t ≡ true → is_eq r ≡ false → is_lt r ≡ true
lower-one Less t l e f = refl
lower-one Equal t l e f = cc
lower-one Greater Equal l e f = absurd (omega arith)
lower-one Greater Less l e f = cc
lower-one Greater Greater l e f = cc

-- whether the package at a place is wanted
wanted-at : (w : Wanted) (ps : List UnlinkedPackage) (i : ℕ) (d : UnlinkedPackage) → i < length ps
    → passes (is_wanted w) (slice_get (locked_views ps) i) ≡ is_eq (order_to w (get_or ps i d))
wanted-at w ps i d inside = ap (passes (is_wanted w)) (slice_get-map locked_view ps i
    ∙ ap (option_map locked_view) (slice_get-get_or ps i d inside))

-- those that are wanted begin at a place, if the package there is wanted and the one before it isn't
begin-there : (w : Wanted) (ps : List UnlinkedPackage) (i : ℕ) → IsOrdered (locked_packages (unlinked_views ps))
    → i < length ps → passes (is_wanted w) (slice_get (locked_views ps) i) ≡ true
    → ((before : ℕ) → i ≡ suc before → passes (is_wanted w) (slice_get (locked_views ps) before) ≡ false)
    → IsPartitionPoint (λ p. is_lt (order_to w p) ≡ true) (λ p. is_lt (order_to w p) ≡ false) ps i
begin-there w ps i s inside here alone = (under i inside here alone, over)
  where
    over : (k : ℕ) (d : UnlinkedPackage) → i ≤ k → k < length ps → is_lt (order_to w (get_or ps k d)) ≡ false
    over k d l u = not-lower (order_to w (get_or ps i d)) (order_to w (get_or ps k d)) (order_to-rises w ps s i k d l u)
        (sym (wanted-at w ps i d inside) ∙ here)

    under : (i : ℕ) → i < length ps → passes (is_wanted w) (slice_get (locked_views ps) i) ≡ true
        → ((before : ℕ) → i ≡ suc before → passes (is_wanted w) (slice_get (locked_views ps) before) ≡ false)
        → (k : ℕ) (d : UnlinkedPackage) → 0 ≤ k → k < i → is_lt (order_to w (get_or ps k d)) ≡ true
    under zero inside here alone k d z l = absurd (omega (arith, l))
    under (suc b) inside here alone k d z l =
        let last : b < length ps = omega (arith, inside) in
        let below = lower-one (order_to w (get_or ps b d)) (order_to w (get_or ps (suc b) d))
        (order_to-rises w ps s b (suc b) d (omega arith) inside)
        (sym (wanted-at w ps (suc b) d inside) ∙ here) (sym (wanted-at w ps b d last) ∙ alone b refl) in
        below-less (order_to w (get_or ps k d)) (order_to w (get_or ps b d))
        (order_to-rises w ps s k b d (omega (arith, l)) last) below

pub wanted-alone : (w : Wanted) (ps : List UnlinkedPackage) (i : ℕ) (here before next : Bool)
    → IsOrdered (locked_packages (unlinked_views ps)) → i < length ps → Told w ps i here next
    → ((b : ℕ) → i ≡ suc b → before ≡ passes (is_wanted w) (slice_get (locked_views ps) b))
    → here ≡ true → before ≡ false → next ≡ false
    → Some i ≡ only (places (is_wanted w) (locked_packages (unlinked_views ps)))
wanted-alone w ps i here before next s inside t told e f g =
    wanted-there w ps i here next s
    (begin-there w ps i s inside (sym t.0 ∙ e) (λ b is. sym (told b is) ∙ f)) t e g
