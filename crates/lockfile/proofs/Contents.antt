-- What packages in order say is a content: in package order, and each list has places of it, each once, lowest first.
use Rattle.std.proofs.Common.{◌≡◌, ℕ, suc, ◌+◌, ◌<◌, ◌≤◌, Bool, true, false, nat_eq, List, [], ◌∷◌, map, length, Option}
use Rattle.std.proofs.Common.{Some, None, Result, Ok, Err, refl, sym, ◌∙◌, ap, subst, arith, if◌then◌else◌}
use Rattle.std.specs.List.{AllByRecursion, All, AllPairs, IsDistinct, zip}
use Rattle.std.specs.List.Sorted.{IsStrictlySortedBy}
use Rattle.std.specs.Option.{ok_or, option_or}
use Rattle.std.specs.Ordering.{nat_cmp, eq_by_cmp}
use Rattle.std.specs.declared.cmp.Ordering.TheVariants.{Less}
use Rattle.std.proofs.lemmas.Cmp.{nat_cmp_total}
use Rattle.std.proofs.lemmas.List.{length-map}
use Rattle.std.proofs.lemmas.List.Elements.{All-from_recursion}
use Rattle.std.proofs.lemmas.Map.Keys.{Less-from_sorted, below_from_sorted}
use Rattle.model.specs.Content.{Package, Content}
use Rattle.model.specs.Order.{package_cmp, IsContent, in_order, has_alike}
use Rattle.model.specs.Outcome.{◌>>=◌}
use Rattle.lockfile.specs.Locks.{Unlinked, locked_packages, linked, lists_of, list_of, places_meant, place_meant}
use Rattle.lockfile.specs.Locks.{ordered_places, only, places, places_from, is_form, is_form_without_source}
use Rattle.lockfile.specs.inner.Search.{IsOrdered}
use Rattle.lockfile.specs.declared.fault.LockFault.{LockFault}
use Rattle.lockfile.specs.declared.fault.LockFault.TheVariants.{LockShape}
use Rattle.lockfile.proofs.PlaceOrder.{repeats}
use Rattle.model.proofs.Sorting.{each-weaker, each-in_order, distinct-from_none, sorted-in_order}

-- ---- the places of a list

each-place : {X : Type 0} (test : X → Bool) (n m : ℕ) (xs : List X) → n + length xs ≤ m
    → AllByRecursion (λ i. i < m) (places_from n test xs)
each-place test n m [] l = tt
each-place test n m (x ∷ xs) l =
    let rest = each-place test (n + 1) m xs (omega arith) in
    elim (test x) as (λ b. AllByRecursion (λ i. i < m) (if b then n ∷ places_from (n + 1) test xs else
    places_from (n + 1) test xs)) [ true ↦ (omega arith, rest) | false ↦ rest ]

only-below : (m : ℕ) (ns : List ℕ) (i : ℕ) → AllByRecursion (λ n. n < m) ns → only ns ≡ Some i → i < m
only-below m [] i h e = cc
only-below m (n ∷ []) i h e = let same : n ≡ i = cc in subst (λ k. k < m) same h.0
only-below m (n ∷ (k ∷ ns)) i h e = cc

else-below : (m : ℕ) (ns ks : List ℕ) (i : ℕ) → AllByRecursion (λ n. n < m) ns → AllByRecursion (λ n. n < m) ks
    → (o : Option ℕ) → only ns ≡ o → option_or o (only ks) ≡ Some i → i < m
else-below m ns ks i h k None e f = only-below m ks i k f
else-below m ns ks i h k (Some j) e f = only-below m ns i h (e ∙ f)

meant-below : (ps : Content) (text : List ℕ) (i : ℕ) → place_meant ps text ≡ Some i → i < length ps
meant-below ps text i e = else-below (length ps) (places (is_form text) ps) (places (is_form_without_source text) ps) i
    (each-place (is_form text) 0 (length ps) ps (omega arith))
    (each-place (is_form_without_source text) 0 (length ps) ps (omega arith)) _ refl e

-- ---- one list

ok-place : (o : Option ℕ) (i : ℕ) → ok_or o LockShape ≡ Ok i → o ≡ Some i
ok-place None i e = cc
ok-place (Some j) i e = cc

-- what a chain of two steps gave
pub bind-ok : {A B : Type 0} (r : Result A LockFault) (f : A → Result B LockFault) (y : B) → (r >>= f) ≡ Ok y
    → (x : A) × (r ≡ Ok x) × (f x ≡ Ok y)
bind-ok (Ok x) f y e = (x, refl, e)
bind-ok (Err g) f y e = cc

pub ok-same : {A : Type 0} (x y : A) → let r : Result A LockFault =
    Ok x in let s : Result A LockFault = Ok y in r ≡ s → x ≡ y
ok-same x y e = cc

each-meant : (ps : Content) (texts : List (List ℕ)) (ns : List ℕ) → places_meant ps texts ≡ Ok ns
    → AllByRecursion (λ i. i < length ps) ns
unfolding places_meant
each-meant ps [] ns e = let none : [] ≡ ns = ok-same [] ns e in subst (AllByRecursion (λ i. i < length ps)) none tt
each-meant ps (text ∷ texts) ns e =
    let first = bind-ok (ok_or (place_meant ps text) LockShape) _ ns e in
    let rest = bind-ok (places_meant ps texts) _ ns first.2 in
    let all : first.0 ∷ rest.0 ≡ ns = ok-same (first.0 ∷ rest.0) ns rest.2 in
    subst (AllByRecursion (λ i. i < length ps)) all (
      meant-below ps text first.0
          (ok-place (place_meant ps text) first.0 first.1),
      each-meant ps texts rest.0 rest.1,
    )

-- each place is below m, and the next one is above it
pub record IsList (m : ℕ) (ns : List ℕ) : Type 0 where
  below : AllByRecursion (λ i. i < m) ns
  rising : IsStrictlySortedBy nat_cmp ns

ordered-ok : (ns ks : List ℕ) → ordered_places ns ≡ Ok ks → (b : Bool) → has_alike nat_eq ns ≡ b
    → (has_alike nat_eq ns ≡ false) × (in_order nat_cmp ns ≡ ks)
ordered-ok ns ks e true h = let is : ordered_places ns ≡ Err LockShape = rw h refl in cc
ordered-ok ns ks e false h =
    let is : ordered_places ns ≡ Ok (in_order nat_cmp ns) = rw h refl in
    (h, ok-same (in_order nat_cmp ns) ks (sym is ∙ e))

is-list : (m : ℕ) (ns ks : List ℕ) → AllByRecursion (λ i. i < m) ns → ordered_places ns ≡ Ok ks → IsList m ks
is-list m ns ks h e =
    let ordered = ordered-ok ns ks e _ refl in
    let distinct : IsDistinct (eq_by_cmp nat_cmp) ns =
    distinct-from_none (eq_by_cmp nat_cmp) ns (sym (repeats ns) ∙ ordered.0) in
    subst (IsList m) ordered.1
    (record { below = each-in_order nat_cmp (λ i. i < m) ns h; rising = sorted-in_order nat_cmp_total ns distinct })

list-ok : (ps : Content) (texts : List (List ℕ)) (ks : List ℕ) → list_of ps texts ≡ Ok ks → IsList (length ps) ks
list-ok ps texts ks e = let found = bind-ok (places_meant ps texts) ordered_places ks e in
    is-list (length ps) found.0 ks (each-meant ps texts found.0 found.1) found.2

-- ---- all lists

record AreLists (m : ℕ) (ps : List Unlinked) (lists : List (List ℕ)) : Type 0 where
  each : AllByRecursion (IsList m) lists
  long : length lists ≡ length ps

lists-ok : (content : Content) (ps : List Unlinked) (lists : List (List ℕ)) → lists_of content ps ≡ Ok lists
    → AreLists (length content) ps lists
unfolding lists_of
lists-ok content [] lists e = let none : [] ≡ lists =
    ok-same [] lists e in subst (AreLists (length content) []) none (record { each = tt; long = refl })
lists-ok content (p ∷ ps) lists e =
    let first = bind-ok (list_of content p.texts) _ lists e in
    let rest = bind-ok (lists_of content ps) _ lists first.2 in
    let all : first.0 ∷ rest.0 ≡ lists = ok-same (first.0 ∷ rest.0) lists rest.2 in
    let others = lists-ok content ps rest.0 rest.1 in
    subst (AreLists (length content) (p ∷ ps)) all
    (record { each = (list-ok content p.texts first.0 first.1, others.each); long = ap suc others.long })

-- ---- the packages with their lists

each-linked : (Q : List ℕ → Type 0) (ps : List Unlinked) (lists : List (List ℕ)) → AllByRecursion Q lists
    → AllByRecursion (λ (p : Package). Q p.list) (map linked (zip ps lists))
each-linked Q [] lists h = tt
each-linked Q (p ∷ ps) [] h = tt
each-linked Q (p ∷ ps) (l ∷ lists) h = (h.0, each-linked Q ps lists h.1)

above-linked : (p : Package) (ps : List Unlinked) (lists : List (List ℕ)) → AllByRecursion (λ r. package_cmp p r ≡ Less)
    (locked_packages ps) → AllByRecursion (λ r. package_cmp p r ≡ Less) (map linked (zip ps lists))
above-linked p [] lists h = tt
above-linked p (r ∷ rs) [] h = tt
above-linked p (r ∷ rs) (l ∷ lists) h = (h.0, above-linked p rs lists h.1)

sorted-linked : (ps : List Unlinked) (lists : List (List ℕ)) → IsOrdered (locked_packages ps)
    → IsOrdered (map linked (zip ps lists))
unfolding IsStrictlySortedBy
sorted-linked [] lists h = tt
sorted-linked (p ∷ ps) [] h = tt
sorted-linked (p ∷ ps) (l ∷ lists) h = (above-linked p.locked ps lists h.0, sorted-linked ps lists h.1)

length-linked : (ps : List Unlinked) (lists : List (List ℕ)) → length lists ≡ length ps
    → length (map linked (zip ps lists)) ≡ length ps
length-linked [] lists e = refl
length-linked (p ∷ ps) [] e = absurd (omega arith)
length-linked (p ∷ ps) (l ∷ lists) e = ap suc (length-linked ps lists (omega arith))

pub linked-content : (ps : List Unlinked) (lists : List (List ℕ)) → IsOrdered (locked_packages ps)
    → lists_of (locked_packages ps) ps ≡ Ok lists → IsContent (map linked (zip ps lists))
linked-content ps lists o e =
    let content = map linked (zip ps lists) in
    let found = lists-ok (locked_packages ps) ps lists e in
    let length-locked : length (locked_packages ps) ≡ length ps = simp length-map in
    let size : length content ≡ length (locked_packages ps) = length-linked ps lists found.long ∙ sym length-locked in
    let each = each-linked (IsList (length (locked_packages ps))) ps lists found.each in
    let Listed : Package → Type 0 = λ p. IsList (length (locked_packages ps)) p.list in
    let Within : Package → Type 0 = λ p. All (λ t. t < length content) p.list in
    let Rising : Package → Type 0 = λ p. AllPairs (λ i j. i < j) p.list in
    record {
      in_order = λ i j d l k. Less-from_sorted package_cmp content i j d (sorted-linked ps lists o) l k;
      within = All-from_recursion Within content (each-weaker Listed Within
          (λ p is. All-from_recursion (λ t. t < length content) p.list (rw size is.below)) content each);
      rising = All-from_recursion Rising content
          (each-weaker Listed Rising (λ p is i j d l k. below_from_sorted p.list i j d is.rising l k) content each);
    }
