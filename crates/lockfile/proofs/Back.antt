-- The table that a content is spelled as says that content.
use Rattle.std.proofs.Common.{◌≡◌, ℕ, ◌<◌, ◌≤◌, true, false, nat_eq, nat_lt, cond, List, [], ◌∷◌, map, length, get_or}
use Rattle.std.proofs.Common.{Option, Some, None, Ok, Ordering, refl, ◌∙◌, ap, arith}
use Rattle.std.specs.List.{AllByRecursion, All, AllPairs, zip}
use Rattle.std.specs.List.Sorted.{IsStrictlySortedBy, IsPermutation}
use Rattle.std.specs.Option.{ok_or}
use Rattle.std.specs.Ordering.{nat_cmp, is_gt, eq_by_cmp}
use Rattle.std.specs.declared.cmp.Ordering.TheVariants.{Less}
use Rattle.std.proofs.lemmas.Bool.Decides.{nat_tests}
use Rattle.std.proofs.lemmas.Cmp.{nat_cmp_total}
use Rattle.std.proofs.lemmas.List.Elements.{recursion_from_All}
use Rattle.std.proofs.lemmas.List.Sorted.{IsPermutation-refl, IsPermutation-sym, IsPermutation-cons}
use Rattle.std.proofs.lemmas.List.Sorted.{IsPermutation-trans, IsPermutation-middle}
use Rattle.std.proofs.lemmas.Map.Keys.{IsDistinct-from_sorted}
use Rattle.std.proofs.lemmas.Option.{slice_get-get_or}
use Rattle.toml.specs.Data.{as_str, table}
use Rattle.semver.specs.Grammar.{IsValid}
use Rattle.semver.specs.Parse.{Parts}
use Rattle.semver.proofs.Grammar.{version_parts-complete}
use Rattle.features.specs.Names.{is_package_name}
use Rattle.model.specs.Content.{Package, Content}
use Rattle.model.specs.Order.{package_cmp, IsContent, has_alike, put_in, in_order}
use Rattle.lockfile.specs.Locks.{Unlinked, version_known, unlinked_of, each_item, packages_at}
use Rattle.lockfile.specs.Locks.{unlinked_alike, unlinked_cmp, ordered_packages, locked_packages, linked, place_meant}
use Rattle.lockfile.specs.Locks.{places_meant, ordered_places, list_of, lists_of, content_of, content_of_table}
use Rattle.lockfile.specs.Locks.{content_of_bytes, table_of_bytes, most_bytes}
use Rattle.lockfile.specs.inner.Search.{IsOrdered, IsRead}
use Rattle.lockfile.specs.Spelling.{dependency_text, listed_cmp, at_places, list_texts, spelling, text_items}
use Rattle.lockfile.specs.Spelling.{section_of, sections_of, table_of, IsPlain, IsWritable}
use Rattle.lockfile.specs.inner.Written.{AreRead}
use Rattle.lockfile.specs.declared.fault.LockFault.TheVariants.{LockShape}
use Rattle.lockfile.proofs.Means.{unlisted, text-means, means-unlisted}
use Rattle.lockfile.proofs.PackageOrder.{package-eq, unlinked_total}
use Rattle.lockfile.proofs.PlaceOrder.{repeats}
use Rattle.model.proofs.Sorting.{each-weaker, each-in_order, none-from_distinct, has_alike-agrees, in_order-sorted}
use Rattle.model.proofs.Sorting.{distinct-sorted}
use Rattle.lockfile.proofs.Stable.{in_order-map}
use Rattle.lockfile.proofs.Writing.{strictly-sorted}

-- ---- `in_order` keeps the elements

put-permutes : {X : Type 0} (R : X → X → Ordering) (x : X) (ys : List X) → IsPermutation (x ∷ ys) (put_in R x ys)
put-permutes R x [] = IsPermutation-refl (x ∷ [])
put-permutes R x (y ∷ ys) =
    elim (is_gt (R x y)) as (λ b. IsPermutation (x ∷ (y ∷ ys)) (cond b (y ∷ put_in R x ys) (x ∷ (y ∷ ys)))) [
      | true ↦ IsPermutation-trans (x ∷ (y ∷ ys)) (y ∷ (x ∷ ys)) (y ∷ put_in R x ys)
          (IsPermutation-sym (y ∷ (x ∷ ys)) (x ∷ (y ∷ ys)) (IsPermutation-middle (y ∷ []) x ys))
          (IsPermutation-cons y (x ∷ ys) (put_in R x ys) (put-permutes R x ys))
      | false ↦ IsPermutation-refl (x ∷ (y ∷ ys))
    ]

in_order-permutes : {X : Type 0} (R : X → X → Ordering) (xs : List X) → IsPermutation xs (in_order R xs)
in_order-permutes R [] = IsPermutation-refl []
in_order-permutes R (x ∷ xs) = IsPermutation-trans (x ∷ xs) (x ∷ in_order R xs) (put_in R x (in_order R xs))
    (IsPermutation-cons x xs (in_order R xs) (in_order-permutes R xs)) (put-permutes R x (in_order R xs))

-- ---- a list is read back

there : (content : Content) (d : Package) (ns : List ℕ) → AllByRecursion (λ n. n < length content) ns
    → at_places content ns ≡ map (λ n. get_or content n d) ns
there content d [] h = refl
there content d (n ∷ ns) h = rw (slice_get-get_or content n d h.0, there content d ns h.1) refl

texts-mean : (content : Content) (d : Package) (ns : List ℕ) → IsOrdered content → AreRead content
    → AllByRecursion (λ n. n < length content) ns
    → places_meant (map unlisted content) (map (dependency_text content) (map (λ n. get_or content n d) ns)) ≡ Ok ns
unfolding places_meant
texts-mean content d [] o r h = refl
texts-mean content d (n ∷ ns) o r h =
    let first : place_meant (map unlisted content) (dependency_text content (get_or content n d)) ≡ Some n =
    means-unlisted content (dependency_text content (get_or content n d))
    ∙ text-means content n (get_or content n d) o r (slice_get-get_or content n d h.0) in
    rw (first, texts-mean content d ns o r h.1) refl

sorted-back : (ns ms : List ℕ) → IsPermutation ms ns → IsStrictlySortedBy nat_cmp ns → ordered_places ms ≡ Ok ns
sorted-back ns ms p s =
    let none : has_alike nat_eq ms ≡ false =
    repeats ms ∙ none-from_distinct (eq_by_cmp nat_cmp) ms (distinct-sorted nat_cmp_total ms ns p s) in
    rw (none, in_order-sorted nat_cmp_total ms ns p s) refl

list-back : (content : Content) (p : Package) → IsOrdered content → AreRead content
    → AllByRecursion (λ n. n < length content) p.list → IsStrictlySortedBy nat_cmp p.list
    → list_of (map unlisted content) (list_texts content p) ≡ Ok p.list
list-back content p o r h s =
    let f : ℕ → Package = λ n. get_or content n p in
    let S : ℕ → ℕ → Ordering = λ a b. listed_cmp (f a) (f b) in
    let ns = in_order S p.list in
    let texts : list_texts content p ≡ map (dependency_text content) (map f ns) =
    rw (there content p p.list h, in_order-map listed_cmp f p.list) refl in
    let meant : places_meant (map unlisted content) (list_texts content p) ≡ Ok ns =
    rw texts (texts-mean content p ns o r (each-in_order S (λ n. n < length content) p.list h)) in
    rw meant (sorted-back p.list ns (IsPermutation-sym p.list ns (in_order-permutes S p.list)) s)

-- ---- a section is read back

texts-back : (texts : List (List ℕ)) → each_item (λ d. ok_or (as_str d) LockShape) (text_items texts) ≡ Ok texts
unfolding each_item
texts-back [] = refl
texts-back (text ∷ texts) = rw (texts-back texts) refl

section-back : (name : List ℕ) (version : Parts) (source checksum : Option (List ℕ)) (list : List ℕ)
    (texts : List (List ℕ)) → is_package_name name ≡ true → IsValid version → IsPlain source → IsPlain checksum
    → unlinked_of (table (section_of (record {
      name = name;
      version = version;
      source = source;
      checksum =
          checksum;
      list = list;
    }) texts))
    ≡ Ok (record {
      locked =
          record { name = name; version = version; source = source; checksum = checksum; list = [] };
      texts = texts;
    })
unfolding unlinked_of
section-back name version None None list [] n v s c = rw (n, version_parts-complete version v) refl
section-back name version None None list (t ∷ ts) n v s c =
    rw (n, version_parts-complete version v, texts-back (t ∷ ts)) refl
section-back name version None (Some b) list [] n v s c = rw (n, version_parts-complete version v, c) refl
section-back name version None (Some b) list (t ∷ ts) n v s c =
    rw (n, version_parts-complete version v, c, texts-back (t ∷ ts)) refl
section-back name version (Some a) None list [] n v s c = rw (n, version_parts-complete version v, s) refl
section-back name version (Some a) None list (t ∷ ts) n v s c =
    rw (n, version_parts-complete version v, s, texts-back (t ∷ ts)) refl
section-back name version (Some a) (Some b) list [] n v s c = rw (n, version_parts-complete version v, s, c) refl
section-back name version (Some a) (Some b) list (t ∷ ts) n v s c =
    rw (n, version_parts-complete version v, s, c, texts-back (t ∷ ts)) refl

-- ---- the packages are read back

abbrev unlinked : Content → Package → Unlinked
unlinked content p = record { locked = unlisted p; texts = list_texts content p }

sections-back : (content ps : Content) → AllByRecursion IsWritable ps
    → each_item unlinked_of (sections_of content ps) ≡ Ok (map (unlinked content) ps)
unfolding each_item
sections-back content [] h = refl
sections-back content (p ∷ ps) h =
    let first : unlinked_of (table (section_of p (list_texts content p))) ≡ Ok (unlinked content p) =
    section-back p.name p.version p.source p.checksum p.list
    (list_texts content p) h.0.named h.0.reads h.0.source h.0.checksum in
    rw (first, sections-back content ps h.1) refl

packages-back : (content ps : Content) → AllByRecursion IsWritable ps → ps ≡ content
    → packages_at (table_of content) ≡ Ok (map (unlinked content) content)
packages-back content [] h e = rw (← e) refl
packages-back content (p ∷ ps) h e = rw (← e) (sections-back (p ∷ ps) (p ∷ ps) h)

each-above : (content : Content) (p : Package) (ps : Content) → AllByRecursion (λ r. package_cmp p r ≡ Less) ps
    → AllByRecursion (λ u. unlinked_cmp (unlinked content p) u ≡ Less) (map (unlinked content) ps)
each-above content p [] h = tt
each-above content p (r ∷ rs) h = (h.0, each-above content p rs h.1)

still-sorted : (content ps : Content) → IsOrdered ps → IsStrictlySortedBy unlinked_cmp (map (unlinked content) ps)
unfolding IsStrictlySortedBy
still-sorted content [] s = tt
still-sorted content (p ∷ ps) s = (each-above content p ps s.0, still-sorted content ps s.1)

still-read : (content ps : Content) → AreRead ps
    → AllByRecursion (λ (u : Unlinked). IsRead u.locked) (map (unlinked content) ps)
still-read content [] r = tt
still-read content (p ∷ ps) r = (r.0, still-read content ps r.1)

order-back : (content : Content) → IsOrdered content → AreRead content
    → ordered_packages (map (unlinked content) content) ≡ Ok (map (unlinked content) content)
order-back content o r =
    let us = map (unlinked content) content in
    let sorted = still-sorted content content o in
    let same = has_alike-agrees (λ (u : Unlinked). IsRead u.locked) unlinked_alike (eq_by_cmp unlinked_cmp)
    (λ u v h k. package-eq u.locked v.locked h k) us (still-read content content r) in
    let none : has_alike unlinked_alike us ≡ false =
    same ∙ none-from_distinct (eq_by_cmp unlinked_cmp) us (IsDistinct-from_sorted unlinked_cmp us sorted) in
    rw (none, in_order-sorted unlinked_total us us (IsPermutation-refl us) sorted) refl

-- ---- the lists are read back

locked-are : (content ps : Content) → locked_packages (map (unlinked content) ps) ≡ map unlisted ps
locked-are content [] = refl
locked-are content (p ∷ ps) = ap (λ rest. unlisted p ∷ rest) (locked-are content ps)

abbrev Listed : Content → Package → Type 0
Listed content p = AllByRecursion (λ n. n < length content) p.list × IsStrictlySortedBy nat_cmp p.list

lists-back : (content ps : Content) → IsOrdered content → AreRead content → AllByRecursion (Listed content) ps
    → lists_of (map unlisted content) (map (unlinked content) ps) ≡ Ok (map (λ p. p.list) ps)
unfolding lists_of
lists-back content [] o r h = refl
lists-back content (p ∷ ps) o r h = rw (list-back content p o r h.0.0 h.0.1, lists-back content ps o r h.1) refl

linked-back : (content ps : Content) → map linked (zip (map (unlinked content) ps) (map (λ p. p.list) ps)) ≡ ps
linked-back content [] = refl
linked-back content (p ∷ ps) = ap (λ rest. p ∷ rest) (linked-back content ps)

content-back : (content : Content) → IsOrdered content → AreRead content → AllByRecursion (Listed content) content
    → content_of (map (unlinked content) content) ≡ Ok content
unfolding content_of
content-back content o r h =
    rw (locked-are content content, lists-back content content o r h, linked-back content content) refl

-- ---- the whole table, and the whole text

less : (m n : ℕ) → m < n → nat_cmp m n ≡ Less
less m n l = grind (arith, nat_tests)

both : (P Q : Package → Type 0) (ps : Content) → AllByRecursion P ps → AllByRecursion Q ps
    → AllByRecursion (λ p. P p × Q p) ps
both P Q [] h k = tt
both P Q (p ∷ ps) h k = ((h.0, k.0), both P Q ps h.1 k.1)

writable-read : (ps : Content) → AllByRecursion IsWritable ps → AreRead ps
writable-read ps h = each-weaker IsWritable IsRead (λ p w. (w.named, w.reads)) ps h

pub table-back : (content : Content) → IsContent content → All IsWritable content
    → content_of_table (table_of content) ≡ Ok content
unfolding content_of_table
table-back content is all =
    let h = recursion_from_All IsWritable content all in
    let o : IsOrdered content = strictly-sorted package_cmp content is.in_order in
    let r = writable-read content h in
    let Within : Package → Type 0 = λ p. AllByRecursion (λ n. n < length content) p.list in
    let Rising : Package → Type 0 = λ p. IsStrictlySortedBy nat_cmp p.list in
    let within : AllByRecursion Within content = each-weaker (λ p. All (λ t. t < length content) p.list) Within
    (λ p w. recursion_from_All _ p.list w) content (recursion_from_All _ content is.within) in
    let rising : AllByRecursion Rising content = each-weaker (λ p. AllPairs (λ i j. i < j) p.list) Rising
    (λ p w. strictly-sorted nat_cmp p.list (λ i j d l k. less _ _ (w i j d l k))) content
    (recursion_from_All _ content is.rising) in
    rw (known content, packages-back content content h refl, order-back content o r)
    (content-back content o r (both Within Rising content within rising))
  where
    known : (content : Content) → version_known (table_of content) ≡ Ok tt
    known [] = refl
    known (p ∷ ps) = refl

pub bytes-back : (content : Content) → IsContent content → All IsWritable content
    → length (spelling content) ≤ most_bytes → table_of_bytes (spelling content) ≡ Ok (table_of content)
    → content_of_bytes (spelling content) ≡ Ok content
unfolding content_of_bytes
bytes-back content is h l e =
    let short : nat_lt most_bytes (length (spelling content)) ≡ false = grind (arith, nat_tests) in
    rw (short, e) (table-back content is h)
