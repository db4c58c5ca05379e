-- Steps of the writer's loops: one element more of a list.
use Rattle.std.proofs.Common.{◌≡◌, ℕ, suc, ◌+◌, ◌<◌, List, [], ◌∷◌, ◌++◌, map, length, take, drop, get_or, slice_get}
use Rattle.std.proofs.Common.{Option, Some, None, option_map, refl, sym, ◌∙◌, ap, append_assoc, arith, Ordering}
use Rattle.std.specs.List.{AllByRecursion, AllPairs, flat_map, cons_option}
use Rattle.std.specs.List.Sorted.{IsStrictlySortedBy}
use Rattle.std.specs.declared.cmp.Ordering.TheVariants.{Less}
use Rattle.std.proofs.lemmas.Grind.{flat_map-append}
use Rattle.std.proofs.lemmas.List.{drop_more, take_more, map-append}
use Rattle.std.proofs.lemmas.Option.{slice_get-map}
use Rattle.semver.specs.Identifiers.{parts_text}
use Rattle.model.specs.Content.{Package, Content}
use Rattle.model.specs.Order.{in_order}
use Rattle.lockfile.specs.Spelling.{head, dependency_text, listed_cmp, at_places, list_texts, block, spelling}
use Rattle.lockfile.specs.inner.Written.{written_of, written_cmp, written_list, written_block}
use Rattle.lockfile.proofs.Stable.{in_order-map}

pub lines-more : {X Y : Type 0} (f : X → List ℕ) (v : Y → X) (xs : List Y) (i : ℕ) (d : Y) → i < length xs
    → flat_map f (map v (take (i + 1) xs)) ≡ flat_map f (map v (take i xs)) ++ f (v (get_or xs i d))
lines-more f v xs i d l = rw (take_more xs i d l, map-append, flat_map-append)
    (ap (λ t. flat_map f (map v (take i xs)) ++ t) (one (f (v (get_or xs i d)))))
  where
    one : (t : List ℕ) → t ++ [] ≡ t
    one [] = refl
    one (b ∷ bs) = ap (λ l. b ∷ l) (one bs)

-- what was found, and what is at one more place
pub place-there : {X : Type 0} (front xs : List X) (ps : List ℕ) (i : ℕ) (x : X) → i < length ps
    → Some x ≡ slice_get xs (get_or ps i 0) → front ++ at_places xs (drop i ps) ≡ at_places xs ps
    → (front ++ x ∷ []) ++ at_places xs (drop (i + 1) ps) ≡ at_places xs ps
place-there front xs ps i x l is h =
    append_assoc front (x ∷ []) (at_places xs (drop (i + 1) ps)) ∙ ap (λ t. front ++ t) (sym step) ∙ h
  where
    step : at_places xs (drop i ps) ≡ x ∷ at_places xs (drop (i + 1) ps)
    step = rw (drop_more ps i 0 l, ← is) refl

pub place-none : {X : Type 0} (front xs : List X) (ps : List ℕ) (i : ℕ) → i < length ps
    → None ≡ slice_get xs (get_or ps i 0) → front ++ at_places xs (drop i ps) ≡ at_places xs ps
    → front ++ at_places xs (drop (i + 1) ps) ≡ at_places xs ps
place-none front xs ps i l is h = ap (λ t. front ++ t) (sym step) ∙ h
  where
    step : at_places xs (drop i ps) ≡ at_places xs (drop (i + 1) ps)
    step = rw (drop_more ps i 0 l, ← is) refl

-- six writes, one after another
pub six : (o a b c d e f : List ℕ) {n m l k j i : List ℕ} → n ≡ o ++ a → m ≡ n ++ b → l ≡ m ++ c → k ≡ l ++ d
    → j ≡ k ++ e → i ≡ j ++ f → i ≡ o ++ (a ++ b ++ c ++ d ++ e ++ f)
six o a b c d e f p q r s t u = u ∙ ap (λ x. x ++ f)
    (t ∙ ap (λ x. x ++ e) (s ∙ ap (λ x. x ++ d) (r ∙ ap (λ x. x ++ c) (q ∙ ap (λ x. x ++ b) p)))) ∙ simp append_assoc

-- one element more was written
pub then-more : {X Y : Type 0} (f : X → List ℕ) (v : Y → X) (out : List ℕ) (ys : List Y) (i : ℕ)
    (y : Y) {now new : List ℕ} → i < length ys → y ≡ get_or ys i y
    → now ≡ out ++ flat_map f (map v (take i ys)) → new ≡ now ++ f (v y)
    → new ≡ out ++ flat_map f (map v (take (i + 1) ys))
then-more f v out ys i y l is h k =
    let more : flat_map f (map v (take (i + 1) ys)) ≡ flat_map f (map v (take i ys)) ++ f (v y) =
    lines-more f v ys i y l ∙ ap (λ x. flat_map f (map v (take i ys)) ++ f (v x)) (sym is) in
    k ∙ ap (λ t. t ++ f (v y)) h ∙ append_assoc out (flat_map f (map v (take i ys))) (f (v y))
    ∙ ap (λ t. out ++ t) (sym more)

-- ---- the whole text

filter_map-map : {X Y : Type 0} (f : X → Y) (xs : List X) (ns : List ℕ)
    → at_places (map f xs) ns ≡ map f (at_places xs ns)
filter_map-map f xs [] = refl
filter_map-map {X = X} f xs (n ∷ ns) = rw (slice_get-map f xs n, filter_map-map f xs ns) (one (slice_get xs n))
  where
    one : (o : Option X)
        → cons_option (option_map f o) (map f (at_places xs ns)) ≡ map f (cons_option o (at_places xs ns))
    one None = refl
    one (Some x) = refl

text-map : (content : Content) (ps : Content)
    → map (λ w. w.text) (map (written_of content) ps) ≡ map (dependency_text content) ps
text-map content [] = refl
text-map content (p ∷ ps) = ap (λ t. dependency_text content p ∷ t) (text-map content ps)

pub list-is : (content : Content) (p : Package)
    → map (λ w. w.text) (written_list (map (written_of content) content) (written_of content p)) ≡ list_texts content p
list-is content p =
    rw (
      filter_map-map (written_of content) content p.list,
      in_order-map written_cmp (written_of content)
          (at_places content p.list),
    ) (text-map content (in_order listed_cmp (at_places content p.list)))

blocks-are : (content all : Content)
    → flat_map (λ w. written_block w (written_list (map (written_of content) content) w)) (map (written_of content) all)
    ≡ flat_map (λ p. block p (parts_text p.version) (list_texts content p)) all
blocks-are content [] = refl
blocks-are content (p ∷ ps) = rw (list-is content p, blocks-are content ps) refl

pub whole-text : (content : Content)
    → head ++ flat_map (λ w. written_block w (written_list (map (written_of content) content) w))
    (map (written_of content) content) ≡ spelling content
unfolding spelling
whole-text content = ap (λ t. head ++ t) (blocks-are content content)

-- ---- a content is in package order

pub strictly-sorted : {X : Type 0} (R : X → X → Ordering) (xs : List X) → AllPairs (λ x y. R x y ≡ Less) xs
    → IsStrictlySortedBy R xs
unfolding IsStrictlySortedBy
strictly-sorted R [] h = tt
strictly-sorted {X = X} R (x ∷ xs) h = (
  above xs (λ k d l. h 0 (suc k) d (omega arith) (omega arith)),
  strictly-sorted R xs (λ i j d l k. h (suc i) (suc j) d (omega arith) (omega arith)),
)
  where
    above : (ys : List X) → ((k : ℕ) (d : X) → k < length ys → R x (get_or ys k d) ≡ Less)
        → AllByRecursion (λ y. R x y ≡ Less) ys
    above [] g = tt
    above (y ∷ ys) g = (g 0 y (omega arith), above ys (λ k d l. g (suc k) d (omega arith)))
