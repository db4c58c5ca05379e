-- The set of the numbers that pass a test, and the list of them.
use Rattle.std.proofs.Common.{◌≡◌, ℕ, zero, suc, ◌+◌, ◌<◌, ◌≤◌, ◌≢◌, Bool, true, false, cond, not, ◌&&◌, ◌||◌, eqb}
use Rattle.std.proofs.Common.{List, [], ◌∷◌, ◌++◌, length, map, replicate, set, get_or, refl, ap, ap₂, sym, ◌∙◌, subst}
use Rattle.std.proofs.Common.{arith}
use Rattle.std.proofs.Common.{◌⊎◌, inl, inr, Result, Ok, Err, MatchResult, is_ok, nat_cmp}
use Rattle.std.proofs.lemmas.Bool.{cases_eq, cases_lt, eq-eqb, ne_eqb, or_right}
use Rattle.std.proofs.lemmas.List.{get_or_past, map-append}
use Rattle.std.proofs.lemmas.List.Kept.{IsNonDecreasingBy-filter}
use Rattle.std.proofs.lemmas.List.Sorted.{searched}
use Rattle.std.specs.List.Sorted.{IsBinarySearchResult, IsNonDecreasingBy}
use Rattle.std.proofs.lemmas.List.FromFn.{length-map-range_with_len, get_or-map-range_with_len, get_or-range_with_len}
use Rattle.std.proofs.lemmas.List.FromFn.{length-range_with_len, fill_by_all}
use Rattle.std.specs.List.{filter, list_any, list_all, range_with_len}
use Rattle.version_sets.specs.Sets.{Members, every, has, inside, join, meet, meets, none, only, rest, size}
use Rattle.version_sets.proofs.Laws.{size-le}
use Rattle.version_sets.specs.inner.Listed.{IsList, below, is_listed, list_where, set_where}

-- two tests that agree on the numbers from a on
pub filter_agree_from : (p q : ℕ → Bool) (a n : ℕ) → ((i : ℕ) → a ≤ i → i < a + n → p i ≡ q i)
    → filter p (range_with_len a n) ≡ filter q (range_with_len a n)
filter_agree_from p q a zero same = refl
filter_agree_from p q a (suc n) same =
    let others : filter p (range_with_len (a + 1) n) ≡ filter q (range_with_len (a + 1) n) =
    filter_agree_from p q (a + 1) n (λ i low high. same i (omega arith) (omega arith)) in
    ap₂ (λ b ms. cond b (a ∷ ms) ms) (same a (omega arith) (omega arith)) others

pub map_agree_from : (p q : ℕ → Bool) (a n : ℕ) → ((i : ℕ) → a ≤ i → i < a + n → p i ≡ q i)
    → map p (range_with_len a n) ≡ map q (range_with_len a n)
map_agree_from p q a zero same = refl
map_agree_from p q a (suc n) same =
    ap₂ (λ b bs. b ∷ bs) (same a (omega arith) (omega arith))
    (map_agree_from p q (a + 1) n (λ i low high. same i (omega arith) (omega arith)))

pub set_agree : (p q : ℕ → Bool) (n : ℕ) → ((i : ℕ) → i < n → p i ≡ q i) → set_where n p ≡ set_where n q
set_agree p q n same = map_agree_from p q 0 n (λ i low high. same i (omega arith))

pub list_agree : (p q : ℕ → Bool) (n : ℕ) → ((i : ℕ) → i < n → p i ≡ q i) → list_where n p ≡ list_where n q
list_agree p q n same = filter_agree_from p q 0 n (λ i low high. same i (omega arith))

-- a range, one part after another
pub range_append : (a m k : ℕ) → range_with_len a (m + k) ≡ range_with_len a m ++ range_with_len (a + m) k
range_append a zero k = ap₂ range_with_len (omega arith) (omega arith)
range_append a (suc m) k =
    let more : suc m + k ≡ suc (m + k) = omega arith in
    let next : (a + 1) + m ≡ a + suc m = omega arith in
    ap (range_with_len a) more ∙ ap (λ l. a ∷ l)
    (range_append (a + 1) m k ∙ ap (λ b. range_with_len (a + 1) m ++ range_with_len b k) next)

pub range_split : (p : ℕ → Bool) (a m k : ℕ)
    → map p (range_with_len a (m + k)) ≡ map p (range_with_len a m) ++ map p (range_with_len (a + m) k)
range_split p a m k =
    ap (map p) (range_append a m k) ∙ map-append p (range_with_len a m) (range_with_len (a + m) k)

-- what is listed
unlisted_step : (b : Bool) (a i : ℕ) (ms : List ℕ) → a ≢ i → is_listed ms i ≡ false
    → is_listed (cond b (a ∷ ms) ms) i ≡ false
unlisted_step true a i ms o later = rw (ne_eqb a i o) later
unlisted_step false a i ms o later = later

unlisted_below : (p : ℕ → Bool) (a n i : ℕ) → i < a → is_listed (filter p (range_with_len a n)) i ≡ false
unlisted_below p a zero i low = refl
unlisted_below p a (suc n) i low = unlisted_step (p a) a i (filter p (range_with_len (a + 1) n))
    (λ (s : a ≡ i). omega arith) (unlisted_below p (a + 1) n i (omega arith))

unlisted_above : (p : ℕ → Bool) (a n i : ℕ) → a + n ≤ i → is_listed (filter p (range_with_len a n)) i ≡ false
unlisted_above p a zero i high = refl
unlisted_above p a (suc n) i high = unlisted_step (p a) a i (filter p (range_with_len (a + 1) n))
    (λ (s : a ≡ i). omega arith) (unlisted_above p (a + 1) n i (omega arith))

listed_here : (b : Bool) (a i : ℕ) (ms : List ℕ) → a ≡ i → is_listed ms i ≡ false → is_listed (cond b (a ∷ ms) ms) i ≡ b
listed_here true a i ms e later = rw (eq-eqb a i e) refl
listed_here false a i ms e later = later

listed_later : (b : Bool) (a i : ℕ) (ms : List ℕ) → a ≢ i → is_listed (cond b (a ∷ ms) ms) i ≡ is_listed ms i
listed_later true a i ms o = rw (ne_eqb a i o) refl
listed_later false a i ms o = refl

listed_from : (p : ℕ → Bool) (a n i : ℕ) → a ≤ i → i < a + n → is_listed (filter p (range_with_len a n)) i ≡ p i
listed_from p a zero i low high = absurd (omega arith)
listed_from p a (suc n) i low high = elim (cases_eq a i) [
  | inl e ↦ listed_here (p a) a i (filter p (range_with_len (a + 1) n)) e
      (unlisted_below p (a + 1) n i (omega arith)) ∙ ap p e
  | inr o ↦ listed_later (p a) a i (filter p (range_with_len (a + 1) n)) o
      ∙ listed_from p (a + 1) n i (let d : a ≢ i = o in omega arith) (omega arith)
]

pub listed_where : (n : ℕ) (p : ℕ → Bool) (i : ℕ) → i < n → is_listed (list_where n p) i ≡ p i
listed_where n p i within = listed_from p 0 n i (omega arith) (omega arith)

pub unlisted_past : (n : ℕ) (p : ℕ → Bool) (i : ℕ) → n ≤ i → is_listed (list_where n p) i ≡ false
unlisted_past n p i past = unlisted_above p 0 n i (omega arith)

-- a list of the numbers that pass a test
pub is_list : (n : ℕ) (p : ℕ → Bool) (ms : List ℕ) → n ≤ 65536 → ms ≡ list_where n p → IsList n ms
is_list n p ms small e = record {
  small = small;
  rises = e ∙ list_agree p (is_listed ms) n (λ i within. sym (ap (λ l. is_listed l i) e ∙ listed_where n p i within));
}

pub set_is : (n : ℕ) (p : ℕ → Bool) (ms : List ℕ) → ms ≡ list_where n p → set_where n (is_listed ms) ≡ set_where n p
set_is n p ms e = set_agree (is_listed ms) p n (λ i within. ap (λ l. is_listed l i) e ∙ listed_where n p i within)

-- a set by its tests
pub length-set_where : (n : ℕ) (p : ℕ → Bool) → length (set_where n p) ≡ n
length-set_where n p = length-map-range_with_len p 0 n

pub has-set_where : (n : ℕ) (p : ℕ → Bool) (i : ℕ) → i < n → has (set_where n p) i ≡ p i
has-set_where n p i within = get_or-map-range_with_len p 0 n i i false within (omega arith)

pub set_of_tests : (xs : Members) (n : ℕ) → length xs ≡ n → xs ≡ set_where n (has xs)
set_of_tests xs n e = fill_by_all (has xs) xs n false e (λ k lt. refl)

-- two sets with the same tests are one
pub same_set : (xs ys : Members) → length xs ≡ length ys → ((i : ℕ) → i < length xs → has xs i ≡ has ys i) → xs ≡ ys
same_set xs ys e same = set_of_tests xs (length xs) refl ∙ set_agree (has xs) (has ys) (length xs) same
    ∙ sym (set_of_tests ys (length xs) (sym e))

-- the operations, test by test
join_from : (p q : ℕ → Bool) (a n : ℕ)
    → join (map p (range_with_len a n)) (map q (range_with_len a n)) ≡ map (λ i. p i || q i) (range_with_len a n)
join_from p q a zero = refl
join_from p q a (suc n) = ap (λ bs. (p a || q a) ∷ bs) (join_from p q (a + 1) n)

meet_from : (p q : ℕ → Bool) (a n : ℕ)
    → meet (map p (range_with_len a n)) (map q (range_with_len a n)) ≡ map (λ i. p i && q i) (range_with_len a n)
meet_from p q a zero = refl
meet_from p q a (suc n) = ap (λ bs. (p a && q a) ∷ bs) (meet_from p q (a + 1) n)

rest_from : (p : ℕ → Bool) (a n : ℕ) → rest (map p (range_with_len a n)) ≡ map (λ i. not (p i)) (range_with_len a n)
rest_from p a zero = refl
rest_from p a (suc n) = ap (λ bs. not (p a) ∷ bs) (rest_from p (a + 1) n)

inside_step : (b : Bool) (q : ℕ → Bool) (a : ℕ) (ms : List ℕ) (t : Bool) → t ≡ list_all q ms
    → ((not b || q a) && t) ≡ list_all q (cond b (a ∷ ms) ms)
inside_step true q a ms t e = ap (λ x. q a && x) e
inside_step false q a ms t e = e

inside_from : (p q : ℕ → Bool) (a n : ℕ)
    → inside (map p (range_with_len a n)) (map q (range_with_len a n)) ≡ list_all q (filter p (range_with_len a n))
inside_from p q a zero = refl
inside_from p q a (suc n) = inside_step (p a) q a (filter p (range_with_len (a + 1) n))
    (inside (map p (range_with_len (a + 1) n)) (map q (range_with_len (a + 1) n))) (inside_from p q (a + 1) n)

meets_step : (b : Bool) (q : ℕ → Bool) (a : ℕ) (ms : List ℕ) (t : Bool) → t ≡ list_any q ms
    → ((b && q a) || t) ≡ list_any q (cond b (a ∷ ms) ms)
meets_step true q a ms t e = ap (λ x. q a || x) e
meets_step false q a ms t e = e

meets_from : (p q : ℕ → Bool) (a n : ℕ)
    → meets (map p (range_with_len a n)) (map q (range_with_len a n)) ≡ list_any q (filter p (range_with_len a n))
meets_from p q a zero = refl
meets_from p q a (suc n) = meets_step (p a) q a (filter p (range_with_len (a + 1) n))
    (meets (map p (range_with_len (a + 1) n)) (map q (range_with_len (a + 1) n))) (meets_from p q (a + 1) n)

size_step : (b : Bool) (a : ℕ) (ms : List ℕ) (bs : Members) → length ms ≡ size bs
    → length (cond b (a ∷ ms) ms) ≡ size (b ∷ bs)
size_step true a ms bs e = omega arith
size_step false a ms bs e = e

size_from : (p : ℕ → Bool) (a n : ℕ) → length (filter p (range_with_len a n)) ≡ size (map p (range_with_len a n))
size_from p a zero = refl
size_from p a (suc n) =
    size_step (p a) a (filter p (range_with_len (a + 1) n)) (map p (range_with_len (a + 1) n)) (size_from p (a + 1) n)

pub join_where : (n : ℕ) (p q : ℕ → Bool) → join (set_where n p) (set_where n q) ≡ set_where n (λ i. p i || q i)
join_where n p q = join_from p q 0 n

pub meet_where : (n : ℕ) (p q : ℕ → Bool) → meet (set_where n p) (set_where n q) ≡ set_where n (λ i. p i && q i)
meet_where n p q = meet_from p q 0 n

pub rest_where : (n : ℕ) (p : ℕ → Bool) → rest (set_where n p) ≡ set_where n (λ i. not (p i))
rest_where n p = rest_from p 0 n

pub inside_where : (n : ℕ) (p q : ℕ → Bool) → inside (set_where n p) (set_where n q) ≡ list_all q (list_where n p)
inside_where n p q = inside_from p q 0 n

pub meets_where : (n : ℕ) (p q : ℕ → Bool) → meets (set_where n p) (set_where n q) ≡ list_any q (list_where n p)
meets_where n p q = meets_from p q 0 n

pub size_where : (n : ℕ) (p : ℕ → Bool) → length (list_where n p) ≡ size (set_where n p)
size_where n p = size_from p 0 n

-- the sets with no number, with every number and with one number
pub const_from : (b : Bool) (a n : ℕ) → replicate n b ≡ map (λ _. b) (range_with_len a n)
const_from b a zero = refl
const_from b a (suc n) = ap (λ bs. b ∷ bs) (const_from b (a + 1) n)

pub none_where : (n : ℕ) → none n ≡ set_where n (λ _. false)
none_where n = const_from false 0 n

pub every_where : (n : ℕ) → every n ≡ set_where n (λ _. true)
every_where n = const_from true 0 n

pub filter_none_from : (a n : ℕ) → filter (λ _. false) (range_with_len a n) ≡ []
filter_none_from a zero = refl
filter_none_from a (suc n) = filter_none_from (a + 1) n

pub filter_every_from : (a n : ℕ) → filter (λ _. true) (range_with_len a n) ≡ range_with_len a n
filter_every_from a zero = refl
filter_every_from a (suc n) = ap (λ ms. a ∷ ms) (filter_every_from (a + 1) n)

pub list_none : (n : ℕ) → list_where n (λ _. false) ≡ []
list_none n = filter_none_from 0 n

pub list_every : (n : ℕ) → list_where n (λ _. true) ≡ below n
list_every n = filter_every_from 0 n

-- what a list of a universe's numbers stands for, and what it costs to find one
pub listed : (n : ℕ) (ms : List ℕ) → IsList n ms → (i : ℕ) → has (set_where n (is_listed ms)) i ≡ is_listed ms i
listed n ms l i = by (cases_lt i n)
  where
    by : (i < n) ⊎ (n ≤ i) → has (set_where n (is_listed ms)) i ≡ is_listed ms i
    by (inl within) = has-set_where n (is_listed ms) i within
    by (inr past) = get_or_past (set_where n (is_listed ms)) i false (rw length-set_where past)
        ∙ sym (ap (λ k. is_listed k i) l.rises ∙ unlisted_past n (is_listed ms) i past)

pub same_list : (m n : ℕ) (ms ns : List ℕ) → IsList m ms → IsList n ns
    → set_where m (is_listed ms) ≡ set_where n (is_listed ns) → ms ≡ ns
same_list m n ms ns l k e = l.rises ∙ widths ∙ list_agree (is_listed ms) (is_listed ns) n
    (λ i within. sym (listed m ms l i) ∙ ap (λ s. has s i) e ∙ listed n ns k i) ∙ sym k.rises
  where
    widths : list_where m (is_listed ms) ≡ list_where n (is_listed ms)
    widths = ap (λ w. list_where w (is_listed ms))
        (sym (length-set_where m (is_listed ms)) ∙ ap length e ∙ length-set_where n (is_listed ns))

below_rises : (n : ℕ) → IsNonDecreasingBy (λ x. x) (below n)
below_rises n i j d order within =
    let j_within : j < n = rw length-range_with_len at within in
    rw (get_or-range_with_len 0 n i d (omega arith), get_or-range_with_len 0 n j d j_within) (omega arith)

list_rises : (n : ℕ) (ms : List ℕ) → IsList n ms → (i j : ℕ) → i ≤ j → j < length ms → get_or ms i 0 ≤ get_or ms j 0
list_rises n ms l i j = subst (λ k. i ≤ j → j < length k → get_or k i 0 ≤ get_or k j 0) (sym l.rises)
    (IsNonDecreasingBy-filter (λ x. x) (is_listed ms) (below n) (below_rises n) i j 0)

-- what a search in a list finds
no_match : (ms : List ℕ) (x : ℕ) → ((k : ℕ) → k < length ms → get_or ms k 0 ≢ x) → is_listed ms x ≡ false
no_match [] x none = refl
no_match (m ∷ ms) x none =
    rw (ne_eqb m x (none 0 (omega arith))) (no_match ms x (λ k within. none (suc k) (omega arith)))

a_match : (ms : List ℕ) (x k : ℕ) → k < length ms → get_or ms k 0 ≡ x → is_listed ms x ≡ true
a_match [] x k within e = absurd (omega arith)
a_match (m ∷ ms) x zero within e = rw (eq-eqb m x e) refl
a_match (m ∷ ms) x (suc k) within e = or_right (eqb m x) (is_listed ms x) (a_match ms x k (omega arith) e)

found : (ms : List ℕ) (x : ℕ) (r : Result ℕ ℕ) → MatchResult r (λ i. (i < length ms) × (get_or ms i 0 ≡ x)) (λ i.
    (i ≤ length ms) × ((k : ℕ) → k < i → get_or ms k 0 < x) × ((k : ℕ) → i ≤ k → k < length ms → x < get_or ms k 0))
    → is_ok r ≡ is_listed ms x
found ms x (Ok i) h = sym (a_match ms x i h.0 h.1)
found ms x (Err i) h = sym (no_match ms x (λ k within. elim (cases_lt k i) [
  | inl low ↦ (λ (e : get_or ms k 0 ≡ x). let l = h.1 k low in omega arith)
  | inr high ↦ (λ (e : get_or ms k 0 ≡ x). let l = h.2 k high within in omega arith)
]))

pub search_is : (n : ℕ) (ms : List ℕ) (x : ℕ) (r : Result ℕ ℕ) → IsList n ms
    → IsBinarySearchResult (λ y. nat_cmp y x) ms r → is_ok r ≡ has (set_where n (is_listed ms)) x
search_is n ms x r l s = found ms x r (searched ms x r s (list_rises n ms l)) ∙ sym (listed n ms l x)

pub size_is : (n : ℕ) (ms : List ℕ) → IsList n ms → length ms ≡ size (set_where n (is_listed ms))
size_is n ms l = ap length l.rises ∙ size_where n (is_listed ms)

pub short_list : (n : ℕ) (ms : List ℕ) → IsList n ms → length ms ≤ 65536
short_list n ms l =
    omega (arith, size_is n ms l, size-le (set_where n (is_listed ms)), length-set_where n (is_listed ms), l.small)

-- one number
only_from : (a n k m : ℕ) → m ≡ a + k → set (replicate n false) k true ≡ map (λ i. eqb m i) (range_with_len a n)
only_from a zero k m e = refl
only_from a (suc n) zero m e =
    let none_later : replicate n false ≡ map (λ i. eqb m i) (range_with_len (a + 1) n) =
    const_from false (a + 1) n ∙ map_agree_from (λ _. false) (λ i. eqb m i) (a + 1) n
    (λ i low high. sym (ne_eqb m i (λ (s : m ≡ i). omega arith))) in
    ap₂ (λ b bs. b ∷ bs) (sym (eq-eqb m a (omega arith))) none_later
only_from a (suc n) (suc k) m e =
    ap₂ (λ b bs. b ∷ bs) (sym (ne_eqb m a (λ (s : m ≡ a). omega arith))) (only_from (a + 1) n k m (omega arith))

pub only_where : (n k : ℕ) → only n k ≡ set_where n (λ i. eqb k i)
only_where n k = only_from 0 n k k (omega arith)

filter_one_from : (a n k : ℕ) → a ≤ k → k < a + n → filter (λ i. eqb k i) (range_with_len a n) ≡ k ∷ []
filter_one_from a zero k low high = absurd (omega arith)
filter_one_from a (suc n) k low high = elim (cases_eq k a) [
  | inl e ↦ rw (eq-eqb k a e) (ap₂ (λ m ms. m ∷ ms) (sym e) (filter_agree_from (λ i. eqb k i) (λ _. false) (a + 1) n
      (λ i low high. ne_eqb k i (λ (s : k ≡ i). omega arith)) ∙ filter_none_from (a + 1) n))
  | inr o ↦ rw (ne_eqb k a o) (filter_one_from (a + 1) n k (let d : k ≢ a = o in omega arith) (omega arith))
]

pub list_only : (n k : ℕ) → k < n → k ∷ [] ≡ list_where n (λ i. eqb k i)
list_only n k within = sym (filter_one_from 0 n k (omega arith) (omega arith))

-- a list without the numbers that fail a test
filter_twice : (p q : ℕ → Bool) (xs : List ℕ) → filter q (filter p xs) ≡ filter (λ i. p i && q i) xs
filter_twice p q [] = refl
filter_twice p q (x ∷ xs) = filter_step (p x) q x (filter p xs) (filter (λ i. p i && q i) xs) (filter_twice p q xs)
  where
    filter_step : (b : Bool) (q : ℕ → Bool) (x : ℕ) (xs ys : List ℕ) → filter q xs ≡ ys
        → filter q (cond b (x ∷ xs) xs) ≡ cond (b && q x) (x ∷ ys) ys
    filter_step true q x xs ys e = ap (λ zs. cond (q x) (x ∷ zs) zs) e
    filter_step false q x xs ys e = e

-- a list and a set, put together
module _ (n : ℕ) (ms : List ℕ) (l : IsList n ms) (xs ys : Members) (here : set_where n (is_listed ms) ≡ xs)
    (same : length xs ≡ length ys) where
  wide : length xs ≡ n
  wide = ap length (sym here) ∙ length-set_where n (is_listed ms)

  tests : (i : ℕ) → i < n → is_listed ms i ≡ has xs i
  tests i within = sym (listed n ms l i) ∙ ap (λ s. has s i) here

  ys_is : ys ≡ set_where n (has ys)
  ys_is = set_of_tests ys n (sym same ∙ wide)

  pub filter_is : filter (has ys) ms ≡ list_where (length xs) (λ i. has xs i && has ys i)
  filter_is = ap (filter (has ys)) l.rises ∙ filter_twice (is_listed ms) (has ys) (below n)
      ∙ list_agree (λ i. is_listed ms i && has ys i) (λ i. has xs i && has ys i) n
      (λ i within. ap (λ b. b && has ys i) (tests i within))
      ∙ ap (λ w. list_where w (λ i. has xs i && has ys i)) (sym wide)

  pub all_is : list_all (has ys) ms ≡ inside xs ys
  all_is = ap (list_all (has ys)) l.rises ∙ sym (inside_where n (is_listed ms) (has ys)) ∙ ap₂ inside here (sym ys_is)

  pub any_is : list_any (has ys) ms ≡ meets xs ys
  any_is = ap (list_any (has ys)) l.rises ∙ sym (meets_where n (is_listed ms) (has ys)) ∙ ap₂ meets here (sym ys_is)

-- sets by their tests
pub join_is : (xs ys : Members) → length xs ≡ length ys → set_where (length xs) (λ i. has xs i || has ys i) ≡ join xs ys
join_is xs ys e = sym (join_where (length xs) (has xs) (has ys))
    ∙ ap₂ join (sym (set_of_tests xs (length xs) refl)) (sym (set_of_tests ys (length xs) (sym e)))

pub meet_is : (xs ys : Members) → length xs ≡ length ys → set_where (length xs) (λ i. has xs i && has ys i) ≡ meet xs ys
meet_is xs ys e = sym (meet_where (length xs) (has xs) (has ys))
    ∙ ap₂ meet (sym (set_of_tests xs (length xs) refl)) (sym (set_of_tests ys (length xs) (sym e)))

pub rest_is : (xs : Members) → set_where (length xs) (λ i. not (has xs i)) ≡ rest xs
rest_is xs = sym (rest_where (length xs) (has xs)) ∙ ap rest (sym (set_of_tests xs (length xs) refl))

pub same_from_list : (m n : ℕ) (ms ns : List ℕ) (xs ys : Members) → set_where m (is_listed ms) ≡ xs
    → set_where n (is_listed ns) ≡ ys → length xs ≡ length ys → ms ≡ ns → xs ≡ ys
same_from_list m n ms ns xs ys here there wide e =
    let widths : m ≡ n = sym (length-set_where m (is_listed ms)) ∙ ap length here ∙ wide ∙ sym (ap length there)
    ∙ length-set_where n (is_listed ns) in
    sym here ∙ ap₂ (λ w ks. set_where w (is_listed ks)) widths e ∙ there
