-- The classes of versions that lie between two others, oldest first: those between the classes of the two.
use Rattle.std.proofs.Common.{◌≡◌, ℕ, zero, suc, ◌-◌, ◌<◌, ◌≤◌, Bool, true, false, not, cond, List, [], ◌∷◌, ◌++◌}
use Rattle.std.proofs.Common.{map, filter, take, drop, length, get_or, ◌+◌, replicate, refl, sym, ap, ◌∙◌, subst}
use Rattle.std.proofs.Common.{arith, true≢false, inl, inr}
use Rattle.std.specs.List.{All, AllPairs}
use Rattle.std.specs.List.Sorted.{IsPartitionedBy, IsPartitionPoint}
use Rattle.std.proofs.lemmas.Bool.{cases_lt}
use Rattle.std.proofs.lemmas.List.{drop-map, get_or-drop, get_or-map, length-drop, length-map, take-map, take_rest}
use Rattle.std.proofs.lemmas.List.Elements.{All-filter}
use Rattle.std.proofs.lemmas.List.Kept.{AllPairs-cons, AllPairs-filter}
use Rattle.semver.specs.EvalViews.{matches_views}
use Rattle.semver.specs.Identifiers.{parts_of}
use Rattle.semver.specs.Parse.{Held}
use Rattle.semver.specs.declared.Version.{Version}
use Rattle.model.specs.Axioms.{is_lower}
use Rattle.model.specs.Selection.{Class, class_of}
use Rattle.model.specs.Vertices.{same_class}
use Rattle.model.proofs.Lists.{all_cons, all_first, all_rest, pairs_all, pairs_rest}
use Rattle.model.proofs.Mapped.{pairs_map}
use Rattle.model.proofs.Orders.{not_lower_itself}
use Rattle.model.proofs.Same.{class-refl, class-same}
use Rattle.classes.specs.Classes.{class_view}
use Rattle.classes.specs.Groups.{classes_matched, each_once}
use Rattle.classes.specs.declared.class.Class as code
use Rattle.lookups.specs.inner.Matching.{tests_of_range}
use Rattle.lookups.specs.inner.Ranges.{AreRising}
use Rattle.lookups.proofs.Hops.{either_first, every, twice, without}
use Rattle.lookups.proofs.Pieces.{all_pass, classes_rise, from_there, kept, lower_first, lower_last, neither}
use Rattle.lookups.proofs.Pieces.{parts_filtered}

-- the second class isn't lower
abbrev pub Comes : Class → Class → Type 0
Comes k m = is_lower m k ≡ false

one : (k c : Class) → Comes k c → Comes c k → k ≡ c
one k c h l = class-same k c (neither k c h l)

-- ---- each once

once_all : (P : Class → Type 0) (ks : List Class) → All P ks → All P (each_once ks)
once_all P [] h = h
once_all P (k ∷ ks) h = all_cons P k (without k (each_once ks)) (all_first P k ks h)
    (All-filter (λ c. not (same_class k c)) P (each_once ks) (once_all P ks (all_rest P k ks h)))

once_rise : (ks : List Class) → AllPairs Comes ks → AllPairs Comes (each_once ks)
once_rise [] h = h
once_rise (k ∷ ks) h = AllPairs-cons Comes k (without k (each_once ks))
    (All-filter (λ c. not (same_class k c)) (Comes k) (each_once ks) (once_all (Comes k) ks (pairs_all Comes k ks h)))
    (AllPairs-filter Comes (λ c. not (same_class k c)) (each_once ks) (once_rise ks (pairs_rest Comes k ks h)))

-- a class that is there again
again : (k : Class) (ks : List Class) → each_once (k ∷ k ∷ ks) ≡ each_once (k ∷ ks)
again k ks = ap (λ l. k ∷ l) (ap (λ b. cond (not b) (k ∷ without k (without k (each_once ks)))
    (without k (without k (each_once ks)))) (class-refl k) ∙ twice (λ c. not (same_class k c)) (each_once ks))

-- what fails isn't among those that pass
absent : (p : Class → Bool) (k : Class) (ks : List Class) → p k ≡ false → without k (filter p ks) ≡ filter p ks
absent p k [] out = refl
absent p k (m ∷ ks) out = by (p m) refl (absent p k ks out)
  where
    apart : p m ≡ true → (b : Bool) → same_class k m ≡ b → b ≡ false
    apart e false s = refl
    apart e true s = absurd (true≢false (sym e ∙ ap p (sym (class-same k m s)) ∙ out))

    by : (b : Bool) → p m ≡ b → without k (filter p ks) ≡ filter p ks
        → without k (cond b (m ∷ filter p ks) (filter p ks)) ≡ cond b (m ∷ filter p ks) (filter p ks)
    by false e rest = rest
    by true e rest = ap (λ b. cond (not b) (m ∷ without k (filter p ks)) (without k (filter p ks)))
        (apart e (same_class k m) refl) ∙ ap (λ cs. m ∷ cs) rest

-- ---- from a class on, and up to one

abbrev pub is_from : Class → Class → Bool
is_from k c = not (is_lower c k)

abbrev pub is_up_to : Class → Class → Bool
is_up_to k c = not (is_lower k c)

-- of classes from one on none other is up to it
none_other : (k : Class) (ks : List Class) → All (Comes k) ks → filter (is_up_to k) (without k ks) ≡ []
none_other k [] h = refl
none_other k (m ∷ ks) h = by (same_class k m) refl (none_other k ks (all_rest (Comes k) m ks h))
  where
    above : (b : Bool) → is_lower k m ≡ b → same_class k m ≡ false → b ≡ true
    above true e s = refl
    above false e s = absurd (true≢false (sym (neither k m (all_first (Comes k) m ks h) e) ∙ s))

    by : (b : Bool) → same_class k m ≡ b → filter (is_up_to k) (without k ks) ≡ []
        → filter (is_up_to k) (cond (not b) (m ∷ without k ks) (without k ks)) ≡ []
    by true s rest = rest
    by false s rest =
        ap (λ b. cond (not b) (m ∷ filter (is_up_to k) (without k ks)) (filter (is_up_to k) (without k ks)))
        (above (is_lower k m) refl s) ∙ rest

not_below_itself : (k : Class) → is_lower k k ≡ false
not_below_itself k = by (is_lower k k) refl
  where
    by : (b : Bool) → is_lower k k ≡ b → b ≡ false
    by false e = refl
    by true e = absurd (not_lower_itself k e)

-- where a later class isn't higher than the first, the one after the first is the same
same_as_next : (c : Class) (cs : List Class) → AllPairs Comes (c ∷ cs) → (i : ℕ) (d : Class) → i < length cs
    → is_lower c (get_or cs i d) ≡ false → each_once (c ∷ cs) ≡ each_once cs
same_as_next c [] rising i d within e = absurd (omega (arith, within))
same_as_next c (m ∷ ms) rising i d within e =
    subst (λ x. each_once (c ∷ x ∷ ms) ≡ each_once (x ∷ ms))
    (one c m (rising 0 1 d (omega arith) (omega arith)) (back i within e)) (again c ms)
  where
    back : (i : ℕ) → i < suc (length ms) → is_lower c (get_or (m ∷ ms) i d) ≡ false → is_lower c m ≡ false
    back zero inside h = h
    back (suc i) inside h = by (is_lower c m) refl
      where
        by : (b : Bool) → is_lower c m ≡ b → b ≡ false
        by false l = refl
        by true l = absurd (true≢false (sym (lower_first (get_or ms i d) c m h l)
            ∙ rising 1 (suc (suc i)) d (omega arith) (omega (arith, inside))))

-- the classes from a place on
from_place : (cs : List Class) → AllPairs Comes cs → (i : ℕ) (d : Class) → i < length cs
    → each_once (drop i cs) ≡ filter (is_from (get_or cs i d)) (each_once cs)
from_place [] rising i d within = absurd (omega (arith, within))
from_place (c ∷ cs) rising zero d within =
    all_pass (is_from c) (each_once (c ∷ cs))
    (once_all (λ m. is_from c m ≡ true) (c ∷ cs) (all_cons (λ m. is_from c m ≡ true) c cs (ap not (not_below_itself c))
    (λ n e inside. ap not (pairs_all Comes c cs rising n e inside))))
from_place (c ∷ cs) rising (suc i) d within =
    by (is_lower c k) refl (from_place cs (pairs_rest Comes c cs rising) i d (omega (arith, within)))
  where
    k : Class
    k = get_or cs i d

    by : (b : Bool) → is_lower c k ≡ b → each_once (drop i cs) ≡ filter (is_from k) (each_once cs)
        → each_once (drop i cs) ≡ filter (is_from k) (each_once (c ∷ cs))
    by true e rest = rest
        ∙ sym (ap (λ b. cond (not b) (c ∷ filter (is_from k) (without c (each_once cs)))
        (filter (is_from k) (without c (each_once cs)))) e
        ∙ either_first (is_from k) (λ m. not (same_class c m)) (each_once cs)
        ∙ absent (is_from k) c (each_once cs) (ap not e))
    by false e rest = rest
        ∙ ap (filter (is_from k)) (sym (same_as_next c cs rising i d (omega (arith, within)) e))

-- the classes up to a place
up_to_place : (cs : List Class) → AllPairs Comes cs → (j : ℕ) (d : Class) → j < length cs
    → each_once (take (suc j) cs) ≡ filter (is_up_to (get_or cs j d)) (each_once cs)
up_to_place [] rising j d within = absurd (omega (arith, within))
up_to_place (c ∷ cs) rising zero d within =
    sym (ap (λ b. cond (not b) (c ∷ filter (is_up_to c) (without c (each_once cs)))
    (filter (is_up_to c) (without c (each_once cs)))) (not_below_itself c)
    ∙ ap (λ ks. c ∷ ks) (none_other c (each_once cs) (once_all (Comes c) cs (pairs_all Comes c cs rising))))
up_to_place (c ∷ cs) rising (suc j) d within =
    let k = get_or cs j d in
    ap (λ ks. c ∷ without c ks) (up_to_place cs (pairs_rest Comes c cs rising) j d (omega (arith, within)))
    ∙ ap (λ ks. c ∷ ks) (either_first (λ m. not (same_class c m)) (is_up_to k) (each_once cs))
    ∙ sym (ap (λ b. cond (not b) (c ∷ filter (is_up_to k) (without c (each_once cs)))
    (filter (is_up_to k) (without c (each_once cs))))
    (rising 0 (suc j) d (omega arith) (omega (arith, within))))

-- those of a run, by the classes at its ends
run_is : (cs : List Class) → AllPairs Comes cs → (i j : ℕ) (d : Class) → i + j < length cs
    → each_once (take (suc j) (drop i cs))
    ≡ filter (is_up_to (get_or cs (i + j) d)) (filter (is_from (get_or cs i d)) (each_once cs))
run_is cs rising i j d within =
    let long = length-drop i cs in
    up_to_place (drop i cs) (from_there_rise cs rising i) j d (omega (arith, within, long))
    ∙ ap (λ k. filter (is_up_to k) (each_once (drop i cs))) (get_or-drop i cs j d)
    ∙ ap (filter (is_up_to (get_or cs (i + j) d))) (from_place cs rising i d (omega (arith, within)))
  where
    from_there_rise : (cs : List Class) → AllPairs Comes cs → (i : ℕ) → AllPairs Comes (drop i cs)
    from_there_rise cs rising zero = rising
    from_there_rise [] rising (suc i) = rising
    from_there_rise (c ∷ cs) rising (suc i) = from_there_rise cs (pairs_rest Comes c cs rising) i

-- ---- the places of classes

module _ (k : Class) (cs : List code.Class)
    (rising : AllPairs (λ j c. is_lower (class_view c) (class_view j) ≡ false) cs) where
  pub lower_parted : IsPartitionedBy (λ c. is_lower (class_view c) k) cs
  lower_parted i j d le within h = elim (cases_lt i j) [
    | inl less ↦ lower_first (class_view (get_or cs i d)) (class_view (get_or cs j d)) k (rising i j d less within) h
    | inr back ↦ let e : j ≡ i = omega arith in subst (λ n. is_lower (class_view (get_or cs n d)) k ≡ true) e h
  ]

  pub up_to_parted : IsPartitionedBy (λ c. is_up_to k (class_view c)) cs
  up_to_parted i j d le within h = elim (cases_lt i j) [
    | inl less ↦ by (is_lower k (class_view (get_or cs i d))) refl less
    | inr back ↦ let e : j ≡ i = omega arith in subst (λ n. is_up_to k (class_view (get_or cs n d)) ≡ true) e h
  ]
    where
      by : (b : Bool) → is_lower k (class_view (get_or cs i d)) ≡ b → i < j → not b ≡ true
      by false e less = refl
      by true e less = absurd (true≢false (sym h ∙ ap not (lower_last k (class_view (get_or cs i d))
          (class_view (get_or cs j d)) (rising i j d less within) e)))

viewed : (t : Class → Bool) (cs : List code.Class)
    → map class_view (filter (λ c. t (class_view c)) cs) ≡ filter t (map class_view cs)
viewed t [] = refl
viewed t (c ∷ cs) = by (t (class_view c)) (viewed t cs)
  where
    by : (b : Bool) → map class_view (filter (λ c. t (class_view c)) cs) ≡ filter t (map class_view cs)
        → map class_view (cond b (c ∷ filter (λ c. t (class_view c)) cs) (filter (λ c. t (class_view c)) cs))
        ≡ cond b (class_view c ∷ filter t (map class_view cs)) (filter t (map class_view cs))
    by true e = ap (λ ks. class_view c ∷ ks) e
    by false e = e

-- the classes between two lie between their places
pub between_places : (k m : Class) (cs : List code.Class) (i n : ℕ)
    → IsPartitionPoint (λ c. is_lower (class_view c) k ≡ true) (λ c. is_lower (class_view c) k ≡ false) cs i
    → n ≤ length (take (length cs - i) (drop i cs))
    → IsPartitionPoint (λ c. not (is_lower m (class_view c)) ≡ true)
    (λ c. not (is_lower m (class_view c)) ≡ false) (take (length cs - i) (drop i cs)) n
    → map class_view (take n (drop i cs)) ≡ filter (is_up_to m) (filter (is_from k) (map class_view cs))
between_places k m cs i n first = rw (take_rest cs i) (λ few last.
    ap (map class_view) (sym (kept (λ c. is_up_to m (class_view c)) (drop i cs) n few
    (λ p d low. last.0 p d (omega arith) low) (λ p d high within. last.1 p d high within)))
    ∙ viewed (is_up_to m) (drop i cs)
    ∙ ap (λ ds. filter (is_up_to m) (map class_view ds)) (from_there (λ c. is_from k (class_view c)) cs i
    (λ p d low within. ap not (first.0 p d (omega arith) low))
    (λ p d high within. ap not (first.1 p d high within)))
    ∙ ap (filter (is_up_to m)) (viewed (is_from k) cs))

-- ---- what is matched

-- those that pass, where these are a range
passing : {X : Type 0} (p : X → Bool) (xs : List X) (i j n : ℕ)
    → map p xs ≡ replicate i false ++ (replicate j true ++ replicate n false) → filter p xs ≡ take j (drop i xs)
passing p [] zero zero n e = refl
passing p [] zero (suc j) n e = refl
passing p [] (suc i) zero n e = refl
passing p [] (suc i) (suc j) n e = refl
passing p (x ∷ xs) (suc i) j n e =
    let here : p x ≡ false = cc in
    let rest : map p xs ≡ replicate i false ++ (replicate j true ++ replicate n false) = cc in
    ap (λ b. cond b (x ∷ filter p xs) (filter p xs)) here ∙ passing p xs i j n rest
passing p (x ∷ xs) zero (suc j) n e =
    let here : p x ≡ true = cc in
    let rest : map p xs ≡ replicate j true ++ replicate n false = cc in
    ap (λ b. cond b (x ∷ filter p xs) (filter p xs)) here ∙ ap (λ ys. x ∷ ys) (passing p xs zero j n rest)
passing p (x ∷ xs) zero zero (suc n) e =
    let here : p x ≡ false = cc in
    let rest : map p xs ≡ replicate n false = cc in
    ap (λ b. cond b (x ∷ filter p xs) (filter p xs)) here ∙ passing p xs zero zero n rest
passing p (x ∷ xs) zero zero zero e = absurd (uncons e)
  where
    uncons : {Y : Type 0} {y : Y} {ys : List Y} → y ∷ ys ≡ [] → ⊥
    uncons e = cc

kinds_rise : (vs : List Version) → AreRising vs → AllPairs Comes (map class_of (map parts_of vs))
kinds_rise vs rising = pairs_map class_of Comes (map parts_of vs)
    (pairs_map parts_of (λ p q. Comes (class_of p) (class_of q)) vs (λ i j d less within.
    classes_rise (parts_of (get_or vs i d)) (parts_of (get_or vs j d)) (rising i j d less within)))

matched_are : (cs : List Held) (vs : List Version) (first end : ℕ)
    → map (λ v. matches_views cs (parts_of v)) vs ≡ tests_of_range first end (length vs)
    → filter (matches_views cs) (map parts_of vs) ≡ map parts_of (take (end - first) (drop first vs))
matched_are cs vs first end tests =
    sym (parts_filtered (matches_views cs) vs)
    ∙ ap (map parts_of) (passing (λ v. matches_views cs (parts_of v)) vs first (end - first) (length vs - end) tests)

pub none_matched : (cs : List Held) (vs : List Version) (n : ℕ)
    → map (λ v. matches_views cs (parts_of v)) vs ≡ tests_of_range n n (length vs)
    → [] ≡ classes_matched cs (map parts_of vs)
none_matched cs vs n tests =
    let nothing : n - n ≡ 0 = omega arith in
    sym (ap (λ ps. each_once (map class_of ps)) (matched_are cs vs n n tests
    ∙ ap (λ k. map parts_of (take k (drop n vs))) nothing))

-- those that are matched lie from the class of the first to that of the last
pub matched_between : (cs : List Held) (vs : List Version) (first last end : ℕ) → AreRising vs
    → first ≤ last → suc last ≡ end → end ≤ length vs
    → map (λ v. matches_views cs (parts_of v)) vs ≡ tests_of_range first end (length vs)
    → (v w : Version) → v ≡ get_or vs first v → w ≡ get_or vs last w
    → classes_matched cs (map parts_of vs)
    ≡ filter (is_up_to (class_of (parts_of w))) (filter (is_from (class_of (parts_of v))) (every vs))
matched_between cs vs first last end rising order is few tests v w is_first is_last =
    let many : end - first ≡ suc (last - first) = omega (arith, order, is) in
    let there : first + (last - first) ≡ last = omega (arith, order) in
    ap (λ ps. each_once (map class_of ps))
    (matched_are cs vs first end tests
    ∙ sym (take-map parts_of (end - first) (drop first vs))
    ∙ ap (take (end - first)) (sym (drop-map parts_of first vs)))
    ∙ ap each_once (sym (take-map class_of (end - first) (drop first (map parts_of vs)))
    ∙ ap (take (end - first)) (sym (drop-map class_of first (map parts_of vs))))
    ∙ ap (λ n. each_once (take n (drop first kinds))) many
    ∙ run_is kinds (kinds_rise vs rising) first (last - first) (class_of (parts_of v))
    (omega (arith, order, is, few, long))
    ∙ ap (λ k. filter (is_up_to k) (filter (is_from (get_or kinds first (class_of (parts_of v)))) (every vs)))
    (ap (λ n. get_or kinds n (class_of (parts_of v))) there
    ∙ at last w (class_of (parts_of v)) (omega (arith, is, few)) ∙ ap (λ u. class_of (parts_of u)) (sym is_last))
    ∙ ap (λ k. filter (is_up_to (class_of (parts_of w))) (filter (is_from k) (every vs)))
    (at first v (class_of (parts_of v)) (omega (arith, order, is, few))
    ∙ ap (λ u. class_of (parts_of u)) (sym is_first))
  where
    kinds : List Class
    kinds = map class_of (map parts_of vs)

    long : length kinds ≡ length vs
    long = length-map (map parts_of vs) class_of ∙ length-map vs parts_of

    at : (n : ℕ) (u : Version) (d : Class) → n < length vs → get_or kinds n d ≡ class_of (parts_of (get_or vs n u))
    at n u d within =
        get_or-map class_of (map parts_of vs) n (parts_of u) d (omega (arith, within, length-map vs parts_of))
        ∙ ap class_of (get_or-map parts_of vs n u (parts_of u) within)

-- the classes of versions that rise do too
pub classes_come : (vs : List Version) (ks : List code.Class) → AreRising vs
    → map class_view ks ≡ every vs → AllPairs (λ j k. is_lower (class_view k) (class_view j) ≡ false) ks
classes_come vs ks rising e i j d less within =
    unmapped ks (subst (AllPairs Comes) (sym e) (once_rise (map class_of (map parts_of vs)) (kinds_rise vs rising)))
    i j d less within
  where
    unmapped : (ks : List code.Class) → AllPairs Comes (map class_view ks)
        → AllPairs (λ j k. Comes (class_view j) (class_view k)) ks
    unmapped ks h i j d less within =
        let long = length-map ks class_view in
        subst (λ k. Comes k (class_view (get_or ks j d)))
        (get_or-map class_view ks i d (class_view d) (omega (arith, less, within)))
        (subst (Comes (get_or (map class_view ks) i (class_view d)))
        (get_or-map class_view ks j d (class_view d) within)
        (h i j (class_view d) less (omega (arith, within, long))))
