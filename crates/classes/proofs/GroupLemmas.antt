-- A pass over versions that are oldest first makes the groups of those that a requirement matches.
use Rattle.std.proofs.Common.{◌≡◌, ℕ, ◌+◌, zero, suc, List, [], ◌∷◌, ◌++◌, length, get_or, map, filter, Bool, true}
use Rattle.std.proofs.Common.{false, not, cond, ◌&&◌, ◌||◌, nat_eq, nat_lt, ◌<◌, ◌≤◌, refl, sym, ap, ap₂, ◌∙◌, subst}
use Rattle.std.proofs.Common.{arith, true≢false, append_assoc}
use Rattle.std.specs.List.{All, AllPairs, list_any}
use Rattle.std.specs.Ordering.{is_gt}
use Rattle.std.proofs.lemmas.Bool.{ltb-false, lt-ltb, eq-eqb}
use Rattle.std.proofs.lemmas.List.{append-nil, length-append, map-append}
use Rattle.std.proofs.lemmas.List.Elements.{All-push, filter-append}
use Rattle.std.proofs.lemmas.List.Quantifiers.{all_pairs_push}
use Rattle.semver.specs.EvalViews.{matches_views}
use Rattle.semver.specs.Parse.{Held, Parts}
use Rattle.model.specs.Axioms.{is_lower}
use Rattle.model.specs.Order.{precedence}
use Rattle.model.specs.Selection.{Class, patch, minor, major, class_of}
use Rattle.model.specs.Vertices.{same_class}
use Rattle.model.proofs.Lists.{all_first, all_rest, all_cons, all_none, pairs_all, pairs_rest, pairs_none}
use Rattle.model.proofs.Orders.{class_above}
use Rattle.model.proofs.Same.{class-same, class-refl}
use Rattle.classes.specs.Groups.{Group, IsOldestFirst, positions_from, each_once, classes_matched, positions_matched}
use Rattle.classes.specs.Groups.{groups_of, ends_in, with_last, with_position, with_versions}

same_sym : (a b : Class) → same_class a b ≡ same_class b a
same_sym a b = by (same_class a b) (same_class b a) refl refl
  where
    by : (x y : Bool) → same_class a b ≡ x → same_class b a ≡ y → x ≡ y
    by true true p q = refl
    by false false p q = refl
    by true false p q = sym (class-refl a) ∙ ap (λ c. same_class c a) (class-same a b p) ∙ q
    by false true p q = sym p ∙ ap (λ c. same_class c b) (sym (class-same b a q)) ∙ class-refl b

number : (a b : ℕ) → nat_eq a b ≡ false → nat_lt b a ≡ false → a < b
number a b apart low =
    let most : a ≤ b = ltb-false b a low in
    let differs : a ≡ b → ⊥ = λ e. true≢false (sym (eq-eqb a b e) ∙ apart) in
    omega arith

-- of two classes that differ the one is lower, if the other isn't
lower_apart : (a b : Class) → same_class a b ≡ false → is_lower b a ≡ false → is_lower a b ≡ true
lower_apart (patch a) (patch b) s l = lt-ltb a b (number a b s l)
lower_apart (minor a) (minor b) s l = lt-ltb a b (number a b s l)
lower_apart (major a) (major b) s l = lt-ltb a b (number a b s l)
lower_apart (patch a) (minor b) s l = refl
lower_apart (patch a) (major b) s l = refl
lower_apart (minor a) (major b) s l = refl
lower_apart (minor a) (patch b) s l = absurd (true≢false l)
lower_apart (major a) (patch b) s l = absurd (true≢false l)
lower_apart (major a) (minor b) s l = absurd (true≢false l)

-- the class of a version is not below that of an older one
pub not_below : (v w : Parts) → is_gt (precedence v w) ≡ false → is_lower (class_of w) (class_of v) ≡ false
not_below v w h = by (is_lower (class_of w) (class_of v)) refl
  where
    by : (b : Bool) → is_lower (class_of w) (class_of v) ≡ b → b ≡ false
    by false e = refl
    by true e = sym (class_above w v e) ∙ h

abbrev other_than : Class → Class → Bool
other_than k c = not (same_class k c)

-- without one class another is there as before
any_other : (k c : Class) (ks : List Class) → same_class k c ≡ false
    → list_any (same_class k) (filter (other_than c) ks) ≡ list_any (same_class k) ks
any_other k c [] apart = refl
any_other k c (d ∷ ks) apart = by (same_class c d) refl (any_other k c ks apart)
  where
    by : (b : Bool) → same_class c d ≡ b
        → list_any (same_class k) (filter (other_than c) ks) ≡ list_any (same_class k) ks
        → list_any (same_class k) (cond (not b) (d ∷ filter (other_than c) ks) (filter (other_than c) ks))
        ≡ (same_class k d || list_any (same_class k) ks)
    by true e rest = rest ∙ ap (λ b. b || list_any (same_class k) ks) (sym apart ∙ ap (same_class k) (class-same c d e))
    by false e rest = ap (λ b. same_class k d || b) rest

any_once : (k : Class) (ks : List Class) → list_any (same_class k) (each_once ks) ≡ list_any (same_class k) ks
any_once k [] = refl
any_once k (c ∷ ks) = by (any_once k ks) (same_class k c) refl
  where
    by : list_any (same_class k) (each_once ks) ≡ list_any (same_class k) ks → (b : Bool) → same_class k c ≡ b
        → (b || list_any (same_class k) (filter (other_than c) (each_once ks))) ≡ (b || list_any (same_class k) ks)
    by rest true e = refl
    by rest false e = any_other k c (each_once ks) e ∙ rest

-- one more class
once-snoc : (k : Class) (ks : List Class)
    → each_once (ks ++ k ∷ []) ≡ cond (list_any (same_class k) (each_once ks)) (each_once ks) (each_once ks ++ k ∷ [])
once-snoc k [] = refl
once-snoc k (c ∷ ks) = ap (λ l. c ∷ filter (other_than c) l) (once-snoc k ks)
    ∙ by (same_class k c) (list_any (same_class k) (each_once ks)) refl refl
  where
    without : List Class
    without = filter (other_than c) (each_once ks)

    last : (b : Bool) → same_class k c ≡ b → filter (other_than c) (k ∷ []) ≡ cond b [] (k ∷ [])
    last b e = ap (λ b. cond (not b) (k ∷ []) []) (same_sym c k ∙ e) ∙ turn b
      where
        turn : (b : Bool) → cond (not b) (k ∷ []) [] ≡ cond b [] (k ∷ [])
        turn true = refl
        turn false = refl

    by : (b a : Bool) → same_class k c ≡ b → list_any (same_class k) (each_once ks) ≡ a
        → (c ∷ filter (other_than c) (cond a (each_once ks) (each_once ks ++ k ∷ [])))
        ≡ cond (b || list_any (same_class k) without) (c ∷ without) (c ∷ (without ++ k ∷ []))
    by true true e f = refl
    by true false e f = ap (λ l. c ∷ l) (filter-append (other_than c) (each_once ks) (k ∷ [])
        ∙ ap (λ l. without ++ l) (last true e) ∙ append-nil without)
    by false true e f =
        ap (λ x. cond x (c ∷ without) (c ∷ (without ++ k ∷ []))) (sym (any_other k c (each_once ks) e ∙ f))
    by false false e f =
        ap (λ l. c ∷ l) (filter-append (other_than c) (each_once ks) (k ∷ []) ∙ ap (λ l. without ++ l) (last false e))
        ∙ ap (λ x. cond x (c ∷ without) (c ∷ (without ++ k ∷ []))) (sym (any_other k c (each_once ks) e ∙ f))

-- the positions with one more version
positions-snoc : (test : Parts → Bool) (vs : List Parts) (v : Parts) (n m : ℕ) → m ≡ n + length vs
    → positions_from n test (vs ++ v ∷ []) ≡ positions_from n test vs ++ cond (test v) (m ∷ []) []
positions-snoc test [] v n m e = ap (λ i. cond (test v) (i ∷ []) []) (sym (e ∙ plus_none n))
  where
    plus_none : (n : ℕ) → n + zero ≡ n
    plus_none n = omega arith
positions-snoc test (u ∷ vs) v n m e = by (test u) (positions-snoc test vs v (suc n) m (e ∙ one_more n (length vs)))
  where
    one_more : (n l : ℕ) → n + suc l ≡ suc n + l
    one_more n l = omega arith

    by : (b : Bool)
        → positions_from (suc n) test (vs ++ v ∷ []) ≡ positions_from (suc n) test vs ++ cond (test v) (m ∷ []) []
        → cond b (n ∷ positions_from (suc n) test (vs ++ v ∷ [])) (positions_from (suc n) test (vs ++ v ∷ []))
        ≡ cond b (n ∷ positions_from (suc n) test vs) (positions_from (suc n) test vs) ++ cond (test v) (m ∷ []) []
    by true rest = ap (λ l. n ∷ l) rest
    by false rest = rest

-- the classes rise
abbrev Rising : List Class → Type 0
Rising ks = AllPairs (λ c d. is_lower c d ≡ true) ks

-- no class is above k
abbrev Reach : Class → List Class → Type 0
Reach k ks = All (λ c. is_lower k c ≡ false) ks

-- one more position of class k, where `at` has the positions of each class
module _ (k : Class) (n : ℕ) (at : Class → List ℕ) where
  abbrev old : Class → Group
  old c = (c, at c)

  abbrev new : Class → Group
  new c = (c, at c ++ cond (same_class c k) (n ∷ []) [])

  new-same : new k ≡ (k, at k ++ n ∷ [])
  new-same = ap (λ b. (k, at k ++ cond b (n ∷ []) [])) (class-refl k)

  new-other : (c : Class) → same_class k c ≡ false → new c ≡ old c
  new-other c e = ap (λ b. (c, at c ++ cond b (n ∷ []) [])) (same_sym c k ∙ e) ∙ ap (λ l. (c, l)) (append-nil (at c))

  new-first : (c : Class) → same_class k c ≡ true → new c ≡ (c, at c ++ n ∷ [])
  new-first c e = ap (λ b. (c, at c ++ cond b (n ∷ []) [])) (same_sym c k ∙ e)

  new-only : at k ≡ [] → new k ≡ (k, n ∷ [])
  new-only none = new-same ∙ ap (λ l. (k, l ++ n ∷ [])) none

  pub position-put : (ks : List Class) → Rising ks → Reach k ks → (list_any (same_class k) ks ≡ false → at k ≡ [])
      → with_position k n (map old ks) ≡ map new (cond (list_any (same_class k) ks) ks (ks ++ k ∷ []))
  position-put [] rising reach none = ap (λ g. g ∷ []) (sym (new-only (none refl)))
  position-put (c ∷ []) rising reach none = by (same_class k c) refl none
    where
      by : (b : Bool) → same_class k c ≡ b → ((b || false) ≡ false → at k ≡ [])
          → cond b ((c, at c ++ n ∷ []) ∷ []) ((c, at c) ∷ (k, n ∷ []) ∷ [])
          ≡ map new (cond (b || false) (c ∷ []) (c ∷ k ∷ []))
      by true e none = ap (λ g. g ∷ []) (sym (new-first c e))
      by false e none = ap₂ (λ g h. g ∷ h ∷ []) (sym (new-other c e)) (sym (new-only (none refl)))
  position-put (c ∷ d ∷ ks) rising reach none =
      first (ends_in k (map old (d ∷ ks)))
      ∙ ap (λ l. (c, at c) ∷ l) (position-put (d ∷ ks) (pairs_rest (λ c d. is_lower c d ≡ true) c (d ∷ ks) rising)
      (all_rest (λ c. is_lower k c ≡ false) c (d ∷ ks) reach)
      (λ h. none (ap (λ b. b || list_any (same_class k) (d ∷ ks)) apart ∙ h)))
      ∙ by (list_any (same_class k) (d ∷ ks)) ∙ ap (λ b.
      map new (cond (b || list_any (same_class k) (d ∷ ks)) (c ∷ d ∷ ks) (c ∷ d ∷ (ks ++ k ∷ [])))) (sym apart)
    where
      above : is_lower c d ≡ true
      above = all_first (λ e. is_lower c e ≡ true) d ks (pairs_all (λ c d. is_lower c d ≡ true) c (d ∷ ks) rising)

      under : is_lower k d ≡ false
      under = all_first (λ e. is_lower k e ≡ false) d ks (all_rest (λ e. is_lower k e ≡ false) c (d ∷ ks) reach)

      apart : same_class k c ≡ false
      apart = which (same_class k c) refl
        where
          which : (b : Bool) → same_class k c ≡ b → b ≡ false
          which false e = refl
          which true e = sym above ∙ ap (λ x. is_lower x d) (sym (class-same k c e)) ∙ under

      first : (b : Bool)
          → cond b ((c, at c) ∷ with_last n (map old (d ∷ ks))) ((c, at c) ∷ (map old (d ∷ ks) ++ (k, n ∷ []) ∷ []))
          ≡ ((c, at c) ∷ cond b (with_last n (map old (d ∷ ks))) (map old (d ∷ ks) ++ (k, n ∷ []) ∷ []))
      first true = refl
      first false = refl

      by : (b : Bool) → ((c, at c) ∷ map new (cond b (d ∷ ks) (d ∷ (ks ++ k ∷ []))))
          ≡ map new (cond b (c ∷ d ∷ ks) (c ∷ d ∷ (ks ++ k ∷ [])))
      by true = ap (λ g. g ∷ map new (d ∷ ks)) (sym (new-other c apart))
      by false = ap (λ g. g ∷ map new (d ∷ (ks ++ k ∷ []))) (sym (new-other c apart))

none_all : {X : Type 0} (p : X → Bool) (xs : List X) → list_any p xs ≡ false → All (λ x. p x ≡ false) xs
none_all p [] h = all_none (λ x. p x ≡ false)
none_all p (x ∷ xs) h = by (λ h. none_all p xs h) (p x) refl h
  where
    by : (list_any p xs ≡ false → All (λ x. p x ≡ false) xs) → (b : Bool) → p x ≡ b → (b || list_any p xs) ≡ false
        → All (λ x. p x ≡ false) (x ∷ xs)
    by rest true e h = absurd (true≢false h)
    by rest false e h = all_cons (λ x. p x ≡ false) x xs e (rest h)

module _ (requirement : List Held) where
  abbrev matched : Parts → Bool
  matched v = matches_views requirement v

  abbrev classes : List Parts → List Class
  classes vs = classes_matched requirement vs

  -- the classes with one more, if it isn't there
  abbrev with_class : Bool → Bool → Class → List Class → List Class
  with_class m a k ks = cond m (cond a ks (ks ++ k ∷ [])) ks

  classes-snoc : (vs : List Parts) (v : Parts) → classes (vs ++ v ∷ [])
      ≡ with_class (matched v) (list_any (same_class (class_of v)) (classes vs)) (class_of v) (classes vs)
  classes-snoc vs v = ap (λ l. each_once (map class_of l)) (filter-append matched vs (v ∷ [])) ∙ by (matched v)
    where
      by : (b : Bool) → each_once (map class_of (filter matched vs ++ cond b (v ∷ []) []))
          ≡ with_class b (list_any (same_class (class_of v)) (classes vs)) (class_of v) (classes vs)
      by true = ap each_once (map-append class_of (filter matched vs) (v ∷ []))
          ∙ once-snoc (class_of v) (map class_of (filter matched vs))
      by false = ap (λ l. each_once (map class_of l)) (append-nil (filter matched vs))

  positions_none : (k : Class) (vs : List Parts) (n : ℕ)
      → list_any (same_class k) (map class_of (filter matched vs)) ≡ false
      → positions_from n (λ v. matched v && same_class k (class_of v)) vs ≡ []
  positions_none k [] n h = refl
  positions_none k (v ∷ vs) n h = by (matched v) (same_class k (class_of v)) refl h (λ h. positions_none k vs (suc n) h)
    where
      rest : List ℕ
      rest = positions_from (suc n) (λ v. matched v && same_class k (class_of v)) vs

      by : (m s : Bool) → same_class k (class_of v) ≡ s
          → list_any (same_class k) (map class_of (cond m (v ∷ filter matched vs) (filter matched vs))) ≡ false
          → (list_any (same_class k) (map class_of (filter matched vs)) ≡ false → rest ≡ [])
          → cond (m && s) (n ∷ rest) rest ≡ []
      by true true e h none =
          absurd (true≢false (ap (λ b. b || list_any (same_class k) (map class_of (filter matched vs))) (sym e) ∙ h))
      by true false e h none =
          none (ap (λ b. b || list_any (same_class k) (map class_of (filter matched vs))) (sym e) ∙ h)
      by false s e h none = none h

  groups-snoc : (vs : List Parts) (v : Parts) → Rising (classes vs) → Reach (class_of v) (classes vs)
      → groups_of requirement (vs ++ v ∷ [])
      ≡ cond (matched v) (with_position (class_of v) (length vs) (groups_of requirement vs)) (groups_of requirement vs)
  groups-snoc vs v rising reach =
      ap (λ ks. map (λ k. (k, positions_matched requirement (vs ++ v ∷ []) k)) ks) (classes-snoc vs v)
      ∙ (λ i. map (λ k. (k, one_more k i))
      (with_class (matched v) (list_any (same_class (class_of v)) (classes vs)) (class_of v) (classes vs)))
      ∙ by (matched v)
    where
      one_more : (k : Class) → positions_matched requirement (vs ++ v ∷ []) k
          ≡ positions_matched requirement vs k ++ cond (matched v && same_class k (class_of v)) (length vs ∷ []) []
      one_more k = positions-snoc (λ v. matched v && same_class k (class_of v)) vs v zero (length vs) (omega arith)

      by : (m : Bool) → map (λ k.
          (k, positions_matched requirement vs k ++ cond (m && same_class k (class_of v)) (length vs ∷ []) []))
          (with_class m (list_any (same_class (class_of v)) (classes vs)) (class_of v) (classes vs))
          ≡ cond m (with_position (class_of v) (length vs) (groups_of requirement vs)) (groups_of requirement vs)
      by true = sym (position-put (class_of v) (length vs) (positions_matched requirement vs) (classes vs) rising reach
          (λ h. positions_none (class_of v) vs zero
          (sym (any_once (class_of v) (map class_of (filter matched vs))) ∙ h)))
      by false = λ i. map (λ k. (k, append-nil (positions_matched requirement vs k) i)) (classes vs)

  rising-snoc : (vs : List Parts) (v : Parts) → Rising (classes vs) → Reach (class_of v) (classes vs)
      → Rising (classes (vs ++ v ∷ []))
  rising-snoc vs v rising reach =
      subst Rising (sym (classes-snoc vs v)) (by (matched v) (list_any (same_class (class_of v)) (classes vs)) refl)
    where
      by : (m a : Bool) → list_any (same_class (class_of v)) (classes vs) ≡ a
          → Rising (with_class m a (class_of v) (classes vs))
      by true true e = rising
      by true false e = all_pairs_push (λ c d. is_lower c d ≡ true) (classes vs) (class_of v) rising
          (λ i d lt. lower_apart _ (class_of v)
          (same_sym _ (class_of v) ∙ none_all (same_class (class_of v)) (classes vs) e i d lt) (reach i d lt))
      by false a e = rising

  reach-snoc : (vs : List Parts) (v w : Parts) → Reach (class_of w) (classes vs) → is_gt (precedence v w) ≡ false
      → Reach (class_of w) (classes (vs ++ v ∷ []))
  reach-snoc vs v w reach older = subst (Reach (class_of w)) (sym (classes-snoc vs v))
      (by (matched v) (list_any (same_class (class_of v)) (classes vs)))
    where
      by : (m a : Bool) → Reach (class_of w) (with_class m a (class_of v) (classes vs))
      by true true = reach
      by true false =
          All-push (λ c. is_lower (class_of w) c ≡ false) (classes vs) (class_of v) reach (not_below v w older)
      by false a = reach

  -- from the groups of the versions so far on, a pass makes the groups of all
  pass : (rest front : List Parts) → Rising (classes front)
      → All (λ w. Reach (class_of w) (classes front)) rest → IsOldestFirst rest
      → with_versions requirement (length front) rest (groups_of requirement front)
      ≡ groups_of requirement (front ++ rest)
  pass [] front rising reach sorted = ap (groups_of requirement) (sym (append-nil front))
  pass (v ∷ rest) front rising reach sorted =
      ap (λ gs. with_versions requirement (suc (length front)) rest gs) (sym (groups-snoc front v rising here))
      ∙ ap (λ n. with_versions requirement n rest (groups_of requirement (front ++ v ∷ []))) longer
      ∙ pass rest (front ++ v ∷ []) (rising-snoc front v rising here)
      (λ i d lt. reach-snoc front v (get_or rest i d) (all_rest (λ w. Reach (class_of w) (classes front)) v rest
      reach i d lt) (pairs_all (λ v w. is_gt (precedence v w) ≡ false) v rest sorted i d lt))
      (pairs_rest (λ v w. is_gt (precedence v w) ≡ false) v rest sorted)
      ∙ ap (groups_of requirement) (append_assoc front (v ∷ []) rest)
    where
      here : Reach (class_of v) (classes front)
      here = all_first (λ w. Reach (class_of w) (classes front)) v rest reach

      longer : suc (length front) ≡ length (front ++ v ∷ [])
      longer = let l : length (front ++ v ∷ []) ≡ length front + 1 = length-append front (v ∷ []) in omega arith

  pub passed : (versions : List Parts) → IsOldestFirst versions
      → with_versions requirement zero versions [] ≡ groups_of requirement versions
  passed versions sorted = pass versions [] (pairs_none (λ c d. is_lower c d ≡ true))
      (λ i d lt. all_none (λ c. is_lower (class_of (get_or versions i d)) c ≡ false)) sorted
