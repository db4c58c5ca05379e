-- The classes in which candidates match, by the groups of `classes::matching` and by the definition of a vertex's
-- states: one list, in one order.
use Rattle.std.proofs.Common.{◌≡◌, ℕ, List, [], ◌∷◌, map, filter, Bool, true, false, cond, not, ◌||◌, Contains, nat_lt}
use Rattle.std.proofs.Common.{refl, sym, ap, ◌∙◌, subst, inl, inr, arith, true≢false}
use Rattle.std.specs.List.{list_any, AllPairs}
use Rattle.std.specs.Ordering.{is_gt}
use Rattle.std.specs.declared.cmp.Ordering.TheVariants.{Less}
use Rattle.semver.specs.EvalViews.{matches_views}
use Rattle.semver.specs.Parse.{Parts}
use Rattle.model.specs.Summary.{Dependency}
use Rattle.model.specs.Content.{Candidate, Problem, candidates_of}
use Rattle.model.specs.Order.{precedence}
use Rattle.model.specs.Selection.{Class, patch, minor, major, class_of}
use Rattle.model.specs.Vertices.{same_class, add_class, classes_of, matching, dep_classes}
use Rattle.model.specs.Axioms.{is_lower}
use Rattle.model.proofs.Same.{class-same, class-refl}
use Rattle.model.proofs.Orders.{class_above}
use Rattle.model.proofs.Lists.{any_of, pairs_first, pairs_rest, in_rest, in_first, in_cons, in_none, in_map, in_filter}
use Rattle.model.proofs.Lists.{pairs_none}
use Rattle.model.proofs.Members.{all_in}
use Rattle.std.proofs.lemmas.List.Kept.{AllPairs-cons}
use Rattle.classes.specs.Groups.{each_once, classes_matched}

-- the second class isn't lower
abbrev pub Comes : Class → Class → Type 0
Comes k m = is_lower m k ≡ false

same_number : (a b : ℕ) → nat_lt a b ≡ false → nat_lt b a ≡ false → a ≡ b
same_number a b h k = grind (arith, h, k)

-- two classes of which neither is lower are one
pub neither : (k m : Class) → is_lower k m ≡ false → is_lower m k ≡ false → k ≡ m
neither (patch a) (patch b) h k = ap patch (same_number a b h k)
neither (patch a) (minor b) h k = absurd (true≢false h)
neither (patch a) (major b) h k = absurd (true≢false h)
neither (minor a) (patch b) h k = absurd (true≢false k)
neither (minor a) (minor b) h k = ap minor (same_number a b h k)
neither (minor a) (major b) h k = absurd (true≢false h)
neither (major a) (patch b) h k = absurd (true≢false k)
neither (major a) (minor b) h k = absurd (true≢false k)
neither (major a) (major b) h k = ap major (same_number a b h k)

abbrev pub folded : List Class → List Class
folded [] = []
folded (k ∷ ks) = add_class k (folded ks)

-- what is left without a class, where it is there and where it isn't
abbrev without : Class → List Class → List Class
without k ks = filter (λ c. not (same_class k c)) ks

without_none : (k : Class) (ks : List Class) → list_any (same_class k) ks ≡ false → without k ks ≡ ks
without_none k [] h = refl
without_none k (m ∷ ks) h = by (without_none k ks) (same_class k m) h
  where
    by : (list_any (same_class k) ks ≡ false → without k ks ≡ ks) → (b : Bool)
        → (b || list_any (same_class k) ks) ≡ false
        → cond (not b) (m ∷ without k ks) (without k ks) ≡ m ∷ ks
    by rest true h = absurd (true≢false h)
    by rest false h = ap (λ l. m ∷ l) (rest h)

without_again : (k : Class) (ks : List Class) → without k (without k ks) ≡ without k ks
without_again k [] = refl
without_again k (m ∷ ks) = by (without_again k ks) (same_class k m) refl
  where
    by : without k (without k ks) ≡ without k ks → (b : Bool) → same_class k m ≡ b
        → without k (cond (not (same_class k m)) (m ∷ without k ks) (without k ks))
        ≡ cond (not (same_class k m)) (m ∷ without k ks) (without k ks)
    by rest true e = ap (λ b. without k (cond (not b) (m ∷ without k ks) (without k ks))) e ∙ rest
        ∙ ap (λ b. cond (not b) (m ∷ without k ks) (without k ks)) (sym e)
    by rest false e =
        ap (λ b. without k (cond (not b) (m ∷ without k ks) (without k ks))) e
        ∙ ap (λ b. cond (not b) (m ∷ without k (without k ks)) (without k (without k ks))) e
        ∙ ap (λ l. m ∷ l) rest ∙ ap (λ b. cond (not b) (m ∷ without k ks) (without k ks)) (sym e)

-- a class that is there again
again : (k : Class) (ks : List Class) → each_once (k ∷ k ∷ ks) ≡ each_once (k ∷ ks)
again k ks = ap (λ l. k ∷ l) (ap (λ b. cond (not b) (k ∷ without k (without k (each_once ks)))
    (without k (without k (each_once ks)))) (class-refl k) ∙ without_again k (each_once ks))

pub folded_in : (ks : List Class) (c : Class) → Contains (folded ks) c → Contains ks c
folded_in [] c h = h
folded_in (k ∷ ks) c h = by (folded_in ks c) (list_any (same_class k) (folded ks)) h
  where
    by : (Contains (folded ks) c → Contains ks c) → (b : Bool)
        → Contains (cond b (folded ks) (k ∷ folded ks)) c → Contains (k ∷ ks) c
    by rest true h = in_rest k c ks (rest h)
    by rest false h = elim (in_cons k c (folded ks) h) [
      | inl e ↦ subst
          (λ x. Contains (k ∷ ks) x) e (in_first k ks)
      | inr d ↦ in_rest k c ks (rest d)
    ]

-- a class that is there again among those that don't fall comes next
pub next_same : (k m : Class) (ks : List Class) → AllPairs Comes (k ∷ m ∷ ks) → Contains (m ∷ ks) k → m ≡ k
next_same k m ks h c = elim (in_cons m k ks c) [
  | inl e ↦ e
  | inr d ↦ neither m k (pairs_first Comes k m (m ∷ ks) h (in_first m ks))
      (pairs_first Comes m k ks (pairs_rest Comes k (m ∷ ks) h) d)
]

once_again : (k : Class) (ks : List Class) → AllPairs Comes (k ∷ ks) → Contains ks k → each_once (k ∷ ks) ≡ each_once ks
once_again k [] h c = absurd (in_none k c)
once_again k (m ∷ ks) h c =
    subst (λ x. each_once (k ∷ x ∷ ks) ≡ each_once (x ∷ ks)) (sym (next_same k m ks h c)) (again k ks)

folded_once : (ks : List Class) → AllPairs Comes ks → each_once ks ≡ folded ks
folded_once [] h = refl
folded_once (k ∷ ks) h = by (folded_once ks (pairs_rest Comes k ks h)) (list_any (same_class k) (folded ks)) refl
  where
    by : each_once ks ≡ folded ks → (b : Bool) → list_any (same_class k) (folded ks) ≡ b
        → each_once (k ∷ ks) ≡ cond (list_any (same_class k) (folded ks)) (folded ks) (k ∷ folded ks)
    by rest true e =
        let r = any_of (same_class k) (folded ks) e in
        let there : Contains ks k =
        folded_in ks k (subst (λ x. Contains (folded ks) x) (sym (class-same k r.0 r.2)) r.1) in
        once_again k ks h there ∙ rest ∙ ap (λ b. cond b (folded ks) (k ∷ folded ks)) (sym e)
    by rest false e = ap (λ l. k ∷ l) (ap (without k) rest ∙ without_none k (folded ks) e)
        ∙ ap (λ b. cond b (folded ks) (k ∷ folded ks)) (sym e)

-- ---- candidates that are oldest first

abbrev class_at : Candidate → Class
class_at c = class_of c.version

abbrev pub IsOlder : Candidate → Candidate → Type 0
IsOlder c e = precedence c.version e.version ≡ Less

comes : (c e : Candidate) → IsOlder c e → Comes (class_at c) (class_at e)
comes c e less = by (is_lower (class_of e.version) (class_of c.version)) refl
  where
    by : (b : Bool) → is_lower (class_of e.version) (class_of c.version) ≡ b → b ≡ false
    by true h = let x : is_gt (precedence c.version e.version) ≡ true =
        class_above e.version c.version h in absurd (true≢false (sym x ∙ ap is_gt less))
    by false h = refl

pub pairs_comes : (cs : List Candidate) → AllPairs IsOlder cs → AllPairs Comes (map class_at cs)
pairs_comes [] h = pairs_none Comes
pairs_comes (c ∷ cs) h = AllPairs-cons Comes (class_at c) (map class_at cs)
    (all_in (Comes (class_at c)) (map class_at cs) (λ k i. let r = in_map class_at cs k i in
    subst (Comes (class_at c)) r.2 (comes c r.0 (pairs_first IsOlder c r.0 cs h r.1))))
    (pairs_comes cs (pairs_rest IsOlder c cs h))

pub pairs_filter : (p : Candidate → Bool) (cs : List Candidate) → AllPairs IsOlder cs → AllPairs IsOlder (filter p cs)
pairs_filter p [] h = h
pairs_filter p (c ∷ cs) h = by (pairs_filter p cs (pairs_rest IsOlder c cs h)) (p c)
  where
    by : AllPairs IsOlder (filter p cs) → (b : Bool) → AllPairs IsOlder (cond b (c ∷ filter p cs) (filter p cs))
    by rest true = AllPairs-cons IsOlder c (filter p cs)
        (all_in (IsOlder c) (filter p cs) (λ e i. pairs_first IsOlder c e cs h (in_filter p cs e i).0)) rest
    by rest false = rest

pub classes_folded : (cs : List Candidate) → classes_of cs ≡ folded (map class_at cs)
classes_folded [] = refl
classes_folded (c ∷ cs) = ap (add_class (class_of c.version)) (classes_folded cs)

-- the classes of the versions that pass
taken : (t : Parts → Bool) (cs : List Candidate) → map class_of (filter t (map (λ (c : Candidate). c.version) cs))
    ≡ map class_at (filter (λ (c : Candidate). t c.version) cs)
taken t [] = refl
taken t (c ∷ cs) = by (taken t cs) (t c.version)
  where
    by : map class_of (filter t (map (λ (c : Candidate). c.version) cs))
        ≡ map class_at (filter (λ (c : Candidate). t c.version) cs) → (b : Bool)
        → map class_of (cond b (c.version ∷ filter t (map (λ (c : Candidate). c.version) cs))
        (filter t (map (λ (c : Candidate). c.version) cs)))
        ≡ map class_at
        (cond b (c ∷ filter (λ (c : Candidate). t c.version) cs) (filter (λ (c : Candidate). t c.version) cs))
    by rest true = ap (λ l. class_of c.version ∷ l) rest
    by rest false = rest

-- The classes that `matching` finds are the states of the dependency's vertex after absent, in their order.
pub matched_classes : (q : Problem) (d : Dependency)
    → AllPairs (λ c e. precedence c.version e.version ≡ Less) (candidates_of q.candidates d.real_name)
    → classes_matched d.requirement (map (λ (c : Candidate). c.version) (candidates_of q.candidates d.real_name))
    ≡ dep_classes q d
matched_classes q d rising =
    ap each_once (taken (λ v. matches_views d.requirement v) (candidates_of q.candidates d.real_name))
    ∙ folded_once (map class_at (matching q d)) (pairs_comes (matching q d)
    (pairs_filter (λ c. matches_views d.requirement c.version) (candidates_of q.candidates d.real_name) rising))
    ∙ sym (classes_folded (matching q d))
