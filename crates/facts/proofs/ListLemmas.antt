-- The list of a fact has just the rules that need it.
use Rattle.std.proofs.Common.{◌≡◌, ℕ, zero, suc, ◌<◌, List, [], ◌∷◌, ◌++◌, Vec, length, get_or, set, take, Contains}
use Rattle.std.proofs.Common.{Bool, true, false}
use Rattle.std.proofs.Common.{refl, sym, ap, ◌∙◌, subst, inl, inr, ◌⊎◌, arith, eqb-true}
use Rattle.std.specs.Prelude.{◌==◌, if◌then◌else◌}
use Rattle.std.specs.declared.alloc.Global.{Global}
use Rattle.std.proofs.lemmas.List.Elements.{Contains-append_left, Contains-push, Contains-push_cases}
use Rattle.facts.specs.declared.rule.Rule.{Rule}
use Rattle.facts.specs.inner.Chains.{AreBelow}
use Rattle.facts.specs.inner.Worklists.{IsBelow}
use Rattle.facts.specs.inner.Lists.{rule_lists, rules_at, no_lists, put_at, put_both, put_all, index_of}

-- a rule is put into the list at a place
pub put-set : (ls : List (Vec Rule Global)) (i : ℕ) (r : Rule) (d v : Vec Rule Global) → i < length ls
    → v.items ≡ (get_or ls i d).items ++ r ∷ []
    → rule_lists (set ls i v) ≡ put_at (rule_lists ls) i r
put-set [] i r d v lt e = absurd (omega arith)
put-set (l ∷ ls) zero r d v lt e = ap (λ x. x ∷ rule_lists ls) e
put-set (l ∷ ls) (suc i) r d v lt e = ap (λ x. l.items ∷ x) (put-set ls i r d v (omega arith) e)

pub rules_at-get : (ls : List (Vec Rule Global)) (i : ℕ) (d : Vec Rule Global) → i < length ls
    → (get_or ls i d).items ≡ rules_at (rule_lists ls) i
rules_at-get [] i d lt = absurd (omega arith)
rules_at-get (l ∷ ls) zero d lt = refl
rules_at-get (l ∷ ls) (suc i) d lt = rules_at-get ls i d (omega arith)

pub one_more_list : (n : ℕ) → no_lists n ++ [] ∷ [] ≡ no_lists (suc n)
one_more_list zero = refl
one_more_list (suc n) = ap (λ x. [] ∷ x) (one_more_list n)

pub in_none : {X : Type 0} (x : X) → Contains [] x → ⊥
in_none x c = omega (arith, c.1)

pub in_cons : {X : Type 0} (y x : X) (xs : List X) → Contains (y ∷ xs) x → (y ≡ x) ⊎ Contains xs x
in_cons y x xs (zero, lt, e) = inl e
in_cons y x xs (suc k, lt, e) = inr (k, omega arith, e)

pub take_within : {X : Type 0} (n : ℕ) (xs : List X) (x : X) → Contains (take n xs) x → Contains xs x
take_within zero xs x c = absurd (in_none x c)
take_within (suc n) [] x c = c
take_within (suc n) (y ∷ ys) x c = elim (in_cons y x (take n ys) c) [
  | inl e ↦ (zero, omega arith, e)
  | inr c ↦ let r = take_within n ys x c in (suc r.0, omega (arith, r.1), r.2)
]

pub length-put_at : (ls : List (List Rule)) (i : ℕ) (r : Rule) → length (put_at ls i r) ≡ length ls
length-put_at [] i r = refl
length-put_at (l ∷ ls) zero r = refl
length-put_at (l ∷ ls) (suc i) r = ap suc (length-put_at ls i r)

-- what holds where a rule is put into both lists, and where it is put into one for both
by_facts : (P : List (List Rule) → Type 0) (ls : List (List Rule)) (r : Rule)
    → (r.first ≡ r.second → P (put_at ls r.first r)) → P (put_at (put_at ls r.first r) r.second r) → P (put_both ls r)
by_facts P ls r one two = go (r.first == r.second) refl
  where
    go : (b : Bool) → (r.first == r.second) ≡ b
        → P (if b then put_at ls r.first r else put_at (put_at ls r.first r) r.second r)
    go true e = one (eqb-true r.first r.second e)
    go false e = two

pub length-put_both : (ls : List (List Rule)) (r : Rule) → length (put_both ls r) ≡ length ls
length-put_both ls r = by_facts (λ l. length l ≡ length ls) ls r (λ e. length-put_at ls r.first r)
    (length-put_at (put_at ls r.first r) r.second r ∙ length-put_at ls r.first r)

pub length-no_lists : (n : ℕ) → length (no_lists n) ≡ n
length-no_lists zero = refl
length-no_lists (suc n) = ap suc (length-no_lists n)

put_keeps : (ls : List (List Rule)) (i : ℕ) (r : Rule) (j : ℕ) (x : Rule) → Contains (rules_at ls j) x
    → Contains (rules_at (put_at ls i r) j) x
put_keeps [] i r j x c = c
put_keeps (l ∷ ls) zero r zero x c = Contains-append_left l (r ∷ []) x c
put_keeps (l ∷ ls) zero r (suc j) x c = c
put_keeps (l ∷ ls) (suc i) r zero x c = c
put_keeps (l ∷ ls) (suc i) r (suc j) x c = put_keeps ls i r j x c

put_there : (ls : List (List Rule)) (i : ℕ) (r : Rule) → i < length ls → Contains (rules_at (put_at ls i r) i) r
put_there [] i r lt = absurd (omega arith)
put_there (l ∷ ls) zero r lt = Contains-push l r
put_there (l ∷ ls) (suc i) r lt = put_there ls i r (omega arith)

put_only : (ls : List (List Rule)) (i : ℕ) (r : Rule) (j : ℕ) (x : Rule) → Contains (rules_at (put_at ls i r) j) x
    → Contains (rules_at ls j) x ⊎ (r ≡ x)
put_only [] i r j x c = inl c
put_only (l ∷ ls) zero r zero x c = Contains-push_cases l r x c
put_only (l ∷ ls) zero r (suc j) x c = inl c
put_only (l ∷ ls) (suc i) r zero x c = inl c
put_only (l ∷ ls) (suc i) r (suc j) x c = put_only ls i r j x c

both_keep : (ls : List (List Rule)) (r : Rule) (j : ℕ) (x : Rule) → Contains (rules_at ls j) x
    → Contains (rules_at (put_both ls r) j) x
both_keep ls r j x c = by_facts (λ l. Contains (rules_at l j) x) ls r (λ e. put_keeps ls r.first r j x c)
    (put_keeps (put_at ls r.first r) r.second r j x (put_keeps ls r.first r j x c))

both_only : (ls : List (List Rule)) (r : Rule) (j : ℕ) (x : Rule) → Contains (rules_at (put_both ls r) j) x
    → Contains (rules_at ls j) x ⊎ (r ≡ x)
both_only ls r j x = by_facts (λ l. Contains (rules_at l j) x → Contains (rules_at ls j) x ⊎ (r ≡ x)) ls r
    (λ e. put_only ls r.first r j x)
    (λ c. elim (put_only (put_at ls r.first r) r.second r j x c) [
      | inl c ↦ put_only ls r.first r j x c
      | inr e ↦ inr e
    ])

both_there : (ls : List (List Rule)) (r : Rule) → IsBelow (length ls) r
    → Contains (rules_at (put_both ls r) r.first) r × Contains (rules_at (put_both ls r) r.second) r
both_there ls r below =
    by_facts (λ l. Contains (rules_at l r.first) r × Contains (rules_at l r.second) r) ls r
    (λ e. let first = put_there ls r.first r below.0 in
    (first, subst (λ i. Contains (rules_at (put_at ls r.first r) i) r) e first)) (
      put_keeps (put_at ls r.first r) r.second r r.first r (put_there ls r.first r below.0),
      put_there (put_at ls r.first r) r.second r
          (subst (λ n. r.second < n) (sym (length-put_at ls r.first r)) below.1),
    )

all_keep : (ls : List (List Rule)) (rs : List Rule) (j : ℕ) (x : Rule) → Contains (rules_at ls j) x
    → Contains (rules_at (put_all ls rs) j) x
all_keep ls [] j x c = c
all_keep ls (r ∷ rs) j x c = all_keep (put_both ls r) rs j x (both_keep ls r j x c)

all_only : (ls : List (List Rule)) (rs : List Rule) (j : ℕ) (x : Rule) → Contains (rules_at (put_all ls rs) j) x
    → Contains (rules_at ls j) x ⊎ Contains rs x
all_only ls [] j x c = inl c
all_only ls (r ∷ rs) j x c = elim (all_only (put_both ls r) rs j x c) [
  | inl c ↦ elim (both_only ls r j x c) [ inl c ↦ inl c | inr e ↦ inr (zero, omega arith, e) ]
  | inr c ↦ inr (suc c.0, omega (arith, c.1), c.2)
]

rest_below : (n : ℕ) (r : Rule) (rs : List Rule) → AreBelow n (r ∷ rs) → AreBelow n rs
rest_below n r rs h k d lt = h (suc k) d (omega arith)

all_there : (ls : List (List Rule)) (rs : List Rule) (x : Rule) → AreBelow (length ls) rs → Contains rs x
    → Contains (rules_at (put_all ls rs) x.first) x × Contains (rules_at (put_all ls rs) x.second) x
all_there ls [] x below c = absurd (in_none x c)
all_there ls (r ∷ rs) x below c = elim (in_cons r x rs c) [
  | inl e ↦
      let there = both_there ls r (below zero r (omega arith)) in
      subst (λ x. Contains (rules_at (put_all (put_both ls r) rs) x.first) x
      × Contains (rules_at (put_all (put_both ls r) rs) x.second) x) e (
        all_keep (put_both ls r) rs r.first r there.0,
        all_keep (put_both ls r) rs r.second r there.1,
      )
  | inr c ↦ all_there (put_both ls r) rs x
      (subst (λ n. AreBelow n rs) (sym (length-put_both ls r)) (rest_below (length ls) r rs below)) c
]

none_there : (n j : ℕ) (x : Rule) → Contains (rules_at (no_lists n) j) x → ⊥
none_there zero j x c = in_none x c
none_there (suc n) zero x c = in_none x c
none_there (suc n) (suc j) x c = none_there n j x c

-- the list of each fact of a rule has it
pub index_has : (n : ℕ) (rules : List Rule) (r : Rule) → AreBelow n rules → Contains rules r
    → Contains (rules_at (index_of n rules) r.first) r × Contains (rules_at (index_of n rules) r.second) r
index_has n rules r below c =
    all_there (no_lists n) rules r (subst (λ m. AreBelow m rules) (sym (length-no_lists n)) below) c

-- each list has rules alone
pub index_within : (n : ℕ) (rules : List Rule) (j : ℕ) (r : Rule)
    → Contains (rules_at (index_of n rules) j) r → Contains rules r
index_within n rules j r c =
    elim (all_only (no_lists n) rules j r c) [ inl c ↦ absurd (none_there n j r c) | inr c ↦ c ]
