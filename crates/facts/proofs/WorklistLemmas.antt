-- What a worklist keeps, and what it has in the end.
use Rattle.std.proofs.Common.{◌≡◌, ℕ, zero, suc, ◌<◌, ◌+◌, ◌↔◌, List, [], ◌∷◌, ◌++◌, length, get_or, set, Bool, true}
use Rattle.std.proofs.Common.{false, not, ◌&&◌, cond, Contains, refl, sym, ap, subst, inl, inr, ◌⊎◌, arith, true≢false}
use Rattle.std.proofs.lemmas.List.{length-append}
use Rattle.std.proofs.lemmas.List.Elements.{All-contains, Contains-get_or, Contains-append_left, Contains-push}
use Rattle.std.proofs.lemmas.List.Elements.{Contains-push_cases}
use Rattle.facts.specs.declared.rule.Rule.{Rule}
use Rattle.facts.specs.inner.Chains.{has, IsGiven, AreBelow}
use Rattle.facts.specs.inner.Chains.IsGiven.{begins, follows}
use Rattle.facts.specs.inner.Lists.{rules_at, index_of}
use Rattle.facts.specs.inner.Worklists.{IsBelow, unmarked, is_ready, Marks, Grows, IsSound, Waits, Follows, Worked}
use Rattle.facts.proofs.ListLemmas.{in_none, index_has, index_within}

-- what is given from what is given is given
pub given_again : (rules : List Rule) (start set : List Bool) → IsSound rules start set → (i : ℕ)
    → IsGiven rules set i → IsGiven rules start i
given_again rules start set sound i (begins j h) = sound j h
given_again rules start set sound i (follows r c f s) =
    follows r c (given_again rules start set sound r.first f) (given_again rules start set sound r.second s)

-- more rules give more
pub given_by_more : (few rules : List Rule) (start : List Bool) → ((r : Rule) → Contains few r → Contains rules r)
    → (i : ℕ) → IsGiven few start i → IsGiven rules start i
given_by_more few rules start more i (begins j h) = begins j h
given_by_more few rules start more i (follows r c f s) =
    follows r (more r c) (given_by_more few rules start more r.first f) (given_by_more few rules start more r.second s)

-- a closed set that holds the start holds all that is given
given_within : (rules : List Rule) (start set : List Bool) → Grows start set
    → ((r : Rule) → Contains rules r → has set r.first ≡ true → has set r.second ≡ true → has set r.gives ≡ true)
    → (i : ℕ) → IsGiven rules start i → has set i ≡ true
given_within rules start set grows closed i (begins j h) = grows j h
given_within rules start set grows closed i (follows r c f s) =
    closed r c (given_within rules start set grows closed r.first f)
    (given_within rules start set grows closed r.second s)

pub has-below : (set : List Bool) (i : ℕ) → has set i ≡ true → i < length set
has-below [] i h = absurd (true≢false (sym h))
has-below (b ∷ bs) zero h = omega arith
has-below (b ∷ bs) (suc i) h = let ih = has-below bs i h in omega arith

-- ---- one more is marked

stays : (s : List Bool) (to i : ℕ) → has s i ≡ true → has (set s to true) i ≡ true
stays [] to i h = h
stays (b ∷ bs) zero zero h = refl
stays (b ∷ bs) zero (suc i) h = h
stays (b ∷ bs) (suc to) zero h = h
stays (b ∷ bs) (suc to) (suc i) h = stays bs to i h

is_there : (s : List Bool) (to : ℕ) → to < length s → has (set s to true) to ≡ true
is_there [] to lt = absurd (omega arith)
is_there (b ∷ bs) zero lt = refl
is_there (b ∷ bs) (suc to) lt = is_there bs to (omega arith)

pub new_or_old : (s : List Bool) (to i : ℕ) → has (set s to true) i ≡ true → (to ≡ i) ⊎ (has s i ≡ true)
new_or_old [] to i h = inr h
new_or_old (b ∷ bs) zero zero h = inl refl
new_or_old (b ∷ bs) zero (suc i) h = inr h
new_or_old (b ∷ bs) (suc to) zero h = inr h
new_or_old (b ∷ bs) (suc to) (suc i) h = elim (new_or_old bs to i h) [ inl e ↦ inl (ap suc e) | inr m ↦ inr m ]

pub one_fewer : (s : List Bool) (to : ℕ) → to < length s → has s to ≡ false → unmarked (set s to true) + 1 ≡ unmarked s
one_fewer [] to lt h = absurd (omega arith)
one_fewer (true ∷ bs) zero lt h = absurd (true≢false h)
one_fewer (false ∷ bs) zero lt h = omega arith
one_fewer (true ∷ bs) (suc to) lt h = one_fewer bs to (omega arith) h
one_fewer (false ∷ bs) (suc to) lt h = let ih = one_fewer bs to (omega arith) h in omega arith

-- ---- following rules

not_ready : (a b g : Bool) → (a && b && not g) ≡ false → a ≡ true → b ≡ true → g ≡ true
not_ready a b true e f s = refl
not_ready true true false e f s = absurd (true≢false e)
not_ready true false false e f s = s
not_ready false b false e f s = f

ready_parts : (a b g : Bool) → (a && b && not g) ≡ true → (a ≡ true) × (b ≡ true) × (g ≡ false)
ready_parts true true false e = (refl, refl, refl)
ready_parts true true true e = absurd (true≢false (sym e))
ready_parts true false g e = absurd (true≢false (sym e))
ready_parts false b g e = absurd (true≢false (sym e))

pub none_followed : (old : List Bool) (waiting : List ℕ) → Follows [] old waiting old waiting
none_followed old waiting = record {
  grows = λ i h. h;
  keeps = λ i c. c;
  new_wait = λ i h. inl h;
  marked = λ i c. inl c;
  sound = λ i h. begins i h;
  closed = λ r c f s. absurd (in_none r c);
  count = refl;
}

module _ (done : List Rule) (old : List Bool) (waiting : List ℕ) (mid : List Bool) (some : List ℕ) (r : Rule)
    (p : Follows done old waiting mid some) where
  more_rules : (q : Rule) → Contains done q → Contains (done ++ r ∷ []) q
  more_rules q c = Contains-append_left done (r ∷ []) q c

  skipped : is_ready mid r ≡ false → Follows (done ++ r ∷ []) old waiting mid some
  skipped e = record {
    grows = p.grows;
    keeps = p.keeps;
    new_wait = p.new_wait;
    marked = p.marked;
    sound = λ i h. given_by_more done (done ++ r ∷ []) old more_rules i (p.sound i h);
    closed = λ q c f s. elim (Contains-push_cases done r q c) [
      | inl c ↦ p.closed q c f s
      | inr is ↦ subst (λ (q : Rule). has mid q.gives ≡ true) is
          (not_ready (has mid r.first) (has mid r.second) (has mid r.gives) e
          (p.grows r.first (subst (λ (q : Rule). has old q.first ≡ true) (sym is) f))
          (p.grows r.second (subst (λ (q : Rule). has old q.second ≡ true) (sym is) s)))
    ];
    count = p.count;
  }

  given_new : is_ready mid r ≡ true → IsGiven (done ++ r ∷ []) old r.gives
  given_new e =
      let parts = ready_parts (has mid r.first) (has mid r.second) (has mid r.gives) e in
      follows r (Contains-push done r)
      (given_by_more done (done ++ r ∷ []) old more_rules r.first (p.sound r.first parts.0))
      (given_by_more done (done ++ r ∷ []) old more_rules r.second (p.sound r.second parts.1))

  marked_new : r.gives < length mid → is_ready mid r ≡ true
      → Follows (done ++ r ∷ []) old waiting (set mid r.gives true) (some ++ r.gives ∷ [])
  marked_new lt e = record {
    grows = λ i h. stays mid r.gives i (p.grows i h);
    keeps = λ i c. Contains-append_left some (r.gives ∷ []) i (p.keeps i c);
    new_wait = λ i h. elim (new_or_old mid r.gives i h) [
      | inl is ↦ inr (subst (λ j. Contains (some ++ r.gives ∷ []) j) is (Contains-push some r.gives))
      | inr m ↦ elim (p.new_wait i m) [ inl o ↦ inl o | inr c ↦ inr (Contains-append_left some (r.gives ∷ []) i c) ]
    ];
    marked = λ i c. elim (Contains-push_cases some r.gives i c) [
      | inl c ↦ elim (p.marked i c) [ inl c ↦ inl c | inr m ↦ inr (stays mid r.gives i m) ]
      | inr is ↦ inr (subst (λ j. has (set mid r.gives true) j ≡ true) is (is_there mid r.gives lt))
    ];
    sound = λ i h. elim (new_or_old mid r.gives i h) [
      | inl is ↦ subst (λ j. IsGiven (done ++ r ∷ []) old j) is (given_new e)
      | inr m ↦ given_by_more done (done ++ r ∷ []) old more_rules i (p.sound i m)
    ];
    closed = λ q c f s. elim (Contains-push_cases done r q c) [
      | inl c ↦ stays mid r.gives q.gives (p.closed q c f s)
      | inr is ↦ subst (λ (q : Rule). has (set mid r.gives true) q.gives ≡ true) is (is_there mid r.gives lt)
    ];
    count =
        let parts = ready_parts (has mid r.first) (has mid r.second) (has mid r.gives) e in
        let fewer = one_fewer mid r.gives lt parts.2 in
        let was = p.count in
        rw (length-append some (r.gives ∷ [])) (omega (arith, fewer, was));
  }

-- one more rule was followed
pub one_followed : (done : List Rule) (old : List Bool) (waiting : List ℕ) (mid : List Bool) (some : List ℕ) (r : Rule)
    (new : List Bool) (more : List ℕ)
    → Follows done old waiting mid some → IsBelow (length mid) r → Marks r mid some new more
    → Follows (done ++ r ∷ []) old waiting new more
one_followed done old waiting mid some r new more p below m = by (is_ready mid r) refl m
  where
    by : (b : Bool) → is_ready mid r ≡ b → (new ≡ cond b (set mid r.gives true) mid)
        × (more ≡ cond b (some ++ r.gives ∷ []) some) → Follows (done ++ r ∷ []) old waiting new more
    by true e (n, w) = rw (n, w) (marked_new done old waiting mid some r p below.2 e)
    by false e (n, w) = rw (n, w) (skipped done old waiting mid some r p e)

-- what some of the rules mark is given by all of them
pub sound_by_more : (few rules : List Rule) (old new : List Bool) → ((r : Rule) → Contains few r → Contains rules r)
    → IsSound few old new → IsSound rules old new
sound_by_more few rules old new more sound i h = given_by_more few rules old more i (sound i h)

-- what is marked from what is given is given
pub sound_again : (rules : List Rule) (start set new : List Bool) → IsSound rules start set → IsSound rules set new
    → IsSound rules start new
sound_again rules start set new first second i h = given_again rules start set first i (second i h)

-- ---- the whole

pub begun : (rules : List Rule) (start : List Bool) (waiting : List ℕ) → Waits start waiting
    → Worked rules start start waiting
begun rules start waiting w = record {
  grows = λ i h. h;
  sound = λ i h. begins i h;
  marked = w.marked;
  closed = λ r c f s. inr (inl (w.all r.first f));
}

module _ (rules : List Rule) (start old : List Bool) (waiting : List ℕ) (fact : ℕ) (new : List Bool) (more : List ℕ)
    (w : Worked rules start old (waiting ++ fact ∷ []))
    (p : Follows (rules_at (index_of (length start) rules) fact) old waiting new more)
    (below : AreBelow (length start) rules) where
  within : (r : Rule) → Contains (rules_at (index_of (length start) rules) fact) r → Contains rules r
  within r c = index_within (length start) rules fact r c

  -- a rule whose fact has just come has been followed
  came : (r : Rule) → Contains rules r → (fact ≡ r.first) ⊎ (fact ≡ r.second) → has old r.first ≡ true
      → has old r.second ≡ true → has new r.gives ≡ true
  came r c is f s = elim is [
    | inl e ↦ p.closed r (subst (λ j. Contains (rules_at (index_of (length start) rules) j) r) (sym e)
        (index_has (length start) rules r below c).0) f s
    | inr e ↦ p.closed r (subst (λ j. Contains (rules_at (index_of (length start) rules) j) r) (sym e)
        (index_has (length start) rules r below c).1) f s
  ]

  abbrev Ends : Rule → Type 0
  Ends r = (has new r.gives ≡ true) ⊎ (Contains more r.first ⊎ Contains more r.second)

  -- a rule whose two facts were marked before
  settled : (r : Rule) → Contains rules r → has old r.first ≡ true → has old r.second ≡ true → Ends r
  settled r c f s = elim (w.closed r c f s) [
    | inl g ↦ inl (p.grows r.gives g)
    | inr o ↦ elim o [
      | inl x ↦ elim (Contains-push_cases waiting fact r.first x)
          [ inl x ↦ inr (inl (p.keeps r.first x)) | inr e ↦ inl (came r c (inl e) f s) ]
      | inr x ↦ elim (Contains-push_cases waiting fact r.second x)
          [ inl x ↦ inr (inr (p.keeps r.second x)) | inr e ↦ inl (came r c (inr e) f s) ]
    ]
  ]

  -- the fact that came has been worked on
  pub worked_on : Worked rules start new more
  worked_on = record {
    grows = λ i h. p.grows i (w.grows i h);
    sound = λ i h. given_again rules start old w.sound i
        (given_by_more (rules_at (index_of (length start) rules) fact) rules old within i (p.sound i h));
    marked = λ i c. elim (p.marked i c) [
      | inl c ↦ p.grows i (w.marked i (Contains-append_left waiting (fact ∷ []) i c))
      | inr m ↦ m
    ];
    closed = λ r c f s. elim (p.new_wait r.first f) [
      | inl of ↦ elim (p.new_wait r.second s) [ inl os ↦ settled r c of os | inr x ↦ inr (inr x) ]
      | inr x ↦ inr (inl x)
    ];
  }

-- what waits is a fact
pub waits_below : (rules : List Rule) (start set : List Bool) (waiting : List ℕ) (fact : ℕ)
    → Worked rules start set (waiting ++ fact ∷ []) → fact < length set
waits_below rules start set waiting fact w = has-below set fact (w.marked fact (Contains-push waiting fact))

-- the rules of a fact are below what all are below
pub followers_below : (rules : List Rule) (n fact : ℕ) → AreBelow n rules
    → AreBelow n (rules_at (index_of n rules) fact)
followers_below rules n fact below k d lt =
    let few : List Rule = rules_at (index_of n rules) fact in
    All-contains (IsBelow n) rules (get_or few k d) below
    (index_within n rules fact (get_or few k d) (Contains-get_or few k d lt))

-- nobody waits: what is marked is what is given
pub all_given : (rules : List Rule) (start set : List Bool) → Worked rules start set [] → (i : ℕ)
    → (has set i ≡ true) ↔ IsGiven rules start i
all_given rules start set w i = (
  w.sound i,
  given_within rules start set w.grows (λ r c f s. elim (w.closed r c f s)
      [ inl g ↦ g | inr o ↦ elim o [ inl x ↦ absurd (in_none r.first x) | inr x ↦ absurd (in_none r.second x) ] ]) i,
)
