-- The sentences that are made of a derivation tell it.
use Rattle.std.proofs.Common.{◌≡◌, ◌⊎◌, inl, inr, ℕ, zero, suc, ◌+◌, ◌<◌, ◌≤◌, Bool, true, false, cond, leb}
use Rattle.std.proofs.Common.{List, [], ◌∷◌, ◌++◌, length, get_or, Option, Some, None, slice_get, Contains, refl}
use Rattle.std.proofs.Common.{sym, ap, subst, ◌∙◌, arith}
use Rattle.std.specs.List.{All, AllPairs}
use Rattle.std.proofs.lemmas.Bool.{eqb-true}
use Rattle.std.proofs.lemmas.Bool.Decides.{leb_tells}
use Rattle.std.proofs.lemmas.List.{get_or_append_left}
use Rattle.std.proofs.lemmas.List.Elements.{All-weaker, All-push, Contains-append_left, Contains-push}
use Rattle.std.proofs.lemmas.Option.{none-some, same_Some}
use Rattle.std.proofs.lemmas.List.Quantifiers.{all_pairs_push}
use Rattle.model.specs.Derivation.{Step}
use Rattle.model.proofs.Lists.{all_none, any_of, in_cons, in_first, in_none, in_rest, pairs_none}
use Rattle.model.proofs.Places.{get_more, get_push}
use Rattle.derivations.specs.inner.References.{references_at}
use Rattle.telling.specs.inner.Outlines.{FollowsBy, Follows, IsOutline, IsShown, Outline, LeadsBack, Sentences, by_fact}
use Rattle.telling.specs.inner.Outlines.{fact_of, has_premise, is_merged, is_needed, is_plain, is_told_before}
use Rattle.telling.specs.inner.Outlines.{looked_at}
use Rattle.telling.specs.inner.Outlines.{merged, nothing_yet, outline_from, premises_at, premises_by, premises_of}
use Rattle.telling.specs.inner.Outlines.{same_premise}
use Rattle.telling.specs.inner.Outlines.{sentences_of, step_at, uses_at, uses_of, with_premise, with_premises}
use Rattle.telling.specs.inner.Outlines.{with_sentence}
use Rattle.telling.specs.inner.Outlines.IsShown.{shown_by_sentence, shown_by_fact, shown_by_premises}
use Rattle.telling.specs.declared.outline.Note.{Note}
use Rattle.telling.specs.declared.outline.Premise.{Premise}
use Rattle.telling.specs.declared.outline.Premise.TheVariants.{Fact, Told}
use Rattle.telling.specs.declared.uses.Uses.{Uses}
use Rattle.telling.specs.declared.uses.Uses.TheVariants.{Never, Once, Often, End}
use Rattle.telling.proofs.UsesLaws.{used, uses-long, last-is}

-- ---- lists

got-either : {X : Type 0} (xs : List X) (x y : X) (i : ℕ) → slice_get (xs ++ x ∷ []) i ≡ Some y
    → (slice_get xs i ≡ Some y) ⊎ ((i ≡ length xs) × (x ≡ y))
got-either [] x y zero e = inr (refl, same_Some x y e)
got-either [] x y (suc i) e = absurd (none-some y e)
got-either (z ∷ xs) x y zero e = inl e
got-either (z ∷ xs) x y (suc i) e = by (got-either xs x y i e)
  where
    by : (slice_get xs i ≡ Some y) ⊎ ((i ≡ length xs) × (x ≡ y))
        → (slice_get xs i ≡ Some y) ⊎ ((suc i ≡ suc (length xs)) × (x ≡ y))
    by (inl h) = inl h
    by (inr (e, h)) = inr (ap suc e, h)

at-end : {X : Type 0} (xs : List X) (x d : X) → get_or (xs ++ x ∷ []) (length xs) d ≡ x
at-end [] x d = refl
at-end (y ∷ xs) x d = at-end xs x d

past-end : {X : Type 0} (xs : List X) (x d : X) (m : ℕ) → length xs < m → get_or (xs ++ x ∷ []) m d ≡ d
past-end [] x d zero lt = absurd (omega (arith, lt))
past-end [] x d (suc m) lt = refl
past-end (y ∷ xs) x d zero lt = absurd (omega (arith, lt))
past-end (y ∷ xs) x d (suc m) lt = past-end xs x d m (omega (arith, lt))

three-ways : (a b : ℕ) → (a < b) ⊎ ((a ≡ b) ⊎ (b < a))
three-ways a b = by (leb_tells a b) (leb_tells b a)
  where
    by : ((leb a b ≡ true) × (a ≤ b)) ⊎ ((leb a b ≡ false) × (b < a))
        → ((leb b a ≡ true) × (b ≤ a)) ⊎ ((leb b a ≡ false) × (a < b)) → (a < b) ⊎ ((a ≡ b) ⊎ (b < a))
    by (inr (e, h)) k = inr (inr h)
    by (inl (e, h)) (inr (f, k)) = inl k
    by (inl (e, h)) (inl (f, k)) = inr (inl (omega (arith, h, k)))

-- ---- premises

same-is : (a b : Premise) → same_premise a b ≡ true → a ≡ b
same-is (Fact a) (Fact b) e = ap Fact (eqb-true a b e)
same-is (Told a) (Told b) e = ap Told (eqb-true a b e)
same-is (Fact a) (Told b) e = absurd (let no : false ≡ true = e in cc)
same-is (Told a) (Fact b) e = absurd (let no : false ≡ true = e in cc)

has-is : (rs : List Premise) (r : Premise) → has_premise rs r ≡ true → Contains rs r
has-is rs r e = let one = any_of (same_premise r) rs e in subst (λ x. Contains rs x) (sym (same-is r one.0 one.2)) one.1

one-keeps : (rs : List Premise) (x r : Premise) → Contains rs r → Contains (with_premise rs x) r
one-keeps rs x r c = by (has_premise rs x)
  where
    by : (b : Bool) → Contains (cond b rs (rs ++ x ∷ [])) r
    by true = c
    by false = Contains-append_left rs (x ∷ []) r c

one-has : (rs : List Premise) (x : Premise) → Contains (with_premise rs x) x
one-has rs x = by (has_premise rs x) refl
  where
    by : (b : Bool) → has_premise rs x ≡ b → Contains (cond b rs (rs ++ x ∷ [])) x
    by true e = has-is rs x e
    by false e = Contains-push rs x

first-in : (rs more : List Premise) (r : Premise) → Contains rs r → Contains (with_premises rs more) r
unfolding with_premises
first-in rs [] r c = c
first-in rs (x ∷ more) r c = first-in (with_premise rs x) more r (one-keeps rs x r c)

second-in : (rs more : List Premise) (r : Premise) → Contains more r → Contains (with_premises rs more) r
unfolding with_premises
second-in rs [] r c = absurd (in_none r c)
second-in rs (x ∷ more) r c = by (in_cons x r more c) (λ c. second-in (with_premise rs x) more r c)
  where
    by : (x ≡ r) ⊎ Contains more r → (Contains more r → Contains (with_premises (with_premise rs x) more) r)
        → Contains (with_premises (with_premise rs x) more) r
    by (inl same) rest =
        first-in (with_premise rs x) more r (subst (λ z. Contains (with_premise rs x) z) same (one-has rs x))
    by (inr c) rest = rest c

one-from : (rs : List Premise) (x r : Premise) → Contains (with_premise rs x) r → Contains rs r ⊎ (x ≡ r)
one-from rs x r c = by (has_premise rs x) c
  where
    snoc : (rs : List Premise) → Contains (rs ++ x ∷ []) r → Contains rs r ⊎ (x ≡ r)
    snoc [] c = else (in_cons x r [] c)
      where
        else : (x ≡ r) ⊎ Contains [] r → Contains [] r ⊎ (x ≡ r)
        else (inl same) = inr same
        else (inr none) = inl none
    snoc (y ∷ rs) c = then (in_cons y r (rs ++ x ∷ []) c) (λ c. snoc rs c)
      where
        then : (y ≡ r) ⊎ Contains (rs ++ x ∷ []) r → (Contains (rs ++ x ∷ []) r → Contains rs r ⊎ (x ≡ r))
            → Contains (y ∷ rs) r ⊎ (x ≡ r)
        then (inl same) rest = inl (subst (λ z. Contains (y ∷ rs) z) same (in_first y rs))
        then (inr c) rest = up (rest c)
          where
            up : Contains rs r ⊎ (x ≡ r) → Contains (y ∷ rs) r ⊎ (x ≡ r)
            up (inl c) = inl (in_rest y r rs c)
            up (inr same) = inr same

    by : (b : Bool) → Contains (cond b rs (rs ++ x ∷ [])) r → Contains rs r ⊎ (x ≡ r)
    by true c = inl c
    by false c = snoc rs c

both-from : (rs more : List Premise) (r : Premise) → Contains (with_premises rs more) r
    → Contains rs r ⊎ Contains more r
unfolding with_premises
both-from rs [] r c = inl c
both-from rs (x ∷ more) r c = by (both-from (with_premise rs x) more r c)
  where
    then : Contains rs r ⊎ (x ≡ r) → Contains rs r ⊎ Contains (x ∷ more) r
    then (inl c) = inl c
    then (inr same) = inr (subst (λ z. Contains (x ∷ more) z) same (in_first x more))

    by : Contains (with_premise rs x) r ⊎ Contains more r → Contains rs r ⊎ Contains (x ∷ more) r
    by (inl c) = then (one-from rs x r c)
    by (inr c) = inr (in_rest x r more c)

-- ---- steps that follow from premises

module _ (notes : List Note) (steps : List Step) where
  wider : (told : Sentences) (rs more : List Premise) (n : ℕ) → ((r : Premise) → Contains rs r → Contains more r)
      → IsShown notes steps told rs n → IsShown notes steps told more n
  wider told rs more n sub (shown_by_sentence zs own i p at c) = shown_by_sentence more own i p at (sub (Told p) c)
  wider told rs more n sub (shown_by_fact zs i at k) = shown_by_fact more i at (λ f e. sub (Fact f) (k f e))
  wider told rs more n sub (shown_by_premises zs own i a b at m x y k) =
      shown_by_premises more own i a b at m x y (λ r c. sub r (k r c))

  grown : (told new : Sentences) (rs : List Premise) (n : ℕ)
      → ((p : ℕ) (s : ℕ × List Premise) → slice_get told p ≡ Some s → slice_get new p ≡ Some s)
      → IsShown notes steps told rs n → IsShown notes steps new rs n
  grown told new rs n up (shown_by_sentence zs own i p at c) = shown_by_sentence zs own i p (up p (i, own) at) c
  grown told new rs n up (shown_by_fact zs i at k) = shown_by_fact zs i at k
  grown told new rs n up (shown_by_premises zs own i a b at m x y k) =
      shown_by_premises zs own i a b at m (grown told new own a up x) (grown told new own b up y) k

  follows-grown : (told new : Sentences) (rs : List Premise) (n : ℕ) (o : Option (ℕ × ℕ))
      → ((p : ℕ) (s : ℕ × List Premise) → slice_get told p ≡ Some s → slice_get new p ≡ Some s)
      → FollowsBy notes steps told rs n o → FollowsBy notes steps new rs n o
  follows-grown told new rs n None up h = h
  follows-grown told new rs n (Some p) up h = (grown told new rs p.0 up h.0, grown told new rs p.1 up h.1)

  abbrev uses : List Uses
  uses = uses_of steps

  -- what is so of the sentences once the steps below a place are taken into account
  record IsGood (n : ℕ) (o : Outline) : Type 0 where
    many : length o.said ≡ n
    order : AllPairs (λ a b. a.0 < b.0) o.told
    below : All (λ s. s.0 < n) o.told
    cites : (m p : ℕ) → Contains (premises_at o.said m) (Told p) → p < length o.told
    back : (i p : ℕ) (s : ℕ × List Premise) → slice_get o.told i ≡ Some s → Contains s.1 (Told p) → p < i
    shown : (m : ℕ) → m < n → is_needed (uses_at uses m) ≡ true → IsShown notes steps o.told (premises_at o.said m) m
    follows : (i : ℕ) (s : ℕ × List Premise) → slice_get o.told i ≡ Some s → Follows notes steps o.told s.1 s.0
    ends : (m : ℕ) → m < n → uses_at uses m ≡ End → is_told_before (premises_at o.said m) ≡ true

  -- the premises of the next step
  next-follows : (n : ℕ) (o : Outline) → LeadsBack steps → n < length steps → IsGood n o
      → is_needed (uses_at uses n) ≡ true → Follows notes steps o.told (premises_of notes steps o.said n) n
  next-follows n o back lt good need = by (references_at steps n) refl
    where
      by : (r : Option (ℕ × ℕ)) → references_at steps n ≡ r
          → FollowsBy notes steps o.told (premises_by notes o.said n r) n r
      by None at = λ f e. subst (λ o. Contains (by_fact o) (Fact f)) (sym e) (in_first (Fact f) [])
      by (Some p) at =
          let low = back n p.0 p.1 at in
          let need2 = used steps back n p.0 p.1 lt need at in (
            wider o.told (premises_at o.said p.0) (with_premises (premises_at o.said p.0) (premises_at o.said p.1)) p.0
                (first-in (premises_at o.said p.0) (premises_at o.said p.1)) (good.shown p.0 low.0 need2.0),
            wider o.told (premises_at o.said p.1) (with_premises (premises_at o.said p.0) (premises_at o.said p.1)) p.1
                (second-in (premises_at o.said p.0) (premises_at o.said p.1)) (good.shown p.1 low.1 need2.1),
          )

  next-cites : (n : ℕ) (o : Outline) → IsGood n o → (p : ℕ)
      → Contains (premises_of notes steps o.said n) (Told p) → p < length o.told
  next-cites n o good p c = by (references_at steps n) c
    where
      not-told : (o : Option ℕ) → Contains (by_fact o) (Told p) → ⊥
      not-told None c = in_none (Told p) c
      not-told (Some f) c = either (in_cons (Fact f) (Told p) [] c)
        where
          either : (Fact f ≡ Told p) ⊎ Contains [] (Told p) → ⊥
          either (inl e) = cc
          either (inr c) = in_none (Told p) c

      by : (r : Option (ℕ × ℕ)) → Contains (premises_by notes o.said n r) (Told p) → p < length o.told
      by None c = absurd (not-told (fact_of (slice_get notes n)) c)
      by (Some q) c = either (both-from (premises_at o.said q.0) (premises_at o.said q.1) (Told p) c)
        where
          either : Contains (premises_at o.said q.0) (Told p)
              ⊎ Contains (premises_at o.said q.1) (Told p) → p < length o.told
          either (inl c) = good.cites q.0 p c
          either (inr c) = good.cites q.1 p c

  -- what is told where a step is combined, with one more
  said-at : (said : List (List Premise)) (rs : List Premise) (m : ℕ) (r : Premise)
      → Contains (premises_at (said ++ rs ∷ []) m) r → Contains (premises_at said m) r ⊎ Contains rs r
  said-at said rs m r c = by (three-ways m (length said))
    where
      by : (m < length said) ⊎ ((m ≡ length said) ⊎ (length said < m)) → Contains (premises_at said m) r ⊎ Contains rs r
      by (inl lt) = inl (subst (λ x. Contains x r) (get_or_append_left said (rs ∷ []) [] m lt) c)
      by (inr (inl same)) = inr (subst (λ x. Contains x r) (at-end said rs [])
          (subst (λ k. Contains (premises_at (said ++ rs ∷ []) k) r) same c))
      by (inr (inr lt)) = absurd (in_none r (subst (λ x. Contains x r) (past-end said rs [] m lt) c))

  long : (said : List (List Premise)) (rs : List Premise) → length (said ++ rs ∷ []) ≡ length said + 1
  long [] rs = refl
  long (s ∷ said) rs = let rest = long said rs in omega (arith, rest)

  merged-good : (n : ℕ) (o : Outline) (rs : List Premise) → IsGood n o
      → ((p : ℕ) → Contains rs (Told p) → p < length o.told)
      → (is_needed (uses_at uses n) ≡ true → IsShown notes steps o.told rs n)
      → (uses_at uses n ≡ End → is_told_before rs ≡ true) → IsGood (n + 1) (merged rs o)
  merged-good n o rs good cite show end = record {
    many = long o.said rs ∙ ap (λ k. k + 1) good.many;
    order = good.order;
    below = All-weaker (λ s. s.0 < n) (λ s. s.0 < n + 1) (λ s lt. omega (arith, lt)) o.told good.below;
    cites = λ m p c. either m p (said-at o.said rs m (Told p) c);
    back = good.back;
    shown = λ m lt need. at-place m lt need (three-ways m n);
    follows = good.follows;
    ends = λ m lt at. end-at m lt at (three-ways m n);
  }
    where
      end-at : (m : ℕ) → m < n + 1 → uses_at uses m ≡ End → (m < n) ⊎ ((m ≡ n) ⊎ (n < m))
          → is_told_before (premises_at (o.said ++ rs ∷ []) m) ≡ true
      end-at m lt at (inl below) = ap is_told_before (get_or_append_left o.said (rs ∷ []) [] m
          (let many = good.many in omega (arith, below, many))) ∙ good.ends m below at
      end-at m lt at (inr (inl same)) =
          ap (λ k. is_told_before (premises_at (o.said ++ rs ∷ []) k)) (same ∙ sym good.many)
          ∙ ap is_told_before (at-end o.said rs []) ∙ end (subst (λ k. uses_at uses k ≡ End) same at)
      end-at m lt at (inr (inr over)) = absurd (omega (arith, lt, over))

      either : (m p : ℕ) → Contains (premises_at o.said m) (Told p) ⊎ Contains rs (Told p) → p < length o.told
      either m p (inl c) = good.cites m p c
      either m p (inr c) = cite p c

      at-place : (m : ℕ) → m < n + 1 → is_needed (uses_at uses m) ≡ true → (m < n) ⊎ ((m ≡ n) ⊎ (n < m))
          → IsShown notes steps o.told (premises_at (o.said ++ rs ∷ []) m) m
      at-place m lt need (inl below) =
          let same : premises_at (o.said ++ rs ∷ []) m ≡ premises_at o.said m =
          get_or_append_left o.said (rs ∷ []) [] m (let many = good.many in omega (arith, below, many)) in
          subst (λ x. IsShown notes steps o.told x m) (sym same) (good.shown m below need)
      at-place m lt need (inr (inl same)) =
          let here : premises_at (o.said ++ rs ∷ []) m ≡ rs =
          ap (λ k. premises_at (o.said ++ rs ∷ []) k) (same ∙ sym good.many) ∙ at-end o.said rs [] in
          subst (λ x. IsShown notes steps o.told x m) (sym here) (subst (λ k. IsShown notes steps o.told rs k)
          (sym same) (show (subst (λ k. is_needed (uses_at uses k) ≡ true) same need)))
      at-place m lt need (inr (inr over)) = absurd (omega (arith, lt, over))

  told-good : (n : ℕ) (o : Outline) (rs : List Premise) → IsGood n o
      → ((p : ℕ) → Contains rs (Told p) → p < length o.told)
      → Follows notes steps o.told rs n → IsGood (n + 1) (with_sentence n rs o)
  told-good n o rs good cite h = record {
    many = long o.said (Told (length o.told) ∷ []) ∙ ap (λ k. k + 1) good.many;
    order = all_pairs_push (λ a b. a.0 < b.0) o.told (n, rs) good.order good.below;
    below = All-push (λ s. s.0 < n + 1) o.told (n, rs)
        (All-weaker (λ s. s.0 < n) (λ s. s.0 < n + 1) (λ s lt. omega (arith, lt)) o.told good.below) (omega arith);
    cites = λ m p c. let more =
        longer in omega (arith, more, either m p (said-at o.said (Told (length o.told) ∷ []) m (Told p) c));
    back = λ i p s at c. back-at i p s c (got-either o.told (n, rs) s i at);
    shown = λ m lt need. at-place m lt need (three-ways m n);
    follows = λ i s at. follows-at i s (got-either o.told (n, rs) s i at);
    ends = λ m lt at. end-at m lt at (three-ways m n);
  }
    where
      end-at : (m : ℕ) → m < n + 1 → uses_at uses m ≡ End → (m < n) ⊎ ((m ≡ n) ⊎ (n < m))
          → is_told_before (premises_at (o.said ++ (Told (length o.told) ∷ []) ∷ []) m) ≡ true
      end-at m lt at (inl below) = ap is_told_before (get_or_append_left o.said ((Told (length o.told) ∷ []) ∷ []) [] m
          (let many = good.many in omega (arith, below, many))) ∙ good.ends m below at
      end-at m lt at (inr (inl same)) =
          ap (λ k. is_told_before (premises_at (o.said ++ (Told (length o.told) ∷ []) ∷ []) k)) (same ∙ sym good.many)
          ∙ ap is_told_before (at-end o.said (Told (length o.told) ∷ []) [])
      end-at m lt at (inr (inr over)) = absurd (omega (arith, lt, over))

      new : Sentences
      new = o.told ++ (n, rs) ∷ []

      longer : length new ≡ length o.told + 1
      longer = by o.told
        where
          by : (ss : Sentences) → length (ss ++ (n, rs) ∷ []) ≡ length ss + 1
          by [] = refl
          by (s ∷ ss) = let rest = by ss in omega (arith, rest)

      up : (p : ℕ) (s : ℕ × List Premise) → slice_get o.told p ≡ Some s → slice_get new p ≡ Some s
      up p s e = get_more o.told ((n, rs) ∷ []) p s e

      either : (m p : ℕ) → Contains (premises_at o.said m) (Told p)
          ⊎ Contains (Told (length o.told) ∷ []) (Told p) → p < length o.told + 1
      either m p (inl c) = let lt = good.cites m p c in omega (arith, lt)
      either m p (inr c) = own (in_cons (Told (length o.told)) (Told p) [] c)
        where
          place : Premise → ℕ
          place (Fact f) = zero
          place (Told p) = p

          own : (Told (length o.told) ≡ Told p) ⊎ Contains [] (Told p) → p < length o.told + 1
          own (inl e) = let same : length o.told ≡ p = ap place e in omega (arith, same)
          own (inr c) = absurd (in_none (Told p) c)

      back-at : (i p : ℕ) (s : ℕ × List Premise) → Contains s.1 (Told p)
          → (slice_get o.told i ≡ Some s) ⊎ ((i ≡ length o.told) × ((n, rs) ≡ s)) → p < i
      back-at i p s c (inl at) = good.back i p s at c
      back-at i p s c (inr (e, same)) = let lt =
          cite p (subst (λ (t : ℕ × List Premise). Contains t.1 (Told p)) (sym same) c) in omega (arith, lt, e)

      at-place : (m : ℕ) → m < n + 1 → is_needed (uses_at uses m) ≡ true → (m < n) ⊎ ((m ≡ n) ⊎ (n < m))
          → IsShown notes steps new (premises_at (o.said ++ (Told (length o.told) ∷ []) ∷ []) m) m
      at-place m lt need (inl below) =
          let same : premises_at (o.said ++ (Told (length o.told) ∷ []) ∷ []) m ≡ premises_at o.said m =
          get_or_append_left o.said ((Told (length o.told) ∷ []) ∷ []) [] m
          (let many = good.many in omega (arith, below, many)) in
          subst (λ x. IsShown notes steps new x m) (sym same)
          (grown o.told new (premises_at o.said m) m up (good.shown m below need))
      at-place m lt need (inr (inl same)) =
          let here : premises_at (o.said ++ (Told (length o.told) ∷ []) ∷ []) m ≡ Told (length o.told) ∷ [] =
          ap (λ k. premises_at (o.said ++ (Told (length o.told) ∷ []) ∷ []) k) (same ∙ sym good.many)
          ∙ at-end o.said (Told (length o.told) ∷ []) [] in
          subst (λ x. IsShown notes steps new x m) (sym here) (subst (λ k. IsShown notes steps new
          (Told (length o.told) ∷ []) k) (sym same) (shown_by_sentence (Told (length o.told) ∷ []) rs n
          (length o.told) (get_push o.told (n, rs)) (in_first (Told (length o.told)) [])))
      at-place m lt need (inr (inr over)) = absurd (omega (arith, lt, over))

      follows-at : (i : ℕ) (s : ℕ × List Premise)
          → (slice_get o.told i ≡ Some s) ⊎ ((i ≡ length o.told) × ((n, rs) ≡ s))
          → Follows notes steps new s.1 s.0
      follows-at i s (inl at) = follows-grown o.told new s.1 s.0 (references_at steps s.0) up (good.follows i s at)
      follows-at i s (inr (e, same)) = subst (λ (t : ℕ × List Premise). Follows notes steps new t.1 t.0) same
          (follows-grown o.told new rs n (references_at steps n) up h)

  -- a step without a sentence
  shown-merged : (n : ℕ) (told : Sentences) (rs : List Premise) → is_merged (is_plain (slice_get notes n))
      (uses_at uses n) rs ≡ true → Follows notes steps told rs n → IsShown notes steps told rs n
  shown-merged n told rs m h = by (references_at steps n) refl h
    where
      by : (r : Option (ℕ × ℕ)) → references_at steps n ≡ r → FollowsBy notes steps told rs n r
          → IsShown notes steps told rs n
      by None at k = shown_by_fact rs n at k
      by (Some p) at k = shown_by_premises rs rs n p.0 p.1 at m k.0 k.1 (λ r c. c)

  step-good : (u : Uses) (n : ℕ) (o : Outline) → LeadsBack steps → n < length steps → uses_at uses n ≡ u
      → is_needed u ≡ true → IsGood n o → IsGood (n + 1) (step_at notes steps u n o)
  step-good u n o back lt is need good = by (is_merged (is_plain (slice_get notes n)) u rs) refl
    where
      rs : List Premise
      rs = premises_of notes steps o.said n

      h : Follows notes steps o.told rs n
      h = next-follows n o back lt good (ap is_needed is ∙ need)

      by : (b : Bool) → is_merged (is_plain (slice_get notes n)) u rs ≡ b
          → IsGood (n + 1) (cond b (merged rs o) (with_sentence n rs o))
      by true e = merged-good n o rs good (next-cites n o good)
          (λ need. shown-merged n o.told rs (ap (λ u. is_merged (is_plain (slice_get notes n)) u rs) is ∙ e) h)
          (λ at. ap (λ u. is_merged (is_plain (slice_get notes n)) u rs) (sym at ∙ is) ∙ e)
      by false e = told-good n o rs good (next-cites n o good) h

  next-good : (u : Uses) (n : ℕ) (o : Outline) → LeadsBack steps → n < length steps → uses_at uses n ≡ u → IsGood n o
      → IsGood (n + 1) (looked_at notes steps u n o)
  next-good Never n o back lt is good = merged-good n o [] good (λ p c. absurd (in_none (Told p) c))
      (λ need. absurd (let no : false ≡ true = sym (ap is_needed is) ∙ need in cc))
      (λ at. absurd (let no : false ≡ true = ap is_needed (sym is ∙ at) in cc))
  next-good Once n o back lt is good = step-good Once n o back lt is refl good
  next-good Often n o back lt is good = step-good Often n o back lt is refl good
  next-good End n o back lt is good = step-good End n o back lt is refl good

  -- ---- all steps

  gone-on : (k n : ℕ) (us : List Uses) (o : Outline) → LeadsBack steps → n + length us ≡ length steps
      → ((i : ℕ) → i < length us → uses_at uses (n + i) ≡ uses_at us i)
      → IsGood n o → IsGood (length steps) (outline_from notes steps n us o)
  unfolding outline_from
  gone-on k n [] o back all same good = subst (λ m. IsGood m o) (omega (arith, all)) good
  gone-on k n (u ∷ us) o back all same good =
      let here : uses_at uses n ≡ u = ap (λ m. uses_at uses m) (omega arith) ∙ same zero (omega arith) in
      gone-on k (n + 1) us (looked_at notes steps u n o) back (omega (arith, all))
      (λ i lt. ap (λ m. uses_at uses m) (omega arith) ∙ same (suc i) (omega (arith, lt)))
      (next-good u n o back (omega (arith, all)) here good)

  begun : IsGood 0 nothing_yet
  begun = record {
    many = refl;
    order = pairs_none (λ a b. a.0 < b.0);
    below = all_none (λ s. s.0 < 0);
    cites = λ m p c. absurd (in_none (Told p) c);
    back = λ i p s at c. absurd (none-some s at);
    shown = λ m lt need. absurd (omega (arith, lt));
    follows = λ i s at. absurd (none-some s at);
    ends = λ m lt at. absurd (omega (arith, lt));
  }

  one-told : (rs : List Premise) → is_told_before rs ≡ true → (p : ℕ) × (rs ≡ Told p ∷ [])
  one-told [] e = absurd (let no : false ≡ true = e in cc)
  one-told (Fact f ∷ rs) e = absurd (let no : false ≡ true = e in cc)
  one-told (Told p ∷ []) e = (p, refl)
  one-told (Told p ∷ (r ∷ rs)) e = absurd (let no : false ≡ true = e in cc)

  last-shown : LeadsBack steps → (o : Outline) → IsGood (length steps) o → (n : ℕ) → n + 1 ≡ length steps
      → (p : ℕ) × IsShown notes steps o.told (Told p ∷ []) n
  last-shown back o good n is =
      let end = last-is steps back n (omega (arith, is)) in
      let lt : n < length steps = omega (arith, is) in
      let one = one-told (premises_at o.said n) (good.ends n lt end) in
      (one.0, subst (λ rs. IsShown notes steps o.told rs n) one.1 (good.shown n lt (ap is_needed end)))

  pub sentences-tell : LeadsBack steps → IsOutline notes steps (sentences_of notes steps)
  sentences-tell back =
      let good = gone-on 0 0 uses nothing_yet back (let long = uses-long steps back in omega (arith, long))
      (λ i lt. ap (λ m. uses_at uses m) (omega arith)) begun in
      record {
        order = good.order;
        back = good.back;
        follows = good.follows;
        last =
            last-shown back (outline_from notes steps 0 uses nothing_yet) good;
      }
