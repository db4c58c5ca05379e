-- Steps that needed steps combine are needed.
use Rattle.std.proofs.Common.{◌≡◌, ◌⊎◌, inl, inr, ℕ, zero, suc, ◌-◌, ◌<◌, ◌≤◌, ◌==◌, Bool, true, false, cond, leb}
use Rattle.std.proofs.Common.{List, length, set, replicate, Option, Some, None, refl, sym, ap, subst}
use Rattle.std.proofs.Common.{◌∙◌, arith}
use Rattle.std.proofs.lemmas.Bool.{eqb-true, eq-eqb}
use Rattle.std.proofs.lemmas.Bool.Decides.{leb_tells}
use Rattle.std.proofs.lemmas.List.{get_or-set_same, get_or-set_other, length-set}
use Rattle.std.proofs.lemmas.Option.{none-some, same_Some}
use Rattle.model.specs.Derivation.{Step}
use Rattle.derivations.specs.inner.References.{references_at}
use Rattle.telling.specs.inner.Outlines.{is_needed, one_more, uses_at, uses_down, uses_of, with_end, with_one_more}
use Rattle.telling.specs.inner.Outlines.{with_two_more, LeadsBack}
use Rattle.telling.specs.declared.uses.Uses.{Uses}
use Rattle.telling.specs.declared.uses.Uses.TheVariants.{Never, Once, Often, End}

abbrev pub needed_at : List Uses → ℕ → Bool
needed_at us n = is_needed (uses_at us n)

one-is : (u : Uses) → is_needed (one_more u) ≡ true
one-is Never = refl
one-is Once = refl
one-is Often = refl
one-is End = refl

one-there : (us : List Uses) (n : ℕ) → n < length us → needed_at (with_one_more us n) n ≡ true
one-there us n lt = ap is_needed (get_or-set_same us n (one_more (uses_at us n)) Never lt) ∙ one-is (uses_at us n)

one-other : (us : List Uses) (n m : ℕ) → n < m → uses_at (with_one_more us n) m ≡ uses_at us m
one-other us n m lt = get_or-set_other us n m (one_more (uses_at us n)) Never (λ e. omega (arith, lt, e))

one-keeps : (us : List Uses) (n m : ℕ) → m < length us → needed_at us m ≡ true → needed_at (with_one_more us n) m ≡ true
one-keeps us n m lt h = by (n == m) refl
  where
    by : (b : Bool) → (n == m) ≡ b → needed_at (with_one_more us n) m ≡ true
    by true is = let same : n ≡ m =
        eqb-true n m is in subst (λ k. needed_at (with_one_more us k) m ≡ true) (sym same) (one-there us m lt)
    by false is = ap is_needed (get_or-set_other us n m (one_more (uses_at us n)) Never
        (λ e. let yes : (n == m) ≡ true = eq-eqb n m (sym e) in cc)) ∙ h

one-long : (us : List Uses) (n : ℕ) → length (with_one_more us n) ≡ length us
one-long us n = length-set us n (one_more (uses_at us n))

two-long : (us : List Uses) (a b : ℕ) → length (with_one_more (with_one_more us a) b) ≡ length us
two-long us a b = one-long (with_one_more us a) b ∙ one-long us a

-- looking at one step more comes to the same
pub went-on : (steps : List Step) (l left : ℕ) (us new all : List Uses) (o : Option (ℕ × ℕ)) → left ≡ suc l
    → o ≡ references_at steps l
    → new ≡ cond (needed_at us l) (with_two_more o us) us → uses_down steps left us ≡ all → uses_down steps l new ≡ all
unfolding uses_down
went-on steps l left us new all o next at is told = rw (is, at) (subst (λ n. uses_down steps n us ≡ all) next told)

module _ (steps : List Step) (back : LeadsBack steps) where
  -- what comes of the uses by the steps below a place
  pub record IsSwept (k : ℕ) (us new : List Uses) : Type 0 where
    pub many : length new ≡ length us
    pub high : (m : ℕ) → k ≤ suc m → uses_at new m ≡ uses_at us m
    pub keep : (m : ℕ) → m < length steps → needed_at us m ≡ true → needed_at new m ≡ true
    pub used : (n a b : ℕ) → n < k → needed_at new n ≡ true → references_at steps n ≡ Some (a, b)
        → (needed_at new a ≡ true) × (needed_at new b ≡ true)

  last-or-before : (n k : ℕ) → n < suc k → (n ≡ k) ⊎ (n < k)
  last-or-before n k lt = by (leb_tells k n)
    where
      by : ((leb k n ≡ true) × (k ≤ n)) ⊎ ((leb k n ≡ false) × (n < k)) → (n ≡ k) ⊎ (n < k)
      by (inl (e, h)) = inl (omega (arith, lt, h))
      by (inr (e, h)) = inr h

  same-pair : (p q : ℕ × ℕ) → Some p ≡ Some q → (p.0 ≡ q.0) × (p.1 ≡ q.1)
  same-pair p q e = let same : p ≡ q = same_Some p q e in (ap (λ r. r.0) same, ap (λ r. r.1) same)

  pub swept : (k : ℕ) (us : List Uses) → length us ≡ length steps → k ≤ length steps
      → IsSwept k us (uses_down steps k us)
  unfolding uses_down
  swept zero us all few =
      record { many = refl; high = λ m le. refl; keep = λ m lt h. h; used = λ n a b lt h r. absurd (omega (arith, lt)) }
  swept (suc k) us all few =
      by (needed_at us k) refl (references_at steps k) refl (λ us all. swept k us all (omega (arith, few)))
    where
      from-lower : (us' : List Uses) (new : List Uses) → IsSwept k us' new → length us' ≡ length us
          → ((m : ℕ) → k ≤ m → uses_at us' m ≡ uses_at us m)
          → ((m : ℕ) → m < length steps → needed_at us m ≡ true → needed_at us' m ≡ true)
          → ((a b : ℕ) → needed_at new k ≡ true → references_at steps k ≡ Some (a, b)
          → (needed_at new a ≡ true) × (needed_at new b ≡ true))
          → IsSwept (suc k) us new
      from-lower us' new r long same kept here = record {
        many = r.many ∙ long;
        high = λ m le. r.high m (omega (arith, le)) ∙ same m (omega (arith, le));
        keep = λ m lt h. r.keep m lt (kept m lt h);
        used = λ n a b lt h at. either n a b (last-or-before n k lt) h at;
      }
        where
          either : (n a b : ℕ) → (n ≡ k) ⊎ (n < k) → needed_at new n ≡ true → references_at steps n ≡ Some (a, b)
              → (needed_at new a ≡ true) × (needed_at new b ≡ true)
          either n a b (inl e) h at =
              here a b (subst (λ m. needed_at new m ≡ true) e h) (subst (λ m. references_at steps m ≡ Some (a, b)) e at)
          either n a b (inr lt) h at = r.used n a b lt h at

      by : (t : Bool) → needed_at us k ≡ t → (o : Option (ℕ × ℕ)) → references_at steps k ≡ o
          → ((us : List Uses) → length us ≡ length steps → IsSwept k us (uses_down steps k us))
          → IsSwept (suc k) us (uses_down steps k (cond t (with_two_more o us) us))
      by false is o at rest =
          let r = rest us all in
          from-lower us (uses_down steps k us) r refl (λ m le. refl) (λ m lt h. h) (λ a b h at.
          let no : needed_at (uses_down steps k us) k ≡ false = ap is_needed (r.high k (omega arith)) ∙ is in cc)
      by true is None at rest =
          let r = rest us all in
          from-lower us (uses_down steps k us) r refl (λ m le. refl) (λ m lt h. h)
          (λ a b h at'. absurd (none-some (a, b) (sym at ∙ at')))
      by true is (Some p) at rest =
          let low : (p.0 < k) × (p.1 < k) = back k p.0 p.1 at in
          let us' = with_one_more (with_one_more us p.0) p.1 in
          let r = rest us' (two-long us p.0 p.1 ∙ all) in
          let first-kept : needed_at us' p.0 ≡ true =
          one-keeps (with_one_more us p.0) p.1 p.0 (let long = one-long us p.0 in
          omega (arith, low.0, long, all, few)) (one-there us p.0 (omega (arith, low.0, all, few))) in
          let second-there : needed_at us' p.1 ≡ true = one-there (with_one_more us p.0) p.1
          (let long = one-long us p.0 in omega (arith, low.1, long, all, few)) in
          from-lower us' (uses_down steps k us') r (two-long us p.0 p.1)
          (λ m le. one-other (with_one_more us p.0) p.1 m (omega (arith, low.1, le))
          ∙ one-other us p.0 m (omega (arith, low.0, le)))
          (λ m lt h. one-keeps (with_one_more us p.0) p.1 m (let long =
          one-long us p.0 in omega (arith, lt, long, all)) (one-keeps us p.0 m (omega (arith, lt, all)) h))
          (λ a b h at'.
          let same = same-pair p (a, b) (sym at ∙ at') in (
            subst (λ x. needed_at (uses_down steps k us') x ≡ true) same.0
                (r.keep p.0 (omega (arith, low.0, few)) first-kept),
            subst (λ x. needed_at (uses_down steps k us') x ≡ true) same.1
                (r.keep p.1 (omega (arith, low.1, few)) second-there),
          ))

  as-long : (n : ℕ) → length (replicate n Never) ≡ n
  as-long zero = refl
  as-long (suc n) = ap suc (as-long n)

  begin-long : length (with_end (replicate (length steps) Never)) ≡ length steps
  begin-long = length-set (replicate (length steps) Never)
      (length (replicate (length steps) Never) - 1) End ∙ as-long (length steps)

  whole : IsSwept (length steps) (with_end (replicate (length steps) Never)) (uses_of steps)
  whole = swept (length steps) (with_end (replicate (length steps) Never)) begin-long (omega arith)

  pub uses-long : length (uses_of steps) ≡ length steps
  uses-long = whole.many ∙ begin-long

  pub used : (n a b : ℕ) → n < length steps → needed_at (uses_of steps) n ≡ true → references_at steps n ≡ Some (a, b)
      → (needed_at (uses_of steps) a ≡ true) × (needed_at (uses_of steps) b ≡ true)
  used n a b lt h at = whole.used n a b lt h at

  pub last-is : (n : ℕ) → suc n ≡ length steps → uses_at (uses_of steps) n ≡ End
  last-is n is =
      let all = as-long (length steps) in
      let place : length (replicate (length steps) Never) - 1 ≡ n = omega (arith, all, is) in
      whole.high n (omega (arith, is))
      ∙ ap (λ m. uses_at (set (replicate (length steps) Never) m End) n) place
      ∙ get_or-set_same (replicate (length steps) Never) n End Never (omega (arith, all, is))
