-- The two greatest numbers of places, with one term more.
use Rattle.std.proofs.Common.{◌≡◌, ◌≢◌, ℕ, zero, suc, ◌<◌, ◌≤◌, List, length, refl, sym, ◌∙◌, subst, arith, inl, inr}
use Rattle.std.proofs.lemmas.Bool.{cases_eq, cases_lt, le-ltb, lt-ltb}
use Rattle.terms.specs.Terms.{TermView}
use Rattle.incompatibilities.specs.Incompatibilities.{IsRising}
use Rattle.propagation.specs.Trails.{TrailView}
use Rattle.propagation.specs.inner.Units.{term_at}
use Rattle.propagation.specs.inner.Counting.{AreRanked, HoldsAfter, IsCount, Ranked, ranked}
use Rattle.propagation.specs.declared.satisfying.Ranks.{Ranks}
use Rattle.propagation.proofs.Vertices.{one_place}

ranked_top : (r : Ranks) (n : ℕ) → r.all < n → ranked r n ≡ record { all = n; others = r.all }
ranked_top r n lt = rw (lt-ltb r.all n lt) refl

ranked_next : (r : Ranks) (n : ℕ) → n ≤ r.all → r.others < n → ranked r n ≡ record { all = r.all; others = n }
ranked_next r n le lt = rw (le-ltb r.all n le, lt-ltb r.others n lt) refl

ranked_low : (r : Ranks) (n : ℕ) → n ≤ r.all → n ≤ r.others → ranked r n ≡ r
ranked_low r n le lo = rw (le-ltb r.all n le, le-ltb r.others n lo) refl

abbrev Counts : TrailView → List TermView → ℕ → ℕ → Type 0
Counts t ts i n = IsCount t (term_at ts i).vertex (term_at ts i).states n

first_ranked : (t : TrailView) (ts : List TermView) (r : Ranks) (n : ℕ) → r.all ≡ 0 → Counts t ts 0 n → 0 < n
    → AreRanked t ts 1 (ranked r n)
first_ranked t ts r n none count some =
    subst (AreRanked t ts 1) (sym (ranked_top r n (omega (arith, none, some)))) (record {
      last = 0;
      within = omega arith;
      count = count;
      some = some;
      less = omega (arith, none, some);
      others_hold = λ k low high i lt ne. absurd (ne (omega (arith, lt)));
      others_first = λ k lt h. omega (arith, lt, none);
    })

module _ (t : TrailView) (ts : List TermView) (rising : IsRising ts) (m : ℕ) (more : m < length ts) (r : Ranks) (n : ℕ)
    (was : AreRanked t ts m r) (count : Counts t ts m n) where
  -- another vertex, so another place
  apart : n ≢ r.all
  apart e = differ r.all refl
    where
      differ : (k : ℕ) → r.all ≡ k → ⊥
      differ zero z = let some = was.some in omega (arith, some, z)
      differ (suc p) z = let w = was.within in absurd (omega (
        arith,
        w,
        one_place ts was.last m rising
            (omega (arith, w, more)) more (sym (was.count.on p z) ∙ count.on p (e ∙ z)),
      ))

  on_top : r.all < n → AreRanked t ts (suc m) (record { all = n; others = r.all })
  on_top lt = record {
    last = m;
    within = omega arith;
    count = count;
    some = omega (arith, lt);
    less = lt;
    others_hold = λ k low high i il ne. elim (cases_eq i was.last) [
      | inl e ↦ subst (λ j. HoldsAfter t ts j k) (sym e) (was.count.holds k low high)
      | inr other ↦ let less =
          was.less in was.others_hold k (omega (arith, low, less)) high i (omega (arith, il, ne)) other
    ];
    others_first = λ k kl h. let w =
        was.within in was.count.first k kl (h was.last (omega (arith, w)) (λ e. omega (arith, w, e)));
  }

  between : r.others < n → n < r.all → AreRanked t ts (suc m) (record { all = r.all; others = n })
  between lo hi = record {
    last = was.last;
    within = (let w = was.within in omega (arith, w));
    count = was.count;
    some = was.some;
    less = hi;
    others_hold = λ k low high i il ne. elim (cases_lt i m) [
      | inl less ↦ was.others_hold k (omega (arith, low, lo)) high i less ne
      | inr le ↦ let e : m ≡ i = omega (arith, il, le) in subst (λ j. HoldsAfter t ts j k) e (count.holds k low high)
    ];
    others_first = λ k kl h. let w = was.within in count.first k kl (h m (omega arith) (λ e. omega (arith, w, e)));
  }

  below : n ≤ r.others → AreRanked t ts (suc m) r
  below lo = record {
    last = was.last;
    within = (let w = was.within in omega (arith, w));
    count = was.count;
    some = was.some;
    less = was.less;
    others_hold = λ k low high i il ne. elim (cases_lt i m) [
      | inl less ↦ was.others_hold k low high i less ne
      | inr le ↦ let e : m ≡ i =
          omega (arith, il, le) in subst (λ j. HoldsAfter t ts j k) e (count.holds k (omega (arith, lo, low)) high)
    ];
    others_first = λ k kl h. was.others_first k kl (λ i il ne. h i (omega (arith, il)) ne);
  }

  more_ranked : AreRanked t ts (suc m) (ranked r n)
  more_ranked = elim (cases_lt r.all n) [
    | inl lt ↦ subst (AreRanked t ts (suc m)) (sym (ranked_top r n lt)) (on_top lt)
    | inr le ↦ elim (cases_lt r.others n) [
      | inl lt ↦ subst (AreRanked t ts (suc m)) (sym (ranked_next r n le lt)) (between lt
          (let ne = apart in elim (cases_lt n r.all) [ inl hi ↦ hi | inr ge ↦ absurd (ne (omega (arith, le, ge))) ]))
      | inr lo ↦ subst (AreRanked t ts (suc m)) (sym (ranked_low r n le lo)) (below lo)
    ]
  ]

pub rank_more : (t : TrailView) (ts : List TermView) (m : ℕ) (r : Ranks) (n : ℕ) → IsRising ts → m < length ts
    → Ranked t ts m r → Counts t ts m n → 0 < n → Ranked t ts (suc m) (ranked r n)
rank_more t ts zero r n rising lt was count some = first_ranked t ts r n was.0 count some
rank_more t ts (suc m) r n rising lt was count some = more_ranked t ts rising (suc m) lt r n was count
