-- The runs of marks have exactly the marked places.
use Rattle.std.proofs.Common.{◌≡◌, ◌⊎◌, inl, inr, ◌↔◌, ℕ, zero, suc, ◌+◌, ◌≤◌, ◌<◌, Bool, true, false, List, [], ◌∷◌}
use Rattle.std.proofs.Common.{◌++◌, Option, Some, None, slice_get, Contains, leb, refl, sym, ap, subst, ◌∙◌, arith}
use Rattle.std.proofs.lemmas.Bool.Decides.{leb_tells}
use Rattle.std.proofs.lemmas.Option.{none-some, same_Some}
use Rattle.model.proofs.Lists.{in_none, in_cons, in_first, in_rest}
use Rattle.telling.specs.inner.Spans.{extended, spans_put, spans_from, spans_of, IsInOne}
use Rattle.telling.specs.declared.spans.Span.{Span}

-- the run that is open before a place
abbrev pub IsOpen : ℕ → Option Span → Type 0
IsOpen n None = Unit {0}
IsOpen n (Some s) = (s.last + 1 ≡ n) × (s.first ≤ s.last)

abbrev pub IsInRun : Option Span → ℕ → Type 0
IsInRun None p = ⊥
IsInRun (Some s) p = (s.first ≤ p) × (p ≤ s.last)

-- the place is marked, of marks from another one on
abbrev pub IsMarked : ℕ → List Bool → ℕ → Type 0
IsMarked n marks p = (i : ℕ) × (p ≡ n + i) × (slice_get marks i ≡ Some true)

later : (n : ℕ) (m : Bool) (ms : List Bool) (p : ℕ) → IsMarked (n + 1) ms p → IsMarked n (m ∷ ms) p
later n m ms p (i, at, is) = (suc i, omega (arith, at), is)

here-or-later : (n : ℕ) (ms : List Bool) (p : ℕ) (run : Option Span) → IsOpen n run → IsInRun (Some (extended run n)) p
    → IsInRun run p ⊎ IsMarked n (true ∷ ms) p
here-or-later n ms p None o (low, high) = inr (zero, omega (arith, low, high), refl)
here-or-later n ms p (Some s) (ends, rises) (low, high) = by (leb_tells p s.last)
  where
    by : ((leb p s.last ≡ true) × (p ≤ s.last)) ⊎ ((leb p s.last ≡ false) × (s.last < p))
        → IsInRun (Some s) p ⊎ IsMarked n (true ∷ ms) p
    by (inl (e, h)) = inl (low, h)
    by (inr (e, h)) = inr (zero, omega (arith, ends, h, high), refl)

still-open : (n : ℕ) (run : Option Span) → IsOpen n run → IsOpen (n + 1) (Some (extended run n))
still-open n None o = (refl, omega arith)
still-open n (Some s) (ends, rises) = (refl, omega (arith, ends, rises))

marked-then : (n : ℕ) (ms : List Bool) (p : ℕ) → IsInRun None p ⊎ IsMarked n ms p → IsMarked n ms p
marked-then n ms p (inl h) = absurd h
marked-then n ms p (inr h) = h

pub found : (n : ℕ) (run : Option Span) (marks : List Bool) (p : ℕ) → IsOpen n run → IsInOne (spans_from n run marks) p
    → IsInRun run p ⊎ IsMarked n marks p
unfolding spans_from
found n None [] p o (s, c, low, high) = absurd (in_none s c)
found n (Some r) [] p o (s, c, low, high) = by (in_cons r s [] c)
  where
    by : (r ≡ s) ⊎ Contains [] s → IsInRun (Some r) p ⊎ IsMarked n [] p
    by (inl same) = inl (subst (λ t. (t.first ≤ p) × (p ≤ t.last)) (sym same) (low, high))
    by (inr none) = absurd (in_none s none)
found n run (true ∷ ms) p o h = by (found (n + 1) (Some (extended run n)) ms p (still-open n run o) (none-before run h))
  where
    none-before : (run : Option Span) → IsInOne (spans_put run true ++ spans_from (n + 1) (Some (extended run n)) ms) p
        → IsInOne (spans_from (n + 1) (Some (extended run n)) ms) p
    none-before None h = h
    none-before (Some s) h = h

    by : IsInRun (Some (extended run n)) p ⊎ IsMarked (n + 1) ms p → IsInRun run p ⊎ IsMarked n (true ∷ ms) p
    by (inl h) = here-or-later n ms p run o h
    by (inr h) = inr (later n true ms p h)
found n None (false ∷ ms) p o h = inr (later n false ms p (marked-then (n + 1) ms p (found (n + 1) None ms p tt h)))
found n (Some r) (false ∷ ms) p o (s, c, low, high) =
    by (in_cons r s (spans_from (n + 1) None ms) c) (λ c. found (n + 1) None ms p tt (s, c, low, high))
  where
    by : (r ≡ s) ⊎ Contains (spans_from (n + 1) None ms) s
        → (Contains (spans_from (n + 1) None ms) s → IsInRun None p ⊎ IsMarked (n + 1) ms p)
        → IsInRun (Some r) p ⊎ IsMarked n (false ∷ ms) p
    by (inl same) rest = inl (subst (λ t. (t.first ≤ p) × (p ≤ t.last)) (sym same) (low, high))
    by (inr there) rest = inr (later n false ms p (marked-then (n + 1) ms p (rest there)))

one-more : (r : Span) (ss : List Span) (p : ℕ) → IsInOne ss p → IsInOne (r ∷ ss) p
one-more r ss p (s, c, low, high) = (s, in_rest r s ss c, low, high)

in-extended : (n : ℕ) (run : Option Span) (p : ℕ) → IsOpen n run → IsInRun run p → IsInRun (Some (extended run n)) p
in-extended n None p o h = absurd h
in-extended n (Some s) p (ends, rises) (low, high) = (low, omega (arith, ends, high))

at-end : (n : ℕ) (run : Option Span) (p : ℕ) → IsOpen n run → p ≡ n + zero → IsInRun (Some (extended run n)) p
at-end n None p o at = (omega (arith, at), omega (arith, at))
at-end n (Some s) p (ends, rises) at = (omega (arith, at, ends, rises), omega (arith, at))

pub has : (n : ℕ) (run : Option Span) (marks : List Bool) (p : ℕ) → IsOpen n run → IsInRun run p ⊎ IsMarked n marks p
    → IsInOne (spans_from n run marks) p
unfolding spans_from
has n None [] p o (inl h) = absurd h
has n (Some r) [] p o (inl (low, high)) = (r, in_first r [], low, high)
has n run [] p o (inr (i, at, is)) = absurd (none-some true is)
has n run (true ∷ ms) p o h = before run (has (n + 1) (Some (extended run n)) ms p (still-open n run o) (by h))
  where
    before : (run : Option Span) → IsInOne (spans_from (n + 1) (Some (extended run n)) ms) p
        → IsInOne (spans_put run true ++ spans_from (n + 1) (Some (extended run n)) ms) p
    before None h = h
    before (Some s) h = h

    by : IsInRun run p ⊎ IsMarked n (true ∷ ms) p → IsInRun (Some (extended run n)) p ⊎ IsMarked (n + 1) ms p
    by (inl h) = inl (in-extended n run p o h)
    by (inr (zero, at, is)) = inl (at-end n run p o at)
    by (inr (suc i, at, is)) = inr (i, omega (arith, at), is)
has n None (false ∷ ms) p o (inl h) = absurd h
has n None (false ∷ ms) p o (inr (zero, at, is)) = absurd (not-marked is)
  where
    not-marked : Some false ≡ Some true → ⊥
    not-marked e = let no : false ≡ true = same_Some false true e in cc
has n None (false ∷ ms) p o (inr (suc i, at, is)) = has (n + 1) None ms p tt (inr (i, omega (arith, at), is))
has n (Some r) (false ∷ ms) p o (inl (low, high)) = (r, in_first r (spans_from (n + 1) None ms), low, high)
has n (Some r) (false ∷ ms) p o (inr (zero, at, is)) = absurd (not-marked is)
  where
    not-marked : Some false ≡ Some true → ⊥
    not-marked e = let no : false ≡ true = same_Some false true e in cc
has n (Some r) (false ∷ ms) p o (inr (suc i, at, is)) =
    one-more r (spans_from (n + 1) None ms) p (has (n + 1) None ms p tt (inr (i, omega (arith, at), is)))

pub says : (marks : List Bool) (p : ℕ) → IsInOne (spans_of marks) p ↔ (slice_get marks p ≡ Some true)
says marks p = (there, back)
  where
    there : IsInOne (spans_of marks) p → slice_get marks p ≡ Some true
    there h = by (found 0 None marks p tt h)
      where
        by : IsInRun None p ⊎ IsMarked 0 marks p → slice_get marks p ≡ Some true
        by (inl h) = absurd h
        by (inr (i, at, is)) = let same : p ≡ i = omega (arith, at) in ap (slice_get marks) same ∙ is

    back : slice_get marks p ≡ Some true → IsInOne (spans_of marks) p
    back is = has 0 None marks p tt (inr (p, omega arith, is))
