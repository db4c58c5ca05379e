-- What marks keep while the entries are visited.
use Rattle.std.proofs.Common.{◌≡◌, ℕ, zero, suc, ◌<◌, ◌≤◌, length, List, [], ◌∷◌, ◌++◌, Bool, true, false, cond}
use Rattle.std.proofs.Common.{slice_set, refl, sym, ap, ◌∙◌, subst, inl, inr, ◌⊎◌, true≢false, arith}
use Rattle.std.specs.Prelude.{replicate}
use Rattle.std.proofs.lemmas.Bool.{cases_eq}
use Rattle.terms.specs.Terms.{TermView}
use Rattle.version_sets.specs.Sets.{has}
use Rattle.incompatibilities.specs.Stores.{ComesOut, EntryView, OriginFits, entry}
use Rattle.incompatibilities.specs.declared.chain.Link.{Link}
use Rattle.incompatibilities.specs.declared.origin.Origin.{Origin}
use Rattle.incompatibilities.specs.declared.origin.Origin.TheVariants.{Axiom, Learned}
use Rattle.solver.specs.inner.Marks.{AreBelow, AreIn, IsClosedAt, IsMarking, PartsBelow, PartsIn, visited, with_links}
use Rattle.solver.specs.inner.Marks.{with_parts}

-- ---- one mark more

set_here : (ms : List Bool) (i : ℕ) → i < length ms → has (slice_set ms i true) i ≡ true
set_here [] i lt = absurd (omega (arith, lt))
set_here (m ∷ ms) zero lt = refl
set_here (m ∷ ms) (suc i) lt = set_here ms i (omega (arith, lt))

set_kept : (ms : List Bool) (i k : ℕ) → has ms k ≡ true → has (slice_set ms i true) k ≡ true
set_kept [] i k h = h
set_kept (m ∷ ms) zero zero h = refl
set_kept (m ∷ ms) zero (suc k) h = h
set_kept (m ∷ ms) (suc i) zero h = h
set_kept (m ∷ ms) (suc i) (suc k) h = set_kept ms i k h

set_from : (ms : List Bool) (i k : ℕ) → has (slice_set ms i true) k ≡ true → (k ≡ i) ⊎ (has ms k ≡ true)
set_from [] i k h = inr h
set_from (m ∷ ms) zero zero h = inl refl
set_from (m ∷ ms) zero (suc k) h = inr h
set_from (m ∷ ms) (suc i) zero h = inr h
set_from (m ∷ ms) (suc i) (suc k) h = elim (set_from ms i k h) [ inl e ↦ inl (ap suc e) | inr r ↦ inr r ]

set_long : (ms : List Bool) (i : ℕ) → length (slice_set ms i true) ≡ length ms
set_long [] i = refl
set_long (m ∷ ms) zero = refl
set_long (m ∷ ms) (suc i) = ap suc (set_long ms i)

links_kept : (ls : List Link) (ms : List Bool) (k : ℕ) → has ms k ≡ true → has (with_links ls ms) k ≡ true
links_kept [] ms k h = h
links_kept (l ∷ ls) ms k h = links_kept ls (slice_set ms l.with true) k (set_kept ms l.with k h)

links_long : (ls : List Link) (ms : List Bool) → length (with_links ls ms) ≡ length ms
links_long [] ms = refl
links_long (l ∷ ls) ms = links_long ls (slice_set ms l.with true) ∙ set_long ms l.with

kept_parts : (o : Origin) (ms : List Bool) (k : ℕ) → has ms k ≡ true → has (with_parts o ms) k ≡ true
kept_parts (Axiom n) ms k h = h
kept_parts (Learned chain) ms k h =
    links_kept chain.links (slice_set ms chain.first true) k (set_kept ms chain.first k h)

long_parts : (o : Origin) (ms : List Bool) → length (with_parts o ms) ≡ length ms
long_parts (Axiom n) ms = refl
long_parts (Learned chain) ms = links_long chain.links (slice_set ms chain.first true) ∙ set_long ms chain.first

in_kept : (ls : List Link) (p : Origin) (ms : List Bool) → AreIn ms ls → AreIn (with_parts p ms) ls
in_kept [] p ms h = tt
in_kept (l ∷ ls) p ms h = (kept_parts p ms l.with h.0, in_kept ls p ms h.1)

parts_kept : (o p : Origin) (ms : List Bool) → PartsIn ms o → PartsIn (with_parts p ms) o
parts_kept (Axiom n) p ms h = tt
parts_kept (Learned chain) p ms h = (kept_parts p ms chain.first h.0, in_kept chain.links p ms h.1)

-- the marks of links
links_in : (ls : List Link) (ms : List Bool) → AreBelow (length ms) ls → AreIn (with_links ls ms) ls
links_in [] ms h = tt
links_in (l ∷ ls) ms h = (
  links_kept ls (slice_set ms l.with true) l.with (set_here ms l.with h.0),
  links_in ls (slice_set ms l.with true) (subst (λ n. AreBelow n ls) (sym (set_long ms l.with)) h.1),
)

parts_marked : (o : Origin) (ms : List Bool) → PartsBelow (length ms) o → PartsIn (with_parts o ms) o
parts_marked (Axiom n) ms h = tt
parts_marked (Learned chain) ms h = (
  links_kept chain.links (slice_set ms chain.first true) chain.first (set_here ms chain.first h.0),
  links_in chain.links (slice_set ms chain.first true)
      (subst (λ n. AreBelow n chain.links) (sym (set_long ms chain.first)) h.1),
)

-- what fits is of earlier entries
links_below : (es : List EntryView) (id n : ℕ) (ts : List TermView) (ls : List Link) (made : List TermView)
    → ComesOut es id ts ls made → id ≤ n → AreBelow n ls
links_below es id n ts [] made out le = tt
links_below es id n ts (l ∷ ls) made out le =
    ((let low = out.1.earlier in omega (arith, low, le)), links_below es id n out.0 ls made out.2 le)

pub parts_below : (es : List EntryView) (id n : ℕ) (o : Origin) → OriginFits es id (entry es id).terms o
    → id ≤ n → PartsBelow n o
parts_below es id n (Axiom k) f le = tt
parts_below es id n (Learned chain) f le = (
  (let low = f.0 in omega (arith, low, le)),
  links_below es id n (entry es chain.first).terms chain.links (entry es id).terms f.2 le,
)

-- new marks are of earlier entries
links_from : (ls : List Link) (n : ℕ) (ms : List Bool) (k : ℕ) → AreBelow n ls → has (with_links ls ms) k ≡ true
    → (has ms k ≡ true) ⊎ (k < n)
links_from [] n ms k low h = inl h
links_from (l ∷ ls) n ms k low h = elim (links_from ls n (slice_set ms l.with true) k low.1 h) [
  | inl r ↦ elim (set_from ms l.with k r) [
    | inl s ↦ inr (let lt = low.0 in omega (arith, s, lt))
    | inr was ↦ inl was
  ]
  | inr lt ↦ inr lt
]

parts_from : (o : Origin) (n : ℕ) (ms : List Bool) (k : ℕ) → PartsBelow n o → has (with_parts o ms) k ≡ true
    → (has ms k ≡ true) ⊎ (k < n)
parts_from (Axiom kind) n ms k low h = inl h
parts_from (Learned chain) n ms k low h =
    elim (links_from chain.links n (slice_set ms chain.first true) k low.1 h) [
      | inl r ↦ elim (set_from ms chain.first k r) [
        | inl s ↦ inr (let lt = low.0 in omega (arith, s, lt))
        | inr was ↦ inl was
      ]
      | inr lt ↦ inr lt
    ]

-- ---- visiting

module _ (es : List EntryView) (last left : ℕ) (ms : List Bool)
    (now : IsMarking es last (suc left) ms) (low : left ≤ last)
    (fits : has ms left ≡ true → OriginFits es left (entry es left).terms (entry es left).origin) where
  more : has ms left ≡ true → IsMarking es last left (with_parts (entry es left).origin ms)
  more here = record {
    long = long_parts (entry es left).origin ms ∙ now.long;
    ends = kept_parts (entry es left).origin ms last now.ends;
    closed = λ id le h. elim (parts_from (entry es left).origin left ms id
        (parts_below es left left (entry es left).origin (fits here) (omega arith)) h) [
          | inl old ↦ elim (cases_eq id left) [
            | inl s ↦ subst (IsClosedAt es (with_parts (entry es left).origin ms)) (sym s) (record {
              fits = fits here;
              parts =
                  parts_marked (entry es left).origin ms
                  (subst (λ l. PartsBelow l (entry es left).origin) (sym now.long)
                  (parts_below es left (suc last) (entry es left).origin (fits here) (omega (arith, low))));
            })
            | inr o ↦ (let before = now.closed id (omega (arith, le, o)) old in record {
              fits = before.fits;
              parts =
                  parts_kept (entry es id).origin (entry es left).origin ms before.parts;
            })
          ]
          | inr less ↦ absurd (omega (arith, le, less))
        ];
  }

  same : has ms left ≡ false → IsMarking es last left ms
  same none = record {
    long = now.long;
    ends = now.ends;
    closed = λ id le h. elim (cases_eq id left) [
      | inl s ↦ absurd (true≢false (sym h ∙ ap (has ms) s ∙ none))
      | inr o ↦ now.closed id (omega (arith, le, o)) h
    ];
  }

  pub visits : IsMarking es last left (visited es left ms)
  visits = by (has ms left) refl
    where
      by : (b : Bool) → has ms left ≡ b → IsMarking es last left (cond b (with_parts (entry es left).origin ms) ms)
      by true e = more e
      by false e = same e

one_marked : (n k : ℕ) → has (replicate n false ++ true ∷ []) k ≡ true → k ≡ n
one_marked zero zero h = refl
one_marked zero (suc k) h = absurd (true≢false (sym h))
one_marked (suc n) zero h = absurd (true≢false (sym h))
one_marked (suc n) (suc k) h = ap suc (one_marked n k h)

last_marked : (n : ℕ) → has (replicate n false ++ true ∷ []) n ≡ true
last_marked zero = refl
last_marked (suc n) = last_marked n

one_length : (n : ℕ) → length (replicate n false ++ true ∷ []) ≡ suc n
one_length zero = refl
one_length (suc n) = ap suc (one_length n)

-- at first just the last entry is marked
pub starts : (es : List EntryView) (last left : ℕ) (ms : List Bool) → ms ≡ replicate last false ++ true ∷ []
    → left ≡ length ms → IsMarking es last left ms × (left ≤ suc last)
starts es last left ms is all =
    let n : left ≡ suc last = all ∙ ap length is ∙ one_length last in (
      record {
        long = ap length is ∙ one_length last;
        ends = ap (λ x. has x last) is ∙ last_marked last;
        closed = λ id le h. (let e : id ≡ last = only id h in absurd (omega (arith, le, e, n)));
      },
      omega (arith, n),
    )
  where
    only : (id : ℕ) → has ms id ≡ true → id ≡ last
    only id h = one_marked last id (sym (ap (λ x. has x id) is) ∙ h)

-- one entry more
pub visited_one : (es : List EntryView) (last old left : ℕ) (ms new : List Bool)
    → IsMarking es last old ms × (old ≤ suc last) → old ≡ suc left → new ≡ visited es left ms
    → (has ms left ≡ true → OriginFits es left (entry es left).terms (entry es left).origin)
    → IsMarking es last left new × (left ≤ suc last)
visited_one es last old left ms new now one is fits = (
  subst (IsMarking es last left) (sym is) (visits es last left ms (subst (λ n. IsMarking es last n ms) one now.0)
      (omega (arith, now.1, one)) fits),
  omega (arith, now.1, one),
)
