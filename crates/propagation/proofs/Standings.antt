-- The standing of an incompatibility, term by term, from the last to the first.
use Rattle.std.proofs.Common.{◌≡◌, ◌≢◌, ℕ, suc, ◌<◌, ◌≤◌, sym, subst, arith, inl, inr}
use Rattle.std.proofs.lemmas.Bool.{cases_lt, cases_eq}
use Rattle.terms.specs.declared.term.Relation.{Relation}
use Rattle.terms.specs.declared.term.Relation.TheVariants.{Satisfied, Contradicted, Open}
use Rattle.propagation.specs.inner.Units.{Neither, Stands, after}
use Rattle.propagation.specs.declared.propagating.Standing.{Standing}
use Rattle.propagation.specs.declared.propagating.Standing.TheVariants.{Holds, OneOpen, Quiet}

holds_open : (x : Relation) → x ≡ Satisfied → x ≡ Open → ⊥
holds_open x a b = cc

holds_apart : (x : Relation) → x ≡ Satisfied → x ≡ Contradicted → ⊥
holds_apart x a b = cc

open_apart : (x : Relation) → x ≡ Open → x ≡ Contradicted → ⊥
open_apart x a b = cc

apart_at : (i n : ℕ) (f : ℕ → Relation) → i < n → f i ≡ Contradicted → Neither n f
apart_at i n f lt e = record {
  not_all = λ a. holds_apart (f i) (a i lt) e;
  not_one = λ k o. elim (cases_eq i k) [
    | inl same ↦ open_apart (f i) (subst (λ m. f m ≡ Open) (sym same) o.here) e
    | inr ne ↦ holds_apart (f i) (o.others i lt ne) e
  ];
}

two_open : (i k n : ℕ) (f : ℕ → Relation) → k < i → i < n → f i ≡ Open → f k ≡ Open → Neither n f
two_open i k n f ki lt e h = record {
  not_all = λ a. holds_open (f i) (a i lt) e;
  not_one = λ m o. elim (cases_eq i m) [
    | inl same ↦ holds_open (f k) (o.others k (omega (arith, ki, lt)) (λ km. omega (arith, ki, km, same))) h
    | inr ne ↦ holds_open (f i) (o.others i lt ne) e
  ];
}

-- of the terms from m on: all are satisfied, or one is open and the others are satisfied; no earlier term changes what
-- is quiet
abbrev pub AllFrom : ℕ → ℕ → (ℕ → Relation) → Type 0
AllFrom m n f = (i : ℕ) → m ≤ i → i < n → f i ≡ Satisfied

pub record OneFrom (m n : ℕ) (f : ℕ → Relation) (k : ℕ) : Type 0 where
  pub low : m ≤ k
  pub within : k < n
  pub here : f k ≡ Open
  pub others : (i : ℕ) → m ≤ i → i < n → i ≢ k → f i ≡ Satisfied

abbrev pub StandsFrom : ℕ → ℕ → (ℕ → Relation) → Standing → Type 0
StandsFrom m n f Holds = AllFrom m n f
StandsFrom m n f (OneOpen k) = OneFrom m n f k
StandsFrom m n f Quiet = Neither n f

-- with the term before them
pub after_next : (f : ℕ → Relation) (m n : ℕ) (seen : Standing) (x : Relation) → m < n → f m ≡ x
    → StandsFrom (suc m) n f seen → StandsFrom m n f (after seen m x)
after_next f m n Holds Satisfied lt e h = λ j low jl. elim (cases_lt m j) [
  | inl less ↦ h j less jl
  | inr le ↦ let same : m ≡ j = omega (arith, low, le) in subst (λ i. f i ≡ Satisfied) same e
]
after_next f m n Holds Open lt e h =
    record { low = omega arith; within = lt; here = e; others = λ j low jl ne. h j (omega (arith, low, ne)) jl }
after_next f m n Holds Contradicted lt e h = apart_at m n f lt e
after_next f m n (OneOpen k) Satisfied lt e h = let past = h.low in record {
  low = omega (arith, past);
  within = h.within;
  here = h.here;
  others = λ j low jl ne. elim (cases_lt m j) [
    | inl less ↦ h.others j less jl ne
    | inr le ↦ let same : m ≡ j = omega (arith, low, le) in subst (λ i. f i ≡ Satisfied) same e
  ];
}
after_next f m n (OneOpen k) Open lt e h = two_open k m n f (let past = h.low in omega (arith, past)) h.within h.here e
after_next f m n (OneOpen k) Contradicted lt e h = apart_at m n f lt e
after_next f m n Quiet x lt e h = h

pub stands_all : (n : ℕ) (f : ℕ → Relation) (seen : Standing) → StandsFrom 0 n f seen → Stands n f seen
stands_all n f Holds h = λ i lt. h i (omega arith) lt
stands_all n f (OneOpen k) h =
    record { within = h.within; here = h.here; others = λ i lt ne. h.others i (omega arith) lt ne }
stands_all n f Quiet h = h
