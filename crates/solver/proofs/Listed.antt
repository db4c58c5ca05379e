-- What holds of each value of a list with empty places holds when one more is put in; and what stays listed.
use Rattle.std.proofs.Common.{◌≡◌, ℕ, zero, suc, ◌+◌, ◌<◌, List, [], ◌∷◌, length, take, Option, None, Some}
use Rattle.std.proofs.Common.{slice_index_or}
use Rattle.std.proofs.Common.{get_or, is_some, slice_set, true, refl, subst, All, arith}
use Rattle.std.proofs.lemmas.List.Elements.{All-more, All-weaker}
use Rattle.std.proofs.lemmas.Option.{same_Some}
use Rattle.terms.specs.declared.term.Term.{Term}
use Rattle.solver.specs.declared.flat.Source.{Source}
use Rattle.solver.specs.declared.flat.Source.TheVariants.{Axiom, Combined}
use Rattle.numbering.specs.Numberings.{Numbering}
use Rattle.solver.specs.Refusing.{AreKept, IsListed, IsNamed}
use Rattle.solver.specs.declared.spaces.Spaces.{Spaces}

pub one_more : {X : Type 0} (P : ℕ → X → Type 0) (old : List (Option X)) (k : ℕ) (x : X) → P k x
    → ((n : ℕ) (s : X) → slice_index_or old n None ≡ Some s → P n s)
    → (n : ℕ) (s : X) → slice_index_or (slice_set old k (Some x)) n None ≡ Some s → P n s
one_more P [] k x here each n s e = each n s e
one_more P (o ∷ os) zero x here each zero s e = subst (P zero) (same_Some x s e) here
one_more P (o ∷ os) zero x here each (suc n) s e = each (suc n) s e
one_more P (o ∷ os) (suc k) x here each zero s e = each zero s e
one_more P (o ∷ os) (suc k) x here each (suc n) s e = one_more (λ m. P (suc m)) os k x here (λ m. each (suc m)) n s e

pub put_listed : {X : Type 0} (old : List (Option X)) (k : ℕ) (x : X) → k < length old
    → is_some (slice_index_or (slice_set old k (Some x)) k None) ≡ true
put_listed [] k x lt = absurd (omega (arith, lt))
put_listed (o ∷ os) zero x lt = refl
put_listed (o ∷ os) (suc k) x lt = put_listed os k x (omega (arith, lt))

pub kept_listed : {X : Type 0} (old : List (Option X)) (k : ℕ) (x : X) (n : ℕ)
    → is_some (slice_index_or old n None) ≡ true → is_some (slice_index_or (slice_set old k (Some x)) n None) ≡ true
kept_listed [] k x n h = h
kept_listed (o ∷ os) zero x zero h = refl
kept_listed (o ∷ os) zero x (suc n) h = h
kept_listed (o ∷ os) (suc k) x zero h = h
kept_listed (o ∷ os) (suc k) x (suc n) h = kept_listed os k x n h

module _ (vs : Numbering) (old new : Spaces) (kept : AreKept old new) where
  pub named_kept : (o : Source) → IsNamed vs old o → IsNamed vs new o
  named_kept (Axiom k) named = tt
  named_kept (Combined i j m) named = λ v e. kept m (named v e)

  pub listed_more : {S : Type 0} (ts : List (Term S)) (i : ℕ) (t : Term S) → i < length ts → t ≡ get_or ts i t
      → All (λ t. IsListed vs old t.vertex) (take i ts) → IsListed vs new t.vertex
      → All (λ t. IsListed vs new t.vertex) (take (i + 1) ts)
  listed_more {S} ts i t lt is all here = All-more (λ (t : Term S). IsListed vs new t.vertex) ts i t lt
      (All-weaker (λ (t : Term S). IsListed vs old t.vertex) (λ (t : Term S). IsListed vs new t.vertex)
      (λ x was v e. kept x.vertex (was v e)) (take i ts) all)
      (subst (λ (t : Term S). IsListed vs new t.vertex) is here)
