-- A step with an entry's terms in the written order is one of the entry.
use Rattle.std.proofs.Common.{◌≡◌, ℕ, List, Some, slice_get, refl, sym, subst}
use Rattle.solver.specs.inner.Flats.{FlatView}
use Rattle.solver.specs.declared.flat.Source.{Source}
use Rattle.solver.specs.declared.flat.Source.TheVariants.{Axiom, Combined}
use Rattle.model.specs.Content.{Problem}
use Rattle.model.specs.Order.{IsCatalogue}
use Rattle.model.specs.Vertices.{Vertex}
use Rattle.model.specs.Axioms.{AreApart, Kind, Term}
use Rattle.model.specs.Derivation.{SameTerms, Step, combine, given}
use Rattle.vertices.specs.inner.Valid.{HasValidParts}
use Rattle.derivations.specs.inner.Building.{AreNewTerms, ordered_terms}
use Rattle.numbering.specs.Numberings.{IsNumbering, Numbering}
use Rattle.solver.specs.inner.Decoding.{IsOver, terms_of}
use Rattle.solver.specs.inner.Steps.{IsBy, IsStepOf}
use Rattle.vertices.specs.Texts.{kind_at}
use Rattle.solver.proofs.Whole.{terms_apart}
use Rattle.solver.specs.Refusing.{IsStepWith}
use Rattle.solver.proofs.NewTerms.{terms_new}
use Rattle.solver.proofs.SayingSame.{ordered_same}

module _ (q : Problem) (vs : Numbering) (ok : IsNumbering q vs) (e : FlatView) (over : IsOver q vs e.terms)
    (ts : List Term) (is : ts ≡ terms_of q vs e.terms) where
  pub stepped : (s : Step) → IsStepWith vs e.source (ordered_terms ts) s → IsStepOf q vs e s
  stepped s with_terms = record {
    by = with_terms.by;
    terms = subst (λ l. SameTerms l (terms_of q vs e.terms)) (sym with_terms.terms)
        (subst (λ l. SameTerms (ordered_terms ts) l) is
        (ordered_same ts (subst AreApart (sym is) (terms_apart q vs ok e.terms over.is.rising))));
  }

  pub entry_new : HasValidParts q → IsCatalogue q → AreNewTerms ts
  entry_new valid known = subst AreNewTerms (sym is) (terms_new q vs valid known ok e.terms over.is.rising)

module _ (vs : Numbering) (o : Source) (ts : List Term) where
  pub by_axiom : (n : ℕ) (k : Kind) → o ≡ Axiom n → k ≡ kind_at n → IsStepWith vs o ts (given k ts)
  by_axiom n k is same = record { by = subst (λ x. IsBy vs x (given k ts)) (sym is) same; terms = refl }

  pub by_parts : (i j m : ℕ) (v : Vertex) → o ≡ Combined i j m → slice_get vs m ≡ Some v
      → IsStepWith vs o ts (combine i j v ts)
  by_parts i j m v is there =
      record { by = subst (λ x. IsBy vs x (combine i j v ts)) (sym is) (refl, refl, there); terms = refl }
