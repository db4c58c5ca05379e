-- Terms that are decoded speak of different vertices, with their states in their vertices' order.
use Rattle.std.proofs.Common.{◌≡◌, ℕ, ◌==◌, List, [], ◌∷◌, false}
use Rattle.std.proofs.Common.{Option, Some, None, slice_get, refl, sym, ◌∙◌, arith}
use Rattle.std.specs.List.{AllByRecursion}
use Rattle.std.proofs.lemmas.Bool.{false_from_ne_true, eqb-true}
use Rattle.terms.specs.Terms.{TermView}
use Rattle.incompatibilities.specs.Incompatibilities.{AllPast, IsRising}
use Rattle.model.specs.Content.{Problem}
use Rattle.model.specs.Vertices.{Vertex, same_vertex}
use Rattle.model.specs.Axioms.{AreApart}
use Rattle.numbering.specs.Numberings.{Numbering, IsNumbering}
use Rattle.solver.specs.inner.Decoding.{with_term, terms_of}
use Rattle.solver.proofs.Decoded.{same_number}

module _ (q : Problem) (vs : Numbering) (ok : IsNumbering q vs) where
  past_apart : (n : ℕ) (v : Vertex) → slice_get vs n ≡ Some v → (ts : List TermView) → AllPast n ts
      → AllByRecursion (λ u. same_vertex v u.vertex ≡ false) (terms_of q vs ts)
  past_apart n v e [] h = tt
  past_apart n v e (t ∷ ts) h = by (past_apart n v e ts h.1) (slice_get vs t.vertex) refl
    where
      by : AllByRecursion (λ u. same_vertex v u.vertex ≡ false) (terms_of q vs ts) → (o : Option Vertex)
          → slice_get vs t.vertex ≡ o
          → AllByRecursion (λ u. same_vertex v u.vertex ≡ false) (with_term q o t.states (terms_of q vs ts))
      by rest None f = rest
      by rest (Some w) f = (
        sym (same_number q vs ok.once t.vertex n w v f e) ∙ false_from_ne_true (t.vertex == n)
            (λ s. let x : t.vertex ≡ n = eqb-true t.vertex n s in omega (arith, x, h.0)),
        rest,
      )

  pub terms_apart : (ts : List TermView) → IsRising ts → AreApart (terms_of q vs ts)
  terms_apart [] h = tt
  terms_apart (t ∷ ts) h = by (terms_apart ts h.1) (slice_get vs t.vertex) refl
    where
      by : AreApart (terms_of q vs ts) → (o : Option Vertex) → slice_get vs t.vertex ≡ o
          → AreApart (with_term q o t.states (terms_of q vs ts))
      by rest None f = rest
      by rest (Some w) f = (past_apart t.vertex w f ts h.0, rest)
