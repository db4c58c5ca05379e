-- What a search says of its store, where a kind stands as its number.
use Rattle.std.proofs.Common.{◌≡◌, ◌<◌, ℕ, List, length, sym, subst, ◌∙◌}
use Rattle.incompatibilities.specs.Stores.{EntryView, IsAxiom, entry}
use Rattle.incompatibilities.specs.declared.origin.Origin.TheVariants.{Axiom}
use Rattle.model.specs.Content.{Problem}
use Rattle.model.specs.Axioms.{IsInstance}
use Rattle.numbering.specs.Numberings.{Numbering}
use Rattle.numbering.proofs.ByKind.{kind_back}
use Rattle.solver.specs.inner.Steps.{AreGiven, IsGiven}
use Rattle.vertices.specs.Texts.{kind_number}
use Rattle.guiding.specs.inner.Guides.{IsOfInstance}

pub axioms_given : (q : Problem) (vs : Numbering) (es : List EntryView) → ((id : ℕ) → id < length es
    → IsAxiom (entry es id).origin → IsOfInstance q vs (entry es id)) → AreGiven q vs es
axioms_given q vs es axioms id k lt is =
    let i = axioms id lt (subst IsAxiom (sym is) tt) in
    let same : kind_number i.kind ≡ k = same_number (kind_number i.kind) k (sym i.origin ∙ is) in
    subst (λ n. IsGiven q vs n (entry es id).terms) same
    (i.terms, subst (λ k. IsInstance q k i.terms) (sym (kind_back i.kind)) i.is, i.says)
  where
    same_number : (a b : ℕ) → Axiom a ≡ Axiom b → a ≡ b
    same_number a b e = cc
