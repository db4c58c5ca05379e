-- Terms over numbers that are those of an instance, in its order and with full ones.
use Rattle.std.specs.Prelude.{◌≡◌, List, [], ◌∷◌, Some, slice_get}
use Rattle.terms.specs.Terms.{TermView}
use Rattle.model.specs.Content.{Problem}
use Rattle.model.specs.Axioms.{Term}
use Rattle.numbering.specs.Numberings.{Numbering, members_at}

-- a term over numbers is a term over vertices
pub record IsNumbered (q : Problem) (vs : Numbering) (t : TermView) (m : Term) : Type 0 where
  pub vertex : slice_get vs t.vertex ≡ Some m.vertex
  pub states : t.states ≡ members_at q m.vertex m.states

abbrev pub AreNumbered : Problem → Numbering → List TermView → List Term → Type 0
AreNumbered q vs [] [] = Unit {0}
AreNumbered q vs (t ∷ ts) (m ∷ ms) = IsNumbered q vs t m × AreNumbered q vs ts ms
AreNumbered q vs [] (m ∷ ms) = ⊥
AreNumbered q vs (t ∷ ts) [] = ⊥
