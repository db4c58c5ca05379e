-- What may be answered: the valid selection that is chosen, or a derivation where there is none (Cargo book,
-- "Dependency Resolution": where the preferred walk is valid, locked versions stay and new ones are the newest).
use Rattle.std.specs.Prelude.{◌≡◌, ◌<◌, ◌⊎◌, ℕ, List, true, None, Some, length, slice_get}
use Rattle.model.specs.Selection.{Holds, here, HasTarget, IsRootAt, IsValidSelection}
use Rattle.model.specs.Content.{Candidate, Content, Package, Problem, is_root, summary_at}
use Rattle.model.specs.Derivation.{IsAccepted, Step}
use Rattle.model.specs.Walk.{IsComplete, IsWalk}

-- the root has no checksum
abbrev pub HasBareRoot : Problem → Content → Type 0
HasBareRoot q content = (n : ℕ) (p : Package) → slice_get content n ≡ Some p → is_root q p ≡ true → p.checksum ≡ None

-- the root alone brings each package: none is here only since packages that hold one another count from the start
abbrev pub IsBrought : Problem → Content → Type 0
IsBrought q content = (n : ℕ) → n < length content → Holds (summary_at q content) (IsRootAt q content)
    (IsRootAt q content) q.root_asks (λ n i d t. HasTarget q content n d t) (here n)

-- preferred: the candidates by name, the most preferred first
module _ (q : Problem) (preferred : List (List ℕ × List Candidate)) where
  -- the content is the preferred walk, which is complete and a valid selection
  pub record IsPreferred (content : Content) : Type 0 where
    pub walk : IsWalk q preferred content
    pub complete : IsComplete q preferred
    pub valid : IsValidSelection q content

  -- a valid selection, whose root has no checksum; where the preferred walk is complete and valid, that walk, and else
  -- one of which the root alone brings all
  pub record IsSelected (content : Content) : Type 0 where
    pub valid : IsValidSelection q content
    pub bare_root : HasBareRoot q content
    pub walk : (w : Content) → IsPreferred w → w ≡ content
    pub needed : IsBrought q content ⊎ IsPreferred content

-- a derivation that is accepted; and no content at all is a valid selection
pub record IsUnsolvable (q : Problem) (steps : List Step) : Type 0 where
  pub accepted : IsAccepted q steps
  pub none : (content : Content) → IsValidSelection q content → ⊥
