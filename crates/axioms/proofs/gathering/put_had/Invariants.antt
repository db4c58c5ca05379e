use Rattle.std.proofs.Common.{◌≡◌, ◌||◌, ◌&&◌, ℕ, List, drop}
use Rattle.std.specs.List.{list_any}
use Rattle.model.specs.Content.{Candidate, candidates_of}
use Rattle.model.specs.Summary.{has_feature, same_text}
use Rattle.catalogue.specs.Stores.{rows_by_name}
use Rattle.axioms.specs.inner.Gathered.{is_had}
use Rattle.axioms.specs.inner.Pairs.{has_pair}
use Rattle.axioms.proofs.gathering.put_had.Given as goal

-- with the features of the candidates that are left, those of all are there
abbrev pub invariant-places : goal.invariant-places
invariant-places l = (n f : List ℕ) → (has_pair l.known n f || (same_text n l.name && list_any (λ (e : Candidate).
    has_feature e.brings.features f) (drop l.place (candidates_of (rows_by_name l.catalogue) l.name))))
    ≡ (has_pair l.fn.known n f || is_had l.catalogue l.name n f)
