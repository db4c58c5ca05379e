use Rattle.std.proofs.Common.{◌≡◌, ℕ, List, drop, true}
use Rattle.std.specs.List.{list_any}
use Rattle.features.specs.Views.{dependency_views}
use Rattle.catalogue.specs.inner.Names.{insert_all}
use Rattle.model.specs.Summary.{same_text}
use Rattle.catalogue.specs.Loads.{needs_of}
use Rattle.catalogue.specs.Runs.{meant_by}
use Rattle.catalogue.proofs.loading.add_needed.Given as goal

-- with what is left, the names so far are all of them; what the candidate before needs is there
abbrev pub invariant-candidates : goal.invariant-candidates
invariant-candidates l =
    (insert_all same_text l.names.keys (needs_of (drop l.candidate-index l.candidates))
    ≡ insert_all same_text l.fn.names.keys (needs_of l.candidates))
    × ((name : List ℕ) → list_any (same_text name) (meant_by (dependency_views l.before)) ≡ true
    → list_any (same_text name) l.names.keys ≡ true)
