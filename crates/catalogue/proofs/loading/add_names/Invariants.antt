use Rattle.std.proofs.Common.{◌≡◌, ℕ, List, drop, true}
use Rattle.std.specs.List.{list_any}
use Rattle.catalogue.specs.inner.Names.{insert_all}
use Rattle.model.specs.Summary.{same_text}
use Rattle.features.specs.Views.{dependency_views}
use Rattle.catalogue.specs.Runs.{meant_by}
use Rattle.catalogue.proofs.loading.add_names.Given as goal

-- with the names that are left, the names so far are all of them; what the candidate before needs is there
abbrev pub invariant-dependencies : goal.invariant-dependencies
invariant-dependencies l =
    (insert_all same_text l.names.keys (meant_by (dependency_views (drop l.dependency-index l.dependencies)))
    ≡ insert_all same_text l.fn.names.keys (meant_by (dependency_views l.dependencies)))
    × ((name : List ℕ) → list_any (same_text name) (meant_by (dependency_views l.before)) ≡ true
    → list_any (same_text name) l.names.keys ≡ true)
