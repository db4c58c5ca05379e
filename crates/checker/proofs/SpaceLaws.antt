-- The states of a vertex, read from a manifest and a loaded index.
use Rattle.std.proofs.Common.{◌≡◌, ℕ, List, map, filter, true, ◌&&◌, Some, slice_get, sym, ap, ◌∙◌}
use Rattle.std.specs.List.{list_all}
use Rattle.semver.specs.Identifiers.{parts_of}
use Rattle.semver.specs.declared.Version.{Version}
use Rattle.model.specs.Axioms.{at, is_full}
use Rattle.model.specs.Candidates.{Record}
use Rattle.model.specs.Content.{Candidate}
use Rattle.model.specs.Summary.{Dependency}
use Rattle.model.specs.Selection.{Class}
use Rattle.model.specs.Vertices.{Owner, pkg, dep, State, absent, version, in_class, has_state, owner_brings}
use Rattle.model.specs.Vertices.{class_candidates, dep_classes, dep_space}
use Rattle.manifest.specs.Manifests.{ManifestView}
use Rattle.catalogue.specs.Problems.{problem_in}
use Rattle.catalogue.specs.Stores.{CatalogueView, candidates_at}
use Rattle.lookups.specs.inner.Ranges.{is_of}
use Rattle.lookups.proofs.Classed.{all_classed}
use Rattle.lookups.proofs.SetLaws.{all_map}

module _ (m : ManifestView) (c : CatalogueView) where
  pub classed : (ss : List State) (name : List ℕ) (k : Class) (vs : List Version) → map parts_of vs
      ≡ filter (is_of k) (map (λ (r : Record). r.version) (candidates_at c name)) → has_state ss absent ≡ true
      → list_all (λ v. has_state ss (version (parts_of v))) vs ≡ is_full (problem_in m c) (at (pkg name k) ss)
  classed ss name k vs same here =
      all_classed m c name k vs same (λ v. has_state ss (version v))
      ∙ sym (all_map (λ (e : Candidate). version e.version) (has_state ss) (class_candidates (problem_in m c) name k))
      ∙ ap (λ b. b && list_all (has_state ss)
      (map (λ (e : Candidate). version e.version) (class_candidates (problem_in m c) name k))) (sym here)

  pub classes_all_in : (ss : List State) (o : Owner) (i : ℕ) (d : Dependency)
      → Some d ≡ slice_get (owner_brings (problem_in m c) o).dependencies i → has_state ss absent ≡ true
      → list_all (has_state ss) (map in_class (dep_classes (problem_in m c) d))
      ≡ is_full (problem_in m c) (at (dep o i) ss)
  classes_all_in ss o i d is here =
      ap (λ b. b && list_all (has_state ss) (map in_class (dep_classes (problem_in m c) d))) (sym here)
      ∙ ap (λ x. list_all (has_state ss) (dep_space (problem_in m c) x)) is
