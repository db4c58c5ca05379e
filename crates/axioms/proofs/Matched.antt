-- The versions of a class that a requirement matches, and those that it doesn't, are those of the candidates there.
use Rattle.std.proofs.Common.{◌≡◌, not, List, map, filter}
use Rattle.semver.specs.EvalViews.{matches_views}
use Rattle.semver.specs.Identifiers.{parts_of}
use Rattle.semver.specs.declared.Version.{Version}
use Rattle.model.specs.Axioms.{matched, versions_that}
use Rattle.model.specs.Summary.{Dependency}
use Rattle.model.specs.Selection.{Class}
use Rattle.manifest.specs.Manifests.{ManifestView}
use Rattle.catalogue.specs.Problems.{problem_in}
use Rattle.catalogue.specs.Stores.{CatalogueView, candidates_at}
use Rattle.lookups.specs.inner.Ranges.{is_of, versions_with}
use Rattle.lookups.proofs.Classed.{with_classed}
use Rattle.lookups.specs.inner.Matching.{is_left}

pub left_is : (m : ManifestView) (c : CatalogueView) (d : Dependency) (k : Class) (vs : List Version)
    → map parts_of vs ≡ filter (is_of k) (map (λ r. r.version) (candidates_at c d.real_name))
    → versions_with (is_left d.requirement) (map parts_of vs)
    ≡ versions_that (problem_in m c) (λ e. not (matched d e)) d.real_name k
unfolding is_left
left_is m c d k vs e = with_classed m c d.real_name k vs e (λ v. not (matches_views d.requirement v))

pub taken_is : (m : ManifestView) (c : CatalogueView) (d : Dependency) (k : Class) (vs : List Version)
    → map parts_of vs ≡ filter (is_of k) (map (λ r. r.version) (candidates_at c d.real_name))
    → versions_with (matches_views d.requirement) (map parts_of vs)
    ≡ versions_that (problem_in m c) (matched d) d.real_name k
taken_is m c d k vs e = with_classed m c d.real_name k vs e (matches_views d.requirement)
