-- What is held against the terms that are looked up.
use Rattle.model.specs.Content.{Problem}
use Rattle.manifest.specs.Manifests.{ManifestView}
use Rattle.catalogue.specs.Problems.{problem_in}
use Rattle.catalogue.specs.Stores.{CatalogueView}
use Rattle.axioms.specs.declared.gathered.Gathered.{Gathered}

abbrev pub manifest_of : Gathered → ManifestView
manifest_of g = g.problem.manifest.now

abbrev pub catalogue_of : Gathered → CatalogueView
catalogue_of g = g.problem.catalogue.now

abbrev pub problem_of : Gathered → Problem
problem_of g = problem_in (manifest_of g) (catalogue_of g)
