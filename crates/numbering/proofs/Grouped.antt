-- The classes of a name's versions that a requirement matches are those that a dependency may lead to.
use Rattle.std.proofs.Common.{◌≡◌, List, map, ap, ◌∙◌}
use Rattle.std.specs.Ordering.{is_gt}
use Rattle.std.specs.declared.cmp.Ordering.TheVariants.{Less}
use Rattle.semver.specs.Eval.{precedence_cmp}
use Rattle.semver.specs.Identifiers.{parts_of}
use Rattle.semver.specs.declared.Version.{Version}
use Rattle.model.specs.Summary.{Dependency}
use Rattle.model.specs.Order.{precedence, IsCatalogue}
use Rattle.model.specs.Vertices.{dep_classes}
use Rattle.model.proofs.Gathered.{pairs_map}
use Rattle.manifest.specs.Manifests.{ManifestView}
use Rattle.catalogue.specs.Problems.{problem_in}
use Rattle.catalogue.specs.Stores.{CatalogueView, candidates_at}
use Rattle.classes.specs.Groups.{IsOldestFirst, classes_matched}
use Rattle.lookups.specs.inner.Ranges.{AreRising}
use Rattle.numbering.proofs.ClassOrder.{matched_classes}
use Rattle.lookups.proofs.Classed.{versions_are}
use Rattle.numbering.proofs.Distinct.{of_rows}

older : (v w : Version) → precedence_cmp v w ≡ Less
    → is_gt (precedence (parts_of v) (parts_of w)) ≡ Rattle.std.specs.Prelude.false
older v w less = ap is_gt less

pub oldest_first : (vs : List Version) → AreRising vs → IsOldestFirst (map parts_of vs)
oldest_first vs rising = pairs_map parts_of (λ v w. precedence_cmp v w ≡ Less)
    (λ v w. is_gt (precedence v w) ≡ Rattle.std.specs.Prelude.false) older vs rising

-- the classes of a name's versions that are matched
pub classes_are : (m : ManifestView) (c : CatalogueView) (d : Dependency) (vs : List Version)
    → IsCatalogue (problem_in m c) → map parts_of vs ≡ map (λ r. r.version) (candidates_at c d.real_name)
    → classes_matched d.requirement (map parts_of vs) ≡ dep_classes (problem_in m c) d
classes_are m c d vs known are =
    ap (classes_matched d.requirement) (are ∙ versions_are m c d.real_name)
    ∙ matched_classes (problem_in m c) d (of_rows (problem_in m c).candidates known.versions_rise d.real_name)
