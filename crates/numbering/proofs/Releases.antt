-- Where no version of a name is a pre-release, none of a class of its versions is.
use Rattle.std.proofs.Common.{◌≡◌, ℕ, List, [], ◌∷◌, map, filter, Bool, true, false, ◌&&◌, cond, refl, sym, ap, ◌∙◌}
use Rattle.std.specs.List.{list_all}
use Rattle.semver.specs.Identifiers.{parts_of}
use Rattle.semver.specs.declared.Version.{Version}
use Rattle.model.specs.Selection.{Class}
use Rattle.model.proofs.Same.{both}
use Rattle.manifest.specs.Manifests.{ManifestView}
use Rattle.catalogue.specs.Problems.{problem_in}
use Rattle.catalogue.specs.Stores.{CatalogueView, candidates_at}
use Rattle.lookups.specs.inner.Matching.{is_release}
use Rattle.lookups.specs.inner.Ranges.{is_of}
use Rattle.lookups.proofs.Classed.{versions_are}
use Rattle.lookups.proofs.Versions.{all-map}
use Rattle.numbering.specs.inner.Matched.{name_versions}

module _ {X : Type 0} (t p : X → Bool) where
  kept_with : (x : X) (xs : List X) (b : Bool) → p x ≡ true → list_all p (filter t xs) ≡ true
      → list_all p (cond b (x ∷ filter t xs) (filter t xs)) ≡ true
  kept_with x xs true first others = ap (λ b. b && list_all p (filter t xs)) first ∙ others
  kept_with x xs false first others = others

  all_kept : (xs : List X) → list_all p xs ≡ true → list_all p (filter t xs) ≡ true
  all_kept [] all = refl
  all_kept (x ∷ xs) all =
      kept_with x xs (t x) (both (p x) (list_all p xs) all).0 (all_kept xs (both (p x) (list_all p xs) all).1)

pub class_releases : (m : ManifestView) (c : CatalogueView) (name : List ℕ) (k : Class) (vs : List Version)
    → map parts_of vs ≡ filter (is_of k) (map (λ r. r.version) (candidates_at c name))
    → list_all is_release (name_versions (problem_in m c) name) ≡ true
    → list_all (λ w. is_release (parts_of w)) vs ≡ true
class_releases m c name k vs e all =
    sym (all-map is_release parts_of vs) ∙ ap (list_all is_release) e
    ∙ all_kept (is_of k) is_release (map (λ r. r.version) (candidates_at c name))
    (ap (list_all is_release) (versions_are m c name) ∙ all)
