-- Tests of the versions of a name in a class are tests of its candidates there.
use Rattle.std.proofs.Common.{◌≡◌, Bool, true, false, cond, List, [], ◌∷◌, map, filter, refl, sym, ap, ◌∙◌}
use Rattle.std.specs.Prelude.{ℕ}
use Rattle.std.specs.List.{list_any, list_all}
use Rattle.semver.specs.Parse.{Parts}
use Rattle.semver.specs.Identifiers.{parts_of}
use Rattle.semver.specs.declared.Version.{Version}
use Rattle.model.specs.Axioms.{versions_that}
use Rattle.model.specs.Candidates.{Record, as_candidate}
use Rattle.model.specs.Content.{Candidate, candidates_of}
use Rattle.model.specs.Selection.{Class}
use Rattle.model.specs.Vertices.{class_candidates, in_that_class, version}
use Rattle.model.proofs.Mapped.{any-map}
use Rattle.manifest.specs.Manifests.{ManifestView}
use Rattle.catalogue.specs.Problems.{problem_in}
use Rattle.catalogue.specs.Stores.{CatalogueView, candidates_at}
use Rattle.lookups.specs.inner.Ranges.{is_of, versions_with}
use Rattle.catalogue.proofs.Lookups.{candidates_are}
use Rattle.lookups.proofs.Versions.{all-map}

in_class : (k : Class) (rs : List Record) → filter (is_of k) (map (λ r. r.version) rs)
    ≡ map (λ (e : Candidate). e.version) (filter (in_that_class k) (map as_candidate rs))
in_class k [] = refl
in_class k (r ∷ rs) = by (is_of k r.version) (in_class k rs)
  where
    by : (b : Bool) → filter (is_of k) (map (λ r. r.version) rs)
        ≡ map (λ (e : Candidate). e.version) (filter (in_that_class k) (map as_candidate rs))
        → cond b (r.version ∷ filter (is_of k) (map (λ r. r.version) rs)) (filter (is_of k) (map (λ r. r.version) rs))
        ≡ map (λ (e : Candidate). e.version) (cond b (as_candidate r ∷ filter (in_that_class k) (map as_candidate rs))
        (filter (in_that_class k) (map as_candidate rs)))
    by true e = ap (λ vs. r.version ∷ vs) e
    by false e = e

records_in_class : (k : Class) (rs : List Record) → filter (in_that_class k) (map as_candidate rs)
    ≡ map as_candidate (filter (λ (r : Record). is_of k r.version) rs)
records_in_class k [] = refl
records_in_class k (r ∷ rs) = by (is_of k r.version) (records_in_class k rs)
  where
    by : (b : Bool) → filter (in_that_class k) (map as_candidate rs)
        ≡ map as_candidate (filter (λ (r : Record). is_of k r.version) rs)
        → cond b (as_candidate r ∷ filter (in_that_class k) (map as_candidate rs))
        (filter (in_that_class k) (map as_candidate rs))
        ≡ map as_candidate (cond b (r ∷ filter (λ (r : Record). is_of k r.version) rs)
        (filter (λ (r : Record). is_of k r.version) rs))
    by true e = ap (λ cs. as_candidate r ∷ cs) e
    by false e = e

taken_out : (t : Parts → Bool) (cs : List Candidate) → filter t (map (λ (e : Candidate). e.version) cs)
    ≡ map (λ (e : Candidate). e.version) (filter (λ (e : Candidate). t e.version) cs)
taken_out t [] = refl
taken_out t (e ∷ cs) = by (t e.version) (taken_out t cs)
  where
    by : (b : Bool) → filter t (map (λ (e : Candidate). e.version) cs)
        ≡ map (λ (e : Candidate). e.version) (filter (λ (e : Candidate). t e.version) cs)
        → cond b (e.version ∷ filter t (map (λ (e : Candidate). e.version) cs))
        (filter t (map (λ (e : Candidate). e.version) cs))
        ≡ map (λ (e : Candidate). e.version)
        (cond b (e ∷ filter (λ (e : Candidate). t e.version) cs) (filter (λ (e : Candidate). t e.version) cs))
    by true h = ap (λ vs. e.version ∷ vs) h
    by false h = h

pub named : (cs : List Candidate)
    → map version (map (λ (e : Candidate). e.version) cs) ≡ map (λ (e : Candidate). version e.version) cs
named [] = refl
named (e ∷ cs) = ap (λ ss. version e.version ∷ ss) (named cs)

pub records_named : (rs : List Record)
    → map (λ r. r.version) rs ≡ map (λ (e : Candidate). e.version) (map as_candidate rs)
records_named [] = refl
records_named (r ∷ rs) = ap (λ vs. r.version ∷ vs) (records_named rs)

-- the versions of a name are those of its candidates
pub versions_are : (m : ManifestView) (c : CatalogueView) (name : List ℕ) → map (λ r. r.version) (candidates_at c name)
    ≡ map (λ (e : Candidate). e.version) (candidates_of (problem_in m c).candidates name)
versions_are m c name =
    records_named (candidates_at c name) ∙ ap (map (λ (e : Candidate). e.version)) (sym (candidates_are c name))

module _ (m : ManifestView) (c : CatalogueView) (name : List ℕ) (k : Class) where
  abbrev those : List Candidate
  those = class_candidates (problem_in m c) name k

  -- the versions of a class are those of its candidates
  pub classed_are : filter (is_of k) (map (λ r. r.version) (candidates_at c name))
      ≡ map (λ (e : Candidate). e.version) those
  classed_are = in_class k (candidates_at c name)
      ∙ ap (λ cs. map (λ (e : Candidate). e.version) (filter (in_that_class k) cs)) (sym (candidates_are c name))

  pub class_is_of : those ≡ map as_candidate (filter (λ (r : Record). is_of k r.version) (candidates_at c name))
  class_is_of = ap (filter (in_that_class k)) (candidates_are c name) ∙ records_in_class k (candidates_at c name)

  -- the states of those that pass
  pub with_those : (f : Parts → Bool) → versions_with f (map (λ (e : Candidate). e.version) those)
      ≡ versions_that (problem_in m c) (λ (e : Candidate). f e.version) name k
  with_those f = ap (map version) (taken_out f those) ∙ named (filter (λ (e : Candidate). f e.version) those)

  module _ (vs : List Version)
      (is : map parts_of vs ≡ filter (is_of k) (map (λ r. r.version) (candidates_at c name))) where
    pub any_classed : (f : Parts → Bool)
        → list_any (λ v. f (parts_of v)) vs ≡ list_any (λ (e : Candidate). f e.version) those
    any_classed f = sym (any-map f parts_of vs) ∙ ap (list_any f) (is ∙ classed_are)
        ∙ any-map f (λ (e : Candidate). e.version) those

    pub all_classed : (f : Parts → Bool)
        → list_all (λ v. f (parts_of v)) vs ≡ list_all (λ (e : Candidate). f e.version) those
    all_classed f = sym (all-map f parts_of vs) ∙ ap (list_all f) (is ∙ classed_are)
        ∙ all-map f (λ (e : Candidate). e.version) those

    pub with_classed : (f : Parts → Bool)
        → versions_with f (map parts_of vs) ≡ versions_that (problem_in m c) (λ (e : Candidate). f e.version) name k
    with_classed f = ap (versions_with f) (is ∙ classed_are) ∙ with_those f
