-- What a candidate brings, in a loaded index, is what it brings where a selection is held against that index.
use Rattle.std.proofs.Common.{◌≡◌, ℕ, List, Option, Some, None, option_map, refl, sym, ap, ◌∙◌}
use Rattle.std.proofs.lemmas.Option.{none-some, same_Some}
use Rattle.semver.specs.Parse.{Parts}
use Rattle.model.specs.Summary.{nothing}
use Rattle.model.specs.Content.{candidates_of, candidate_at, brings_of}
use Rattle.model.specs.Candidates.{Record, as_candidate}
use Rattle.model.specs.Vertices.{version_of, owner_brings}
use Rattle.manifest.specs.Manifests.{ManifestView}
use Rattle.catalogue.specs.Problems.{problem_in}
use Rattle.catalogue.specs.Stores.{CatalogueView, candidates_at, record_at, rows_by_name, Said, said}
use Rattle.catalogue.proofs.Lookups.{candidate_found}

none_brings : (o : Option Record) → None ≡ option_map said o → nothing ≡ brings_of (option_map as_candidate o)
none_brings None e = refl
none_brings (Some r) e = absurd (none-some (said r) e)

some_brings : (o : Option Record) (s : Said) → Some s ≡ option_map said o
    → s.brings ≡ brings_of (option_map as_candidate o)
some_brings None s e = absurd (none-some s (sym e))
some_brings (Some r) s e = ap (λ (t : Said). t.brings) (same_Some s (said r) e)

-- there is no such candidate, ..
pub none_brought : (c : CatalogueView) (name : List ℕ) (v : Parts)
    → None ≡ option_map said (record_at (candidates_at c name) v)
    → nothing ≡ brings_of (candidate_at (candidates_of (rows_by_name c) name) v)
none_brought c name v e =
    none_brings (record_at (candidates_at c name) v) e ∙ sym (ap brings_of (candidate_found c name v))

pub not_there : (c : CatalogueView) (m : ManifestView) (name : List ℕ) (v : Parts)
    → None ≡ option_map said (record_at (candidates_at c name) v)
    → nothing ≡ owner_brings (problem_in m c) (version_of name v)
not_there c m name v e = none_brought c name v e

-- .. or there is one
pub is_brought : (c : CatalogueView) (name : List ℕ) (v : Parts) (s : Said)
    → Some s ≡ option_map said (record_at (candidates_at c name) v)
    → s.brings ≡ brings_of (candidate_at (candidates_of (rows_by_name c) name) v)
is_brought c name v s e =
    some_brings (record_at (candidates_at c name) v) s e ∙ sym (ap brings_of (candidate_found c name v))

pub is_there : (c : CatalogueView) (m : ManifestView) (name : List ℕ) (v : Parts) (s : Said)
    → Some s ≡ option_map said (record_at (candidates_at c name) v)
    → s.brings ≡ owner_brings (problem_in m c) (version_of name v)
is_there c m name v s e = is_brought c name v s e
