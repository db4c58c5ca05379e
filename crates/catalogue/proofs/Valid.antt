-- Over a loaded index all that a manifest's problem names is valid.
use Rattle.std.proofs.Common.{List, [], ◌∷◌, ℕ, map, flat_map, sym, subst}
use Rattle.std.specs.List.{All}
use Rattle.std.proofs.lemmas.List.Concat.{flat_map-cons}
use Rattle.std.proofs.lemmas.List.Elements.{All-append, All-cons, All-contains, All-head, All-map, All-nil, All-tail}
use Rattle.semver.specs.Grammar.{IsValid}
use Rattle.model.specs.Candidates.{Record, as_candidate}
use Rattle.model.specs.Content.{Candidate}
use Rattle.model.specs.Summary.{Entry, feature, dependency, dependency_feature, weak_feature, Table}
use Rattle.model.proofs.Members.{all_in}
use Rattle.features.specs.inner.Valid.{IsFeatureName, IsPackageName, IsValidEntry, IsValidRow, BringsValid}
use Rattle.vertices.specs.inner.Valid.{HasValidParts, IsValidRecord}
use Rattle.manifest.specs.Manifests.{ManifestView, asked_by, root_asks}
use Rattle.catalogue.specs.Problems.{problem_in}
use Rattle.catalogue.specs.Stores.{records, CatalogueView, IsStore, Row, BringValid}

-- ---- what entries of the root ask for

abbrev IsAsked : List ℕ × List ℕ → Type 0
IsAsked p = IsFeatureName p.1

entry_asks : (e : Entry) → IsValidEntry e → All IsAsked (asked_by e)
entry_asks (feature g) h = All-nil IsAsked
entry_asks (dependency d) h = All-nil IsAsked
entry_asks (dependency_feature d g) h = All-cons IsAsked (d, g) [] h (All-nil IsAsked)
entry_asks (weak_feature d g) h = All-cons IsAsked (d, g) [] h (All-nil IsAsked)

entries_ask : (es : List Entry) → All IsValidEntry es → All IsAsked (flat_map asked_by es)
entries_ask [] h = All-nil IsAsked
entries_ask (e ∷ es) h = subst (All IsAsked) (sym (flat_map-cons asked_by e es))
    (All-append IsAsked (asked_by e) (flat_map asked_by es) (entry_asks e (All-head IsValidEntry e es h))
    (entries_ask es (All-tail IsValidEntry e es h)))

rows_ask : (table : Table) → All IsValidRow table → All IsAsked (root_asks table)
rows_ask [] h = All-nil IsAsked
rows_ask (row ∷ rows) h =
    subst (All IsAsked) (sym (flat_map-cons (λ (r : List ℕ × List Entry). flat_map asked_by r.1) row rows))
    (All-append IsAsked (flat_map asked_by row.1) (root_asks rows)
    (entries_ask row.1 (All-head IsValidRow row rows h).1) (rows_ask rows (All-tail IsValidRow row rows h)))

-- ---- candidates

valid_records : (rs : List Record) → All (λ (r : Record). IsValid r.version) rs → BringValid rs
    → All IsValidRecord (map as_candidate rs)
valid_records rs versions brings = All-map IsValidRecord as_candidate rs
    (all_in (λ (r : Record). IsValidRecord (as_candidate r)) rs (λ r i. record {
      version = All-contains (λ (r : Record). IsValid r.version) rs r versions i;
      brings = All-contains (λ (r : Record). BringsValid r.brings) rs r brings i;
    }))

abbrev by_name : Row → List ℕ × List Candidate
by_name row = (row.0, map as_candidate (records row.1))

pub valid_parts : (m : ManifestView) (c : CatalogueView) → BringsValid m.brings → IsStore c
    → HasValidParts (problem_in m c)
valid_parts m c brings store = record {
  brings = brings;
  root_asks = rows_ask m.brings.features brings.features;
  candidates = All-map (λ (row : List ℕ × List Candidate). IsPackageName row.0 × All IsValidRecord row.1) by_name c.rows
      (all_in (λ (row : Row). IsPackageName row.0 × All IsValidRecord (map as_candidate (records row.1))) c.rows
      (λ row i. (
        All-contains (λ (row : Row). IsPackageName row.0) c.rows row store.names_valid i,
        valid_records (records row.1)
            (All-contains (λ (row : Row). All (λ (r : Record). IsValid r.version) (records row.1)) c.rows row
            store.versions_valid i)
            (All-contains (λ (row : Row). BringValid (records row.1)) c.rows row store.brings_valid i),
      )));
}
