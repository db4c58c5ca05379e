-- The problem of a run is a catalogue, and so is that of a loaded index, which is the run's.
use Rattle.std.proofs.Common.{◌≡◌, ◌≢◌, ℕ, List, [], ◌∷◌, map, filter, Option, refl, ap, ap₂, ◌∙◌}
use Rattle.std.specs.List.{All, AllPairs}
use Rattle.std.specs.declared.cmp.Ordering.TheVariants.{Less}
use Rattle.std.proofs.lemmas.List.Kept.{AllPairs-filter}
use Rattle.std.proofs.lemmas.List.Elements.{All-contains, All-map}
use Rattle.model.specs.Summary.{KnowsFeatures}
use Rattle.model.specs.Content.{Candidate, Content, Problem}
use Rattle.model.specs.Order.{precedence, IsCatalogue}
use Rattle.model.specs.Candidates.{Record, RustVersion, IsApart, as_candidate, is_locked, may_be_locked}
use Rattle.model.proofs.Candidates.{oldest_first-rises}
use Rattle.model.proofs.Mapped.{pairs_map}
use Rattle.model.proofs.Members.{all_in}
use Rattle.manifest.specs.Manifests.{ManifestView, root_asks}
use Rattle.catalogue.specs.Runs.{Asked, Calls, records_of, candidates_in, AreNext}
use Rattle.catalogue.specs.Loads.{IsLoaded, store_of, ranked_in}
use Rattle.catalogue.specs.Problems.{IsProblemOfRun, candidates_by_name, problem_in, problem_of}
use Rattle.catalogue.specs.Stores.{records, CatalogueView, Row, IsStore, AreRising, AreKnown}
use Rattle.catalogue.proofs.Chosen.{records-ranked}
use Rattle.catalogue.proofs.LawsCandidates.{in_candidates}
use Rattle.catalogue.proofs.LawsLists.{pairs_mapped}
use Rattle.catalogue.proofs.LawsNames.{asked-distinct}
use Rattle.catalogue.proofs.LawsRecords.{records-sound}

module _ (old : Content) (source : List ℕ) where
  abbrev row_of : Asked → List ℕ × List Candidate
  row_of a = (a.0, map as_candidate (candidates_in old source a))

  rise : (a : Asked)
      → AllPairs (λ c e. precedence c.version e.version ≡ Less) (map as_candidate (candidates_in old source a))
  rise a =
      let test = may_be_locked (is_locked old source a.0) in
      pairs_map as_candidate (λ c e. precedence c.version e.version ≡ Less) (candidates_in old source a)
      (oldest_first-rises (filter test (records_of a))
      (AllPairs-filter IsApart test (records_of a) (records-sound a).apart))

  known : (a : Asked) → All (λ c. KnowsFeatures c.brings.features) (map as_candidate (candidates_in old source a))
  known a =
      let Knows = λ (r : Record). KnowsFeatures (r.brings).features in
      All-map (λ c. KnowsFeatures c.brings.features) as_candidate (candidates_in old source a)
      (all_in Knows (candidates_in old source a)
      (λ r c. All-contains Knows (records_of a) r (records-sound a).known (in_candidates old source a r c).0))

  pub run-catalogue : (manifest : ManifestView) (asked : List Asked)
      → AreNext old source manifest.brings.dependencies [] asked → IsCatalogue (problem_of manifest old source asked)
  run-catalogue manifest asked in_turn = record {
    names_distinct = pairs_map row_of (λ a b. a.0 ≢ b.0) asked
        (pairs_mapped (λ (a : Asked). a.0)
        (λ x y. x ≢ y) asked (asked-distinct old source manifest.brings.dependencies asked in_turn));
    versions_rise = All-map (λ row. AllPairs (λ c e. precedence c.version e.version ≡ Less) row.1)
        row_of asked (all_in _ asked (λ a c. rise a));
    features_known = All-map (λ row. All (λ c. KnowsFeatures c.brings.features) row.1)
        row_of asked (all_in _ asked (λ a c. known a));
  }

-- ---- a loaded index

abbrev by_name : Row → List ℕ × List Candidate
by_name row = (row.0, map as_candidate (records row.1))

pub store-catalogue : (manifest : ManifestView) (c : CatalogueView) → IsStore c → IsCatalogue (problem_in manifest c)
store-catalogue manifest c s = record {
  names_distinct = pairs_map by_name (λ a b. a.0 ≢ b.0) c.rows s.names_distinct;
  versions_rise = All-map (λ row. AllPairs (λ c e. precedence c.version e.version ≡ Less) row.1) by_name c.rows
      (all_in _ c.rows (λ row i. pairs_map as_candidate (λ c e. precedence c.version e.version ≡ Less) (records row.1)
      (All-contains (λ (row : Row). AreRising row.1) c.rows row s.versions_rise i)));
  features_known = All-map (λ row. All (λ c. KnowsFeatures c.brings.features) row.1) by_name c.rows
      (all_in _ c.rows (λ row i. All-map (λ c. KnowsFeatures c.brings.features) as_candidate (records row.1)
      (All-contains (λ (row : Row). AreKnown row.1) c.rows row s.features_known i)));
}

module _ (old : Content) (source : List ℕ) (rust : Option RustVersion) where
  rows-asked : (asked : List Asked) → map by_name (map (λ (a : Asked). (a.0, ranked_in old source rust a)) asked)
      ≡ candidates_by_name old source asked
  rows-asked [] = refl
  rows-asked (a ∷ later) = ap₂ (λ rs rows. (a.0, map as_candidate rs) ∷ rows)
      (records-ranked (is_locked old source a.0) rust (candidates_in old source a)) (rows-asked later)

  -- its problem is the run's
  pub problem-asked : (manifest : ManifestView) (asked : List Asked) → problem_in manifest
      (store_of old source rust manifest.brings.dependencies asked) ≡ problem_of manifest old source asked
  problem-asked manifest asked = ap (λ cs. let q : Problem = record {
    name = manifest.name;
    version = manifest.version;
    brings = manifest.brings;
    root_asks = root_asks manifest.brings.features;
    source = source;
    candidates = cs;
  } in q) (rows-asked asked)

  pub problem-loaded : {S : Type 0} (calls : Calls S) (before : S) (manifest : ManifestView)
      (index : CatalogueView) (after : S)
      → IsLoaded old source rust manifest.brings.dependencies calls before index after
      → IsProblemOfRun calls before manifest old source (problem_in manifest index) after
  problem-loaded calls before manifest index after loaded = record {
    asked = loaded.asked;
    run = record { chain = loaded.so_far.chain; in_turn = loaded.so_far.in_turn; ended = loaded.ended };
    is = ap (problem_in manifest) loaded.is ∙ problem-asked manifest loaded.asked;
  }
