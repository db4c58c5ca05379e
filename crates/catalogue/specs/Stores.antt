-- What a loaded index holds: for each name that was asked for its candidates, oldest first, each with its rank in the
-- order of preference (Cargo book, "Registry Index").
use Rattle.std.specs.Prelude.{◌≡◌, ℕ, zero, suc, Bool, true, false, List, [], ◌∷◌, ◌++◌, Option, Some, None, map}
use Rattle.std.specs.Prelude.{filter, length, slice_get, option_map, ◌≢◌, ◌≤◌, if◌then◌else◌, unwrap_or}
use Rattle.std.specs.List.{All, AllPairs, zip}
use Rattle.semver.specs.Parse.{Parts}
use Rattle.model.specs.Candidates.{RustVersion, Record, fits, is_at_most, IsOlder, as_candidate}
use Rattle.catalogue.specs.declared.candidate.Rank.{Rank}
use Rattle.catalogue.specs.declared.candidate.Rank.TheVariants.{Locked, Fits, Rest}
use Rattle.semver.specs.Identifiers.{parts_of}
use Rattle.semver.specs.Grammar.{IsValid}
use Rattle.semver.specs.declared.Version.{Version}
use Rattle.model.specs.Summary.{KnowsFeatures, Entry, feature, dependency, dependency_feature, weak_feature, same_text}
use Rattle.std.proofs.Props.{props}
use Rattle.features.specs.inner.Valid.{BringsValid, IsValidEntry, IsPackageName}
use Rattle.features.specs.Views.{summary_view}
use Rattle.classes.specs.Classes.{rust_version_view}
use Rattle.catalogue.specs.declared.candidate.Candidate.{Candidate}
use Rattle.model.specs.Content.{same_version}
use Rattle.index_reader.specs.Files.{SkipView}
use Rattle.model.specs.Summary as summary
use Rattle.model.specs.Content as model

-- ---- Where a candidate stands in the order of preference (Cargo book, "Dependency Resolution", yanked versions and
-- "Rust version").

abbrev pub same_rank : Rank → Rank → Bool
same_rank Locked Locked = true
same_rank Fits Fits = true
same_rank Rest Rest = true
same_rank _ _ = false

-- whether what a record needs fits the Rust version to go by
abbrev pub fits_given : Option RustVersion → Option RustVersion → Bool
fits_given None needed = true
fits_given (Some rust) needed = is_at_most needed rust

-- the rank of a record, with the test for those that are locked and the Rust version to go by
abbrev pub rank_of : (Parts → Bool) → Option RustVersion → Record → Rank
rank_of locked rust r = if locked r.version then Locked else if fits rust r then Fits else Rest

-- a candidate with its rank
abbrev pub Ranked : Type 0
Ranked = Record × Rank

-- each has the rank that this test and this Rust version give it
abbrev pub AreRanked : (Parts → Bool) → Option RustVersion → List Ranked → Type 0
AreRanked locked rust cs = All (λ c. c.1 ≡ rank_of locked rust c.0) cs

abbrev pub records : List Ranked → List Record
records cs = map (λ c. c.0) cs

-- the places below n, the last first
abbrev pub places_down : ℕ → List ℕ
places_down zero = []
places_down (suc n) = n ∷ places_down n

abbrev pub is_ranked : Rank → Option Rank → Bool
is_ranked rank None = false
is_ranked rank (Some other) = same_rank other rank

-- the places of a rank, the last first
abbrev pub places_of : Rank → List Rank → List ℕ
places_of rank ranks = filter (λ i. is_ranked rank (slice_get ranks i)) (places_down (length ranks))

-- the places by rank, in each rank the last first
abbrev pub places_by_rank : List Rank → List ℕ
places_by_rank ranks = places_of Locked ranks ++ (places_of Fits ranks ++ places_of Rest ranks)

-- ---- What candidates stand for, without where they lie in memory.

-- what the index says of a version
abbrev pub record_of : Version → Candidate → Record
record_of v c = record {
  version = parts_of v;
  checksum = c.checksum;
  yanked = c.yanked;
  rust_version = option_map rust_version_view c.rust_version;
  brings = summary_view c.brings;
}

abbrev pub ranked_of : Version × Candidate → Ranked
ranked_of p = (record_of p.0 p.1, p.1.rank)

-- versions, and at the same places what the index says of each
abbrev pub ranked_view : List Version → List Candidate → List Ranked
ranked_view versions cs = map ranked_of (zip versions cs)

-- what the index says of a version, without the version
pub record Said : Type 0 where
  pub checksum : List ℕ
  pub yanked : Bool
  pub rust_version : Option RustVersion
  pub brings : summary.Summary

abbrev pub said : Record → Said
said r = record { checksum = r.checksum; yanked = r.yanked; rust_version = r.rust_version; brings = r.brings }

abbrev pub said_by : Candidate → Said
said_by c = record {
  checksum = c.checksum;
  yanked = c.yanked;
  rust_version = option_map rust_version_view c.rust_version;
  brings = summary_view c.brings;
}

-- oldest first, no two of equal precedence
abbrev pub AreRising : List Ranked → Type 0
AreRising cs = AllPairs IsOlder (records cs)

-- how many candidates a name has at most: as many as its file has lines
abbrev pub most_candidates : ℕ
most_candidates = 65535

-- in the feature table of each, an entry `g` names a feature of the same table
abbrev pub KnowFeatures : List Record → Type 0
KnowFeatures rs = All (λ r. KnowsFeatures (r.brings).features) rs

-- the same of candidates with their ranks
abbrev pub AreKnown : List Ranked → Type 0
AreKnown cs = KnowFeatures (records cs)

-- each brings names that are names, and no more dependencies than there are numbers of 32 bits
abbrev pub BringValid : List Record → Type 0
BringValid rs = All (λ r. BringsValid r.brings) rs

-- for proofs: that these are propositions
valid-entry-prop : (e : Entry) → IsProp (IsValidEntry e)
valid-entry-prop (feature g) = Prim.hlevel props
valid-entry-prop (dependency d) = Prim.hlevel props
valid-entry-prop (dependency_feature d g) = Prim.hlevel props
valid-entry-prop (weak_feature d g) = Prim.hlevel props

pub bring-valid-prop : (rs : List Record) → IsProp (BringValid rs)
bring-valid-prop rs = Prim.hlevel (props, valid-entry-prop)

-- each version is what its text reads as
abbrev pub AreRead : List Version → Type 0
AreRead versions = All (λ v. IsValid (parts_of v)) versions

-- ---- The loaded index.

-- a name and its candidates
abbrev pub Row : Type 0
Row = List ℕ × List Ranked

-- the rows are in the order in which the names were asked for
pub record CatalogueView : Type 0 where
  pub rows : List Row
  pub skips : List SkipView
  pub source : List ℕ

abbrev pub row_at : List Row → List ℕ → Option (List Ranked)
row_at [] name = None
row_at (row ∷ rows) name = if same_text name row.0 then Some row.1 else row_at rows name

-- the candidates of a name: none where it wasn't asked for
abbrev pub ranked_at : CatalogueView → List ℕ → List Ranked
ranked_at c name = unwrap_or (row_at c.rows name) []

abbrev pub candidates_at : CatalogueView → List ℕ → List Record
candidates_at c name = records (ranked_at c name)

-- the record of a version, by its whole text
abbrev pub record_at : List Record → Parts → Option Record
record_at [] version = None
record_at (r ∷ rs) version = if same_version version r.version then Some r else record_at rs version

-- the candidates as a selection is held against them
abbrev pub rows_by_name : CatalogueView → List (List ℕ × List model.Candidate)
rows_by_name c = map (λ row. (row.0, map as_candidate (records row.1))) c.rows

-- each name once, the versions of each rising by precedence, and not too many, each with a feature table that knows its
-- features; and each name, version and summary is a valid one
pub record IsStore (c : CatalogueView) : Type 0 where
  pub names_distinct : AllPairs (λ a b. a.0 ≢ b.0) c.rows
  pub versions_rise : All (λ row. AreRising row.1) c.rows
  pub versions_few : All (λ row. length row.1 ≤ most_candidates) c.rows
  pub features_known : All (λ row. AreKnown row.1) c.rows
  pub names_valid : All (λ row. IsPackageName row.0) c.rows
  pub versions_valid : All (λ row. All (λ r. IsValid r.version) (records row.1)) c.rows
  pub brings_valid : All (λ row. BringValid (records row.1)) c.rows
