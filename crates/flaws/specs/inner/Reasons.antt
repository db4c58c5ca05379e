-- Why a package of a lock is no candidate, in a loaded index (Cargo book, "Cargo.toml vs Cargo.lock" and "Registry
-- Index"): the model's `candidate_of` asks for just this.
use Rattle.std.specs.Prelude.{ℕ, List, if◌then◌else◌, Option, Some, None}
use Rattle.model.specs.Candidates.{Record}
use Rattle.model.specs.Content.{Package}
use Rattle.model.specs.Summary.{same_text}
use Rattle.catalogue.specs.Stores.{CatalogueView, candidates_at, record_at}
use Rattle.flaws.specs.declared.no_candidate.NoCandidate.{NoCandidate}
use Rattle.flaws.specs.declared.no_candidate.NoCandidate.TheVariants.{NoSource, OtherSource, NoVersion, NoChecksum}
use Rattle.flaws.specs.declared.no_candidate.NoCandidate.TheVariants.{OtherChecksum}

-- by the locked checksum, and that of the index
abbrev pub why_sum : Option (List ℕ) → List ℕ → Option NoCandidate
why_sum None checksum = Some NoChecksum
why_sum (Some sum) checksum = if same_text sum checksum then None else Some OtherChecksum

-- by the candidate of its name and version, if there is one
abbrev pub why_record : Option Record → Option (List ℕ) → Option NoCandidate
why_record None sum = Some NoVersion
why_record (Some r) sum = why_sum sum r.checksum

-- by its source
abbrev pub why_source : CatalogueView → Package → Option (List ℕ) → Option NoCandidate
why_source index p None = Some NoSource
why_source index p (Some source) =
    if same_text source index.source then
    why_record (record_at (candidates_at index p.name) p.version) p.checksum else Some OtherSource

abbrev pub why_none : CatalogueView → Package → Option NoCandidate
why_none index p = why_source index p p.source
