-- Which records are candidates, and how they are preferred.
use Rattle.std.proofs.Common.{◌≡◌, List, [], ◌∷◌, Bool, true, false, Option, Some, None, refl}
use Rattle.semver.specs.Parse.{Parts}
use Rattle.model.specs.Summary.{nothing}
use Rattle.model.specs.Candidates.{RustVersion, Record, newest, rust_first, preferred_rust, is_locked, oldest_first}
use Rattle.model.specs.Candidates.{candidates_among, by_preference}
use Rattle.model.proofs.Examples.Small.{text_a, registry, digits, version_1_0, version_1_1, version_2_0, locked}

abbrev at : Parts → Option RustVersion → Bool → Record
at v rust yanked = record { version = v; checksum = digits; yanked = yanked; rust_version = rust; brings = nothing }

-- without a Rust version, with 1.70.0, with 1.71.0
abbrev any_rust : Record
any_rust = at version_1_0 None false

abbrev older_rust : Record
older_rust = at version_1_1 (Some (1, 70, 0)) false

abbrev newer_rust : Record
newer_rust = at version_2_0 (Some (1, 71, 0)) false

abbrev unlocked : Parts → Bool
unlocked v = is_locked [] registry text_a v

abbrev first_locked : Parts → Bool
first_locked v = is_locked (locked text_a version_1_0 [] ∷ []) registry text_a v

abbrev three : List Record
three = any_rust ∷ older_rust ∷ newer_rust ∷ []

-- the manifest has the Rust version 1.70.0
abbrev manifest_rust : Option RustVersion
manifest_rust = Some (1, 70, 0)

pub newest_first : by_preference unlocked (preferred_rust newest manifest_rust) three
    ≡ newer_rust ∷ older_rust ∷ any_rust ∷ []
newest_first = refl

pub rust_version_first : by_preference unlocked (preferred_rust rust_first manifest_rust) three
    ≡ older_rust ∷ any_rust ∷ newer_rust ∷ []
rust_version_first = refl

pub locked_first : by_preference first_locked (preferred_rust newest manifest_rust) three
    ≡ any_rust ∷ newer_rust ∷ older_rust ∷ []
locked_first = refl

-- records stand in the order of their lines, and candidates oldest first
pub oldest_is_first : candidates_among unlocked (newer_rust ∷ any_rust ∷ older_rust ∷ []) ≡ three
unfolding oldest_first
oldest_is_first = refl

-- a record that is yanked is a candidate where it is locked
abbrev yanked_one : Record
yanked_one = at version_1_0 None true

pub yanked_out : candidates_among unlocked (older_rust ∷ yanked_one ∷ []) ≡ older_rust ∷ []
unfolding oldest_first
yanked_out = refl

pub yanked_locked : candidates_among first_locked (older_rust ∷ yanked_one ∷ []) ≡ yanked_one ∷ older_rust ∷ []
unfolding oldest_first
yanked_locked = refl
