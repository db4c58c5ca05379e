-- Candidates of one name in the order of preference: locked, yanked, fitting and other ones.
use Rattle.std.proofs.Common.{◌≡◌, ℕ, List, [], ◌∷◌, Bool, true, false, Option, Some, None, refl}
use Rattle.semver.specs.Parse.{Parts}
use Rattle.model.specs.Summary.{nothing}
use Rattle.model.specs.Content.{Content}
use Rattle.model.specs.Candidates.{RustVersion, Record, by_preference, candidates_among, is_locked, newest}
use Rattle.model.specs.Candidates.{oldest_first, preferred_rust, rust_first}
use Rattle.model.proofs.Examples.Small.{text_a, registry, digits, locked}
use Rattle.catalogue.specs.Loads.{ranked_among}
use Rattle.catalogue.specs.declared.candidate.Rank.TheVariants.{Locked, Fits, Rest}
use Rattle.catalogue.specs.Problems.{by_rank}

-- version 1.n.0 with what it needs of Rust
abbrev at : ℕ → Option RustVersion → Bool → Record
at n rust yanked =
    record { version = (1, n, 0, [], []); checksum = digits; yanked = yanked; rust_version = rust; brings = nothing }

abbrev plain : Record
plain = at 0 None false

abbrev older_locked : Record
older_locked = at 1 (Some (1, 71, 0)) false

abbrev yanked_locked : Record
yanked_locked = at 2 None true

abbrev fitting : Record
fitting = at 3 (Some (1, 70, 0)) false

abbrev yanked_only : Record
yanked_only = at 4 None true

abbrev too_new : Record
too_new = at 5 (Some (1, 71, 0)) false

abbrev newer_still : Record
newer_still = at 6 (Some (1, 72, 0)) false

-- as the lines of the index have them
abbrev lines : List Record
lines = too_new ∷ plain ∷ yanked_locked ∷ newer_still ∷ yanked_only ∷ older_locked ∷ fitting ∷ []

-- 1.1.0 and 1.2.0 stand in the old lock
abbrev old : Content
old = locked text_a (1, 1, 0, [], []) [] ∷ locked text_a (1, 2, 0, [], []) [] ∷ []

abbrev is_held : Parts → Bool
is_held v = is_locked old registry text_a v

-- the manifest has the Rust version 1.70.0
abbrev by_rust : Option RustVersion
by_rust = preferred_rust rust_first (Some (1, 70, 0))

abbrev by_age : Option RustVersion
by_age = preferred_rust newest (Some (1, 70, 0))

-- the candidates, oldest first, and their ranks: the yanked one that isn't locked is none
pub ranks : ranked_among is_held by_rust lines
    ≡ (plain, Fits) ∷ (older_locked, Locked) ∷ (yanked_locked, Locked) ∷ (fitting, Fits) ∷ (too_new, Rest)
    ∷ (newer_still, Rest) ∷ []
unfolding oldest_first
ranks = refl

pub ranked : by_rank (ranked_among is_held by_rust lines)
    ≡ yanked_locked ∷ older_locked ∷ fitting ∷ plain ∷ newer_still ∷ too_new ∷ []
unfolding oldest_first
ranked = refl

pub preferred : by_preference is_held by_rust (candidates_among is_held lines)
    ≡ yanked_locked ∷ older_locked ∷ fitting ∷ plain ∷ newer_still ∷ too_new ∷ []
unfolding oldest_first
preferred = refl

-- without a Rust version to go by, the newest after the locked ones
pub ranked_by_age : by_rank (ranked_among is_held by_age lines)
    ≡ yanked_locked ∷ older_locked ∷ newer_still ∷ too_new ∷ fitting ∷ plain ∷ []
unfolding oldest_first
ranked_by_age = refl

pub preferred_by_age : by_preference is_held by_age (candidates_among is_held lines)
    ≡ yanked_locked ∷ older_locked ∷ newer_still ∷ too_new ∷ fitting ∷ plain ∷ []
unfolding oldest_first
preferred_by_age = refl
