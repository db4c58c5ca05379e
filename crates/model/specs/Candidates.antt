-- Which records of the index may be locked, and in which order they are preferred (Cargo book, "Dependency Resolution",
-- yanked versions and "Rust version"; "Registry Index").
use Rattle.std.specs.Prelude.{◌≡◌, ◌≢◌, ℕ, List, ◌++◌, Bool, true, not, ◌&&◌, ◌||◌, Option}
use Rattle.std.specs.Prelude.{Some, None, filter, reverse}
use Rattle.std.specs.List.{list_any}
use Rattle.std.specs.Ordering.{nat_cmp, ordering_then, is_gt}
use Rattle.std.specs.declared.cmp.Ordering.{Ordering}
use Rattle.std.specs.declared.cmp.Ordering.TheVariants.{Less, Equal}
use Rattle.semver.specs.Parse.{Parts}
use Rattle.model.specs.Summary.{Summary, same_text}
use Rattle.model.specs.Content.{Content, Candidate, same_version, same_option}
use Rattle.model.specs.Order.{precedence, in_order}

-- a Rust version: major, minor and patch
abbrev pub RustVersion : Type 0
RustVersion = ℕ × ℕ × ℕ

-- number by number
abbrev pub rust_cmp : RustVersion → RustVersion → Ordering
rust_cmp a b = ordering_then (nat_cmp a.0 b.0) (ordering_then (nat_cmp a.1 b.1) (nat_cmp a.2 b.2))

-- a version of a package in the index
pub record Record : Type 0 where
  pub version : Parts
  pub checksum : List ℕ
  pub yanked : Bool
  pub rust_version : Option RustVersion
  pub brings : Summary

abbrev pub as_candidate : Record → Candidate
as_candidate r = record { version = r.version; checksum = r.checksum; brings = r.brings }

-- the one is older than the other
abbrev pub IsOlder : Record → Record → Type 0
IsOlder a b = precedence a.version b.version ≡ Less

-- one of them is older
abbrev pub IsApart : Record → Record → Type 0
IsApart a b = precedence a.version b.version ≢ Equal

-- the order of their versions
abbrev pub age_cmp : Record → Record → Ordering
age_cmp a b = precedence a.version b.version

-- records by precedence
unfoldable pub oldest_first : List Record → List Record
oldest_first records = in_order age_cmp records

-- whether a package of the old lock has this name and version, and the run's source
abbrev pub is_locked : Content → List ℕ → List ℕ → Parts → Bool
is_locked old source name version =
    list_any (λ p. same_text name p.name && (same_version version p.version && same_option p.source (Some source))) old

-- which candidates a run prefers, after the locked ones
pub data Prefer : Type 0 where
  newest : Prefer
  rust_first : Prefer

-- the Rust version that the order of preference goes by
abbrev pub preferred_rust : Prefer → Option RustVersion → Option RustVersion
preferred_rust newest rust = None
preferred_rust rust_first rust = rust

-- whether a record without a Rust version, or with this one, fits
abbrev pub is_at_most : Option RustVersion → RustVersion → Bool
is_at_most None rust = true
is_at_most (Some v) rust = not (is_gt (rust_cmp v rust))

-- without a Rust version to go by each record fits
abbrev pub fits : Option RustVersion → Record → Bool
fits None r = true
fits (Some rust) r = is_at_most r.rust_version rust

-- in the records of a name, with the test for those that are locked
module _ (locked : Parts → Bool) where
  -- a record that isn't yanked, or is locked
  abbrev pub may_be_locked : Record → Bool
  may_be_locked r = not r.yanked || locked r.version

  -- the candidates, oldest first
  abbrev pub candidates_among : List Record → List Record
  candidates_among records = oldest_first (filter may_be_locked records)

  -- the groups of candidates, the most preferred first
  abbrev pub locked_ones : List Record → List Record
  locked_ones cs = filter (λ r. locked r.version) cs

  abbrev pub fitting_ones : Option RustVersion → List Record → List Record
  fitting_ones rust cs = filter (fits rust) (filter (λ r. not (locked r.version)) cs)

  abbrev pub other_ones : Option RustVersion → List Record → List Record
  other_ones rust cs = filter (λ r. not (fits rust r)) (filter (λ r. not (locked r.version)) cs)

  -- Candidates, given oldest first, in the order of preference: the locked ones, then those that fit the Rust version,
  -- then the rest, each newest first.
  abbrev pub by_preference : Option RustVersion → List Record → List Record
  by_preference rust cs = reverse (locked_ones cs) ++ (reverse (fitting_ones rust cs) ++ reverse (other_ones rust cs))
