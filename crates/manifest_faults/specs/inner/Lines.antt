-- The line on which something stands in a manifest.
use Rattle.std.specs.Prelude.{ℕ, Bool, true, false, ◌==◌, if◌then◌else◌, List, ◌++◌, take, drop}
use Rattle.std.specs.Prelude.{◌≡◌, Some, codes, is_some, nat_eq}
use Rattle.std.specs.List.{before_first, list_any, starts_with}
use Rattle.model.specs.Content.{of_utf8}
use Rattle.tables.specs.inner.Lines.{line_after}
use Rattle.toml.specs.Parse.{parse_document}
use Rattle.toml.specs.Data.{Members}
use Rattle.manifest_faults.specs.inner.Places.{value_at}
use Rattle.manifest_faults.specs.declared.place.Place.{Place}

-- the bytes are TOML, and have something at the place, or have nothing there
abbrev pub Has : Bool → Place → List ℕ → Type 0
Has has p bytes = (top : Members) × (of_utf8 parse_document bytes ≡ Some top) × (is_some (value_at p top) ≡ has)

-- what stands before the first such byte, or all
abbrev pub up_to : ℕ → List ℕ → List ℕ
up_to byte text = if list_any (λ b. b == byte) text then before_first (λ b. b == byte) text else text

-- a header as it stands there, or a key with 0 as its value
abbrev pub front_of : List ℕ → List ℕ
front_of line = if starts_with nat_eq line (codes "[") then line else up_to 61 line ++ codes "=0"

-- What begins there puts something at the place: the bytes before are TOML that has nothing there; with the header or
-- the key that begins the rest they are TOML that has something there.
pub record Begins (p : Place) (before rest : List ℕ) : Type 0 where
  pub lacks : Has false p before
  pub has : Has true p (before ++ front_of (up_to 10 rest))

-- the line is one on which what stands at the place begins
abbrev pub IsLineOf : Place → List ℕ → ℕ → Type 0
IsLineOf p bytes n = (at : ℕ) × (line_after (take at bytes) ≡ n) × Begins p (take at bytes) (drop at bytes)
