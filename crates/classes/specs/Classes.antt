-- Classes of versions, whole numbers and Rust versions, with their texts (Cargo book, "Dependency Resolution", "SemVer
-- compatibility").
use Rattle.std.specs.Prelude.{ℕ, ◌∷◌, List, Bool, ◌&&◌, ◌||◌, not, ◌==◌, ◌^◌, if◌then◌else◌, nat_lt, nat_le, length}
use Rattle.std.specs.Prelude.{slice_index, Option, Some, None, option_map, option_and_then}
use Rattle.std.specs.Fmt.{decimal}
use Rattle.classes.specs.declared.class.Class.{Class}
use Rattle.classes.specs.declared.class.Class.TheVariants.{Major, Minor, Patch}
use Rattle.std.specs.Char.{is_ascii_digit}
use Rattle.std.specs.List.{list_all}
use Rattle.std.specs.Str.Parse.{digits_value}
use Rattle.features.specs.Names.{around}
use Rattle.classes.specs.declared.rust_version.RustVersion.{RustVersion}
use Rattle.model.specs.Selection as model

-- ---- The class of a version.

abbrev pub class_view : Class → model.Class
class_view (Patch n) = model.patch n
class_view (Minor n) = model.minor n
class_view (Major n) = model.major n

-- its text: `1`, `0.3` or `0.0.7`
abbrev pub class_text : model.Class → List ℕ
class_text (model.major n) = decimal n
class_text (model.minor n) = 48 ∷ 46 ∷ decimal n
class_text (model.patch n) = 48 ∷ 46 ∷ 48 ∷ 46 ∷ decimal n

-- ---- Which texts are whole numbers in decimal (the form of numbers in SemVer 2.0.0, section 2).

-- digits without a leading zero
abbrev pub is_plain_number : List ℕ → Bool
is_plain_number text = nat_le 1 (length text)
    && (list_all is_ascii_digit text && (nat_le (length text) 1 || not (slice_index text 0 == 48)))

-- a whole number of 64 bits in decimal without leading zeros
abbrev pub number_of : List ℕ → Option ℕ
number_of text =
    if is_plain_number text && nat_lt (digits_value 10 text) (2 ^ 64) then Some (digits_value 10 text) else None

-- ---- Which texts are Rust versions (Cargo book, "The Manifest Format", `rust-version`).

-- the three numbers of a Rust version
abbrev pub Numbers : Type 0
Numbers = ℕ × ℕ × ℕ

abbrev pub patch_after : List ℕ → List ℕ → Option (List ℕ × List ℕ) → Option Numbers
patch_after major rest None = option_and_then (λ a. option_map (λ b. (a, b, 0)) (number_of rest)) (number_of major)
patch_after major rest (Some (minor, patch)) = option_and_then
    (λ a. option_and_then (λ b. option_map (λ c. (a, b, c)) (number_of patch)) (number_of minor)) (number_of major)

abbrev pub minor_after : List ℕ → Option (List ℕ × List ℕ) → Option Numbers
minor_after text None = option_map (λ a. (a, 0, 0)) (number_of text)
minor_after text (Some (major, rest)) = patch_after major rest (around 46 rest)

-- one to three such numbers, joined by dots; those that are missing are 0
abbrev pub rust_version_of : List ℕ → Option Numbers
rust_version_of text = minor_after text (around 46 text)

abbrev pub rust_version_view : RustVersion → Numbers
rust_version_view v = (v.major, v.minor, v.patch)
