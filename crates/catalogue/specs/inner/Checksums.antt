-- Checksums as bytes, and the hexadecimal digits that these are written in.
use Rattle.std.specs.Prelude.{ℕ, ◌+◌, ◌/◌, ◌%◌, nat_le, if◌then◌else◌, List, [], ◌∷◌, string_bytes}
use Rattle.catalogue.specs.declared.checksum.Form.{Form}
use Rattle.catalogue.specs.declared.checksum.Form.TheVariants.{Bytes, Text}

-- the digit of a number below 16: `0` is 48, `a` is 97
abbrev pub digit : ℕ → ℕ
digit n = if nat_le n 9 then 48 + n else 87 + n

-- two digits for each byte, first that of its higher half
unfoldable pub digits_of : List ℕ → List ℕ
digits_of [] = []
digits_of (b ∷ bs) = digit (b / 16) ∷ digit (b % 16) ∷ digits_of bs

-- the text of a checksum
abbrev pub text_of : Form → List ℕ
text_of (Bytes bytes) = digits_of bytes
text_of (Text text) = string_bytes text
