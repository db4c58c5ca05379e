-- A package name in lower case is ASCII.
use Rattle.std.proofs.Common.{◌≡◌, ℕ, zero, suc, ◌<◌, List, [], ◌∷◌, get_or, true, arith}
use Rattle.std.specs.List.{list_all}
use Rattle.std.specs.Char.{to_ascii_lowercase}
use Rattle.std.specs.Str.{IsAscii}
use Rattle.std.proofs.lemmas.Bool.Decides.{nat_tests}
use Rattle.features.specs.Names.{is_package_byte, is_package_name}
use Rattle.index_reader.specs.Folders.{lower}

lower_byte : (b : ℕ) → is_package_byte b ≡ true → to_ascii_lowercase b < 128
lower_byte b named = grind (arith, nat_tests)

lower_bytes : (bs : List ℕ) → list_all is_package_byte bs ≡ true → (i : ℕ) → get_or (lower bs) i 0 < 128
lower_bytes [] named i = omega arith
lower_bytes (b ∷ bs) named zero = lower_byte b (grind arith)
lower_bytes (b ∷ bs) named (suc i) = lower_bytes bs (grind arith) i

pub lower_is_ascii : (name : List ℕ) → is_package_name name ≡ true → IsAscii (lower name)
lower_is_ascii name named = lower_bytes name (grind arith)
