-- Which texts are sources of a run (Cargo book, "Registry Index" and "Source Replacement": a registry by its address).
use Rattle.std.specs.Prelude.{ℕ, Bool, ◌&&◌, ◌||◌, ◌==◌, not, nat_le, List, length}
use Rattle.std.specs.List.{list_all}

-- a visible ASCII byte other than `"`, `\`, `(` and `)`
abbrev pub is_source_byte : ℕ → Bool
is_source_byte b = (nat_le 33 b && nat_le b 126) && not (b == 34 || (b == 92 || (b == 40 || b == 41)))

-- 1 to 512 such bytes
abbrev pub is_source : List ℕ → Bool
is_source text = nat_le 1 (length text) && (nat_le (length text) 512 && list_all is_source_byte text)
