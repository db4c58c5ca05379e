-- The universes of the vertices of the stores in the tests (this repository's tests).
use Rattle.std.specs.Prelude.{ℕ, zero, suc}

-- two vertices
abbrev pub space : ℕ → ℕ
space zero = 2
space (suc zero) = 3
space (suc (suc v)) = 0
