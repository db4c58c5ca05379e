-- A chain of combinations, read.
use Rattle.std.specs.Prelude.{ℕ, List}
use Rattle.incompatibilities.specs.declared.chain.Link.{Link}

-- the entry that it begins with, and with what it is combined, one after the other
pub record ChainView : Type 0 where
  pub first : ℕ
  pub links : List Link
