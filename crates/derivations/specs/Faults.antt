-- How the reason for which bytes are no derivation is printed: its number and its name, and the line (the texts are
-- this project's).
use Rattle.std.specs.Prelude.{ℕ, List, ◌++◌, codes, decimal}
use Rattle.derivations.specs.declared.fault.DerivationFault.{DerivationFault}
use Rattle.derivations.specs.declared.fault.DerivationFault.TheVariants.{OutOfMemory, NotALine, Forward, TooMany}

abbrev pub fault_text : DerivationFault → List ℕ
fault_text OutOfMemory = codes "out of memory"
fault_text (NotALine n) = codes "K1 NotALine at line " ++ decimal n
fault_text (Forward n) = codes "K2 Forward at line " ++ decimal n
fault_text (TooMany n) = codes "K3 TooMany at line " ++ decimal n
