-- How a limit that was passed is printed (our own).
use Rattle.std.specs.Prelude.{ℕ, List, ◌++◌, codes}
use Rattle.catalogue.specs.declared.fault.Limit.{Limit}
use Rattle.catalogue.specs.declared.fault.Limit.TheVariants.{Names, File, Lines}

abbrev pub limit_text : Limit → List ℕ
limit_text Names = codes "names"
limit_text (File name) = codes "file " ++ name
limit_text (Lines name) = codes "lines " ++ name
