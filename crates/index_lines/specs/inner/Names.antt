-- Which names of dependencies are the same.
use Rattle.std.specs.Prelude.{Bool, ◌&&◌}
use Rattle.std.specs.Bool.{beq}
use Rattle.model.specs.Summary.{same_text}
use Rattle.model.specs.Tables.{DepName}

abbrev pub same_name : DepName → DepName → Bool
same_name a b = same_text a.name b.name && beq a.optional b.optional
