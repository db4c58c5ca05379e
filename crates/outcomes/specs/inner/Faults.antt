-- What is told of a path that can't be read.
use Rattle.std.specs.Prelude.{◌≡◌, ◌⊎◌, ℕ, List}
use Rattle.outcomes.specs.declared.fault.ReadFault.{ReadFault}
use Rattle.outcomes.specs.declared.fault.ReadFault.TheVariants.{OutOfMemory, CannotRead, NoFolder}

-- want of memory names no path; any other fault names this one
abbrev pub IsAbout : List ℕ → ReadFault → Type 0
IsAbout path OutOfMemory = Unit {0}
IsAbout path (CannotRead told error) = told.now ≡ path
IsAbout path (NoFolder told) = told.now ≡ path
