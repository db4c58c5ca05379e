-- How a run's disk stands on what opens and what writes files: those of the system, or any other.
use Rattle.std.specs.Prelude.{◌≡◌, ℕ, Bool, List, Result, is_ok}
use Rattle.std.specs.declared.io.Error.{Error}
use Rattle.index_reader.specs.Opened.{OnDisk}

-- bytes became the file at a path just where writing them there ended without an error
abbrev pub IsWritten : {R : Type 0} → (R → List ℕ → List ℕ → Result (Unit {0}) Error → R → Type 0) → R → List ℕ
    → List ℕ → Bool → R → Type 0
IsWritten puts old path bytes written new =
    (given : Result (Unit {0}) Error) × puts old path bytes given new × (written ≡ is_ok given)

-- the folder at a path, whose files a copy of the opener opens, before it is asked for any
abbrev pub IsOpened : {O : Type 0} → (O → O → Type 0) → O → List ℕ → OnDisk O → Type 0
IsOpened is_clone opener path folder = is_clone opener folder.opener × (folder.path ≡ path) × (folder.failures ≡ 0)
