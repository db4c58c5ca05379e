-- What is printed of words that ask for nothing: the text that the command line's reader gives, as it is.
use Rattle.std.specs.Prelude.{◌≡◌, ◌⊎◌, ℕ, zero, suc, List, [], ◌∷◌, Option, codes, string_bytes}
use Rattle.std.specs.Io.KnownBytes.{Appends}
use Rattle.words.specs.declared.fault.WordsFault.{WordsFault}
use Rattle.words.specs.declared.fault.WordsFault.TheVariants.{OutOfMemory, Help, Wrong}
use Rattle.resolver.specs.Texts.{fault_text}
use Rattle.resolver.specs.declared.fault.Fault.TheVariants as fault
use Rattle.commands.specs.Lines.{line_of}

-- help goes to standard output, unless that write failed, and nothing else does
abbrev pub IsToldOfWords : (List ℕ → Type 0) → Option (List ℕ) → Option (List ℕ) → WordsFault → ℕ → Type 0
IsToldOfWords fails old new (Help text) status =
    ((status ≡ 0) × Appends old new (string_bytes text)) ⊎ ((status ≡ 2) × fails (string_bytes text))
IsToldOfWords fails old new (Wrong text) status = (status ≡ 2) × (new ≡ old)
IsToldOfWords fails old new OutOfMemory status = (status ≡ 2) × (new ≡ old)

-- what is told on standard error
abbrev pub told_of_words : WordsFault → ℕ → List (List ℕ)
told_of_words (Help text) zero = []
told_of_words (Help text) (suc n) = line_of (codes "cannot write") ∷ []
told_of_words (Wrong text) status = string_bytes text ∷ []
told_of_words OutOfMemory status = line_of (fault_text fault.OutOfMemory) ∷ []
