-- How what is said of `clap`'s errors is the fault of words.
use Rattle.std.proofs.Common.{◌≡◌, ◌⊎◌, inl, inr, List}
use Rattle.clap.specs.Words.{IsAmong, Text}
use Rattle.clap.specs.declared.error.kind.ErrorKind.{ErrorKind}
use Rattle.clap.specs.declared.error.kind.ErrorKind.TheVariants as kind
use Rattle.words.specs.Asked.{faults}
use Rattle.words.specs.WordsFaults.{IsWordsFault, Tells}
use Rattle.words.specs.declared.fault.WordsFault.{WordsFault}
use Rattle.words.specs.declared.fault.WordsFault.TheVariants.{OutOfMemory, Help, Wrong}

pub is_words_fault : (words : List Text) (k : ErrorKind) (fault : WordsFault)
    → (k ≡ kind.OutOfMemory) ⊎ IsAmong k (faults words) → Tells k fault → IsWordsFault words fault
is_words_fault words k OutOfMemory met told = tt
is_words_fault words k (Help text) (inl memory) told = absurd (told ((λ h. cc), (λ h. cc)))
is_words_fault words k (Help text) (inr among) told = (k, among, told)
is_words_fault words k (Wrong text) (inl memory) told = absurd (told.1 memory)
is_words_fault words k (Wrong text) (inr among) told = inl (k, among, told)
