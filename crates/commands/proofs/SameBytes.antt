-- What is said of bytes, or of a source, is said of the same ones.
use Rattle.std.proofs.Common.{◌≡◌, ℕ, List, Option, Result, subst, sym}
use Rattle.catalogue.specs.Runs.{Calls}
use Rattle.catalogue.specs.declared.store.Prefer.TheVariants.{Newest}
use Rattle.checker.specs.declared.outcome.Check.{Check}
use Rattle.resolver.specs.CheckedProofs.{Checks}
use Rattle.resolver.specs.declared.fault.CheckFault.{CheckFault}
use Rattle.commands.specs.Sources.{IsSource}

pub checked_with : {F : Type 0} (calls : Calls F) (failed : F → ℕ) (manifest proof : List ℕ) (old : Option (List ℕ))
    (source bytes derivation : List ℕ) (before after : F) (said : Result Check CheckFault)
    → manifest ≡ bytes → proof ≡ derivation
    → Checks calls failed
    (record { manifest = manifest; old = old; source = source; prefer = Newest }) proof before said after
    → Checks calls failed
    (record { manifest = bytes; old = old; source = source; prefer = Newest }) derivation before said after
checked_with calls failed manifest proof old source bytes derivation before after said e f h =
    subst (λ m. Checks calls failed
    (record { manifest = m; old = old; source = source; prefer = Newest }) derivation before said after) e
    (subst (λ d. Checks calls failed
    (record { manifest = manifest; old = old; source = source; prefer = Newest }) d before said after) f h)

pub source_with : (asked : Option (List ℕ)) (source text : List ℕ) → source ≡ text
    → IsSource asked text → IsSource asked source
source_with asked source text e h = subst (IsSource asked) (sym e) h
