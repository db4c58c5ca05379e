-- What a tree has is what the line has.
use Rattle.std.proofs.Common.{◌≡◌, ℕ, List, Option, Some, None, Ok, ap, IsUtf8}
use Rattle.std.specs.Option.{ok_or}
use Rattle.serde_json.specs.Data.{Data}
use Rattle.serde_json.specs.Read.{read}
use Rattle.model.proofs.Utf8.{utf8-read}
use Rattle.derivations.specs.Steps.{data_of_bytes}
use Rattle.derivations.specs.declared.fault.LineFault.TheVariants.{NotALine}
use Rattle.trees.specs.declared.fault.TreeFault.TheVariants.{NotJson}

pub data-read : (bytes : List ℕ) (d : Data) → IsUtf8 bytes → read bytes ≡ Some d → data_of_bytes bytes ≡ Ok d
data-read bytes d text is = ap (λ o. ok_or o NotALine) (utf8-read read bytes d text is)

-- what a tree has is there in the line
pub found-there : {A : Type 0} (o : Option A) (x : A) → ok_or o NotJson ≡ Ok x → ok_or o NotALine ≡ Ok x
found-there None x is = cc
found-there (Some y) x is = cc
