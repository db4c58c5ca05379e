-- What is found on the way to an answer, before the skipped lines are given with it.
use Rattle.std.specs.Prelude.{◌≡◌, ◌≢◌, ◌⊎◌, ℕ, Bool, true, false, List, Option, Some, Result, Ok, Err, Vec}
use Rattle.std.specs.Prelude.{string_bytes}
use Rattle.std.specs.declared.alloc.Global.{Global}
use Rattle.model.specs.Content.{Content}
use Rattle.model.specs.Derivation.{Step}
use Rattle.model.specs.Selected.{IsUnsolvable}
use Rattle.model.specs.Selection.{IsValidSelection}
use Rattle.index_reader.specs.declared.skip.Skip.{Skip}
use Rattle.lockfile.specs.Locks.{content_of_bytes}
use Rattle.lockfile.specs.Spelling.{spelling}
use Rattle.explainer.specs.Explanations.{explanation_of}
use Rattle.resolver.specs.Answers.{IsChosen}
use Rattle.resolver.specs.Inputs.{UnlessMemory, input_wants_memory, problem_of}
use Rattle.resolver.specs.declared.inputs.Inputs.{Inputs}
use Rattle.resolver.specs.declared.fault.Fault.{Fault}
use Rattle.resolver.specs.declared.fault.Fault.TheVariants as fault
use Rattle.resolver.specs.declared.resolving.Answer.{Answer}
use Rattle.resolver.specs.declared.resolving.Answer.TheVariants.{Lock, Unsolvable}
use Rattle.resolver.specs.declared.resolving.Reply.{Reply}
use Rattle.resolver.specs.declared.resolving.Reply.TheVariants as reply

-- the old lock says a content that is a valid selection
abbrev pub HoldsOld : Inputs → Type 0
HoldsOld inputs = (content : Content) × (inputs.old ≡ Some content) × IsValidSelection (problem_of inputs) content

-- the old lock's own bytes
pub record IsKept (old : Option (List ℕ)) (inputs : Inputs) (bytes : List ℕ) (kept : Bool) : Type 0 where
  pub holds : HoldsOld inputs
  pub own : old ≡ Some bytes
  pub is_kept : kept ≡ true

-- the spelling of what was chosen, which reads as it
pub record IsNew (inputs : Inputs) (bytes : List ℕ) (kept : Bool) : Type 0 where
  pub not_held : HoldsOld inputs → ⊥
  pub content : Content
  pub chosen : IsChosen inputs content
  pub reads : content_of_bytes bytes ≡ Ok content
  pub spelled : bytes ≡ spelling content
  pub is_new : kept ≡ false

abbrev pub IsLock : Option (List ℕ) → Inputs → List ℕ → Bool → Type 0
IsLock old inputs bytes kept = IsKept old inputs bytes kept ⊎ IsNew inputs bytes kept

-- an accepted derivation, while no content at all is a valid selection, and the text that tells it
pub record IsExplained (inputs : Inputs) (derivation : List Step) (text : List ℕ) : Type 0 where
  pub unsolvable : IsUnsolvable (problem_of inputs) derivation
  pub explained : text ≡ explanation_of derivation

-- what was chosen has a spelling that doesn't read as it
abbrev pub IsMisread : Inputs → Fault → Type 0
IsMisread inputs fault.NotReadBack =
    (content : Content) × IsChosen inputs content × (content_of_bytes (spelling content) ≢ Ok content)
IsMisread inputs _ = ⊥

-- what is written is the content's spelling, which reads as the content
pub record IsWritten (content : Content) (bytes : List ℕ) : Type 0 where
  pub spelled : bytes ≡ spelling content
  pub reads : content_of_bytes bytes ≡ Ok content

abbrev pub Writes : Content → Result (Vec ℕ Global) Fault → Type 0
Writes content (Ok bytes) = IsWritten content bytes.items
Writes content (Err f) =
    UnlessMemory (input_wants_memory f) ((f ≡ fault.NotReadBack) × (content_of_bytes (spelling content) ≢ Ok content))

-- an answer but for the skipped lines
abbrev pub IsReply : Option (List ℕ) → Inputs → Reply → Type 0
IsReply old inputs (reply.Lock bytes kept) = IsLock old inputs bytes.items kept
IsReply old inputs (reply.Unsolvable derivation text) = IsExplained inputs derivation (string_bytes text)

abbrev pub with_skips : Reply → Vec Skip Global → Answer
with_skips (reply.Lock bytes kept) skips = Lock bytes kept skips
with_skips (reply.Unsolvable derivation text) skips = Unsolvable derivation text skips

-- what a run gives before the skipped lines are put to it
abbrev pub RepliesWith : Option (List ℕ) → Inputs → Result Reply Fault → Type 0
RepliesWith old inputs (Ok given) = IsReply old inputs given
RepliesWith old inputs (Err f) = UnlessMemory (input_wants_memory f) ((HoldsOld inputs → ⊥) × IsMisread inputs f)
