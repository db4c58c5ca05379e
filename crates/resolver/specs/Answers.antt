-- What the calls of this crate answer.
use Rattle.std.specs.Prelude.{◌≡◌, ◌≢◌, ◌<◌, ◌⊎◌, ◌↔◌, ℕ, true, false, List, length, map}
use Rattle.std.specs.Prelude.{Option, Some, Result, Ok, Err, String, Vec, string_bytes}
use Rattle.std.specs.declared.alloc.Global.{Global}
use Rattle.model.specs.Content.{Content, Problem}
use Rattle.model.specs.Derivation.{Step}
use Rattle.model.specs.Selection.{IsValidSelection}
use Rattle.index_reader.specs.Files.{skip_view}
use Rattle.index_reader.specs.declared.skip.Skip.{Skip}
use Rattle.lockfile.specs.Locks.{content_of_bytes, most_bytes, table_of_bytes}
use Rattle.lockfile.specs.Spelling.{spelling, table_of}
use Rattle.catalogue.specs.Runs.{Calls}
use Rattle.catalogue.specs.Stores.{CatalogueView}
use Rattle.selection.specs.Verdicts.{IsVerdictOn}
use Rattle.selection.specs.declared.verdict.Verdict.{Verdict}
use Rattle.selection.specs.declared.verdict.Verdict.TheVariants.{Valid}
use Rattle.explainer.specs.Explanations.{explanation_of}
use Rattle.model.specs.Selected.{IsSelected, IsUnsolvable}
use Rattle.catalogue.specs.Problems.{preferred_in}
use Rattle.resolver.specs.Inputs.{input_wants_memory, RequestView, AreRead, IsInputFault, EndsWith}
use Rattle.resolver.specs.Inputs.{problem_of}
use Rattle.resolver.specs.declared.inputs.Inputs.{Inputs}
use Rattle.resolver.specs.declared.fault.Fault.{Fault}
use Rattle.resolver.specs.declared.fault.Fault.TheVariants as fault
use Rattle.resolver.specs.declared.resolving.Answer.{Answer}
use Rattle.resolver.specs.declared.resolving.Answer.TheVariants.{Lock, Unsolvable}

-- ---- the verdict on a lock

module _ {S : Type 0} (calls : Calls S) (failed : S → ℕ) (request : RequestView) (before : S) where
  -- the verdict on the old lock, for what was loaded with it: valid exactly where its content is a valid selection
  pub record IsVerdictFor (verdict : Verdict) (after : S) : Type 0 where
    pub inputs : Inputs
    pub content : Content
    pub read : AreRead calls failed request before inputs after
    pub old : inputs.old ≡ Some content
    pub says : IsVerdictOn (problem_of inputs) content verdict
    pub selects : (verdict ≡ Valid) ↔ IsValidSelection (problem_of inputs) content

  abbrev pub Verifies : Result Verdict Fault → S → Type 0
  Verifies (Ok verdict) after = IsVerdictFor verdict after
  Verifies (Err f) after = EndsWith calls failed request before (input_wants_memory f)
      (IsInputFault calls failed request before f after) after

  -- the same with the index that was loaded for it
  pub record IsVerdictKeeping (verdict : Verdict) (index : CatalogueView) (after : S) : Type 0 where
    pub found : IsVerdictFor verdict after
    pub index_is : index ≡ (found.inputs).catalogue

  abbrev pub VerifiesKeeping : Result (Verdict × CatalogueView) Fault → S → Type 0
  VerifiesKeeping (Ok given) after = IsVerdictKeeping given.0 given.1 after
  VerifiesKeeping (Err f) after = Verifies (Err f) after

-- ---- the answer to a manifest

-- the bytes of a lock mean a valid selection
pub record MeansSelection (q : Problem) (bytes : List ℕ) : Type 0 where
  pub content : Content
  pub reads : content_of_bytes bytes ≡ Ok content
  pub valid : IsValidSelection q content

-- those of the old lock do, so that it is kept
abbrev pub CanKeep : Option (List ℕ) → Inputs → Type 0
CanKeep old inputs = (bytes : List ℕ) × (old ≡ Some bytes) × MeansSelection (problem_of inputs) bytes

-- what may be chosen for a new lock
abbrev pub IsChosen : Inputs → Content → Type 0
IsChosen inputs = IsSelected (problem_of inputs) (preferred_in inputs.catalogue)

-- the lines that loading skipped
abbrev pub AreSkips : Inputs → Vec Skip Global → Type 0
AreSkips inputs skips = map skip_view skips.items ≡ (inputs.catalogue).skips

-- The answer of a call that has read all inputs, for the bytes of the old lock if there is one.
pub data IsAnswer (old : Option (List ℕ)) (inputs : Inputs) : Answer → Type 0 where
  -- a lock that is kept: the old lock's own bytes, which mean a valid selection
  kept_lock : (bytes : Vec ℕ Global) (skips : Vec Skip Global)
      → (own : old ≡ Some bytes.items)
      → (means : MeansSelection (problem_of inputs) bytes.items)
      → (skipped : AreSkips inputs skips)
      → IsAnswer old inputs (Lock bytes true skips)
  -- a new lock, where there is none to keep: bytes that read as what is chosen, whose spelling they are
  new_lock : (bytes : Vec ℕ Global) (skips : Vec Skip Global) (content : Content)
      → (not_kept : CanKeep old inputs → ⊥)
      → (reads : content_of_bytes bytes.items ≡ Ok content)
      → (spelled : bytes.items ≡ spelling content)
      → (chosen : IsChosen inputs content)
      → (skipped : AreSkips inputs skips)
      → IsAnswer old inputs (Lock bytes false skips)
  -- that there is none: a derivation that the checker accepts, while no content at all is a valid selection, and the
  -- text that tells it
  no_lock : (derivation : List Step) (text : String Global) (skips : Vec Skip Global)
      → (unsolvable : IsUnsolvable (problem_of inputs) derivation)
      → (explained : string_bytes text ≡ explanation_of derivation)
      → (skipped : AreSkips inputs skips)
      → IsAnswer old inputs (Unsolvable derivation text skips)

-- ---- no answer

-- why the spelling of a content doesn't read as it: it is larger than a lock may be, or TOML reads it as another table
abbrev pub IsUnreadable : Content → Type 0
IsUnreadable content =
    (most_bytes < length (spelling content)) ⊎ (table_of_bytes (spelling content) ≢ Ok (table_of content))

-- ---- the call

module _ {S : Type 0} (calls : Calls S) (failed : S → ℕ) (request : RequestView) (before : S) where
  pub record IsAnswered (answer : Answer) (after : S) : Type 0 where
    pub inputs : Inputs
    pub read : AreRead calls failed request before inputs after
    pub is : IsAnswer request.old inputs answer

  -- All inputs were read, there is no lock to keep, and yet there is no answer: the spelling of something that may be
  -- chosen doesn't read as it, for the one reason or the other.
  pub record IsUnanswered (f : Fault) (after : S) : Type 0 where
    pub inputs : Inputs
    pub read : AreRead calls failed request before inputs after
    pub not_kept : CanKeep request.old inputs → ⊥
    pub fault_is : f ≡ fault.NotReadBack
    pub content : Content
    pub chosen : IsChosen inputs content
    pub misread : content_of_bytes (spelling content) ≢ Ok content
    pub why : IsUnreadable content

  abbrev pub Resolves : Result Answer Fault → S → Type 0
  Resolves (Ok answer) after = IsAnswered answer after
  Resolves (Err f) after = EndsWith calls failed request before (input_wants_memory f)
      (IsInputFault calls failed request before f after ⊎ IsUnanswered f after) after

  -- the same with the index that was loaded for the answer
  pub record IsAnsweredKeeping (answer : Answer) (index : CatalogueView) (after : S) : Type 0 where
    pub answered : IsAnswered answer after
    pub index_is : index ≡ (answered.inputs).catalogue

  abbrev pub ResolvesKeeping : Result (Answer × CatalogueView) Fault → S → Type 0
  ResolvesKeeping (Ok given) after = IsAnsweredKeeping given.0 given.1 after
  ResolvesKeeping (Err f) after = Resolves (Err f) after
