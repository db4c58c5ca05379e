-- What the commands do: what they read where the words say, and what they ask of it.
use Rattle.std.specs.Prelude.{◌≡◌, ◌⊎◌, ℕ, Bool, true, false, List, [], ◌++◌, Option, Some, None, Result, Ok, Err}
use Rattle.std.specs.Prelude.{IfErr, IfOk, Vec}
use Rattle.std.specs.Io.KnownBytes.{Appends}
use Rattle.std.specs.declared.alloc.Global.{Global}
use Rattle.model.specs.Derivation.{Step}
use Rattle.model.specs.Outcome.{Faults}
use Rattle.catalogue.specs.Runs.{Calls}
use Rattle.catalogue.specs.declared.store.Prefer.{Prefer}
use Rattle.catalogue.specs.declared.store.Prefer.TheVariants.{Newest, RustFirst}
use Rattle.checker.specs.Texts.{check_text}
use Rattle.checker.specs.declared.outcome.Check.{Check}
use Rattle.derivations.specs.Files.{derivation_of_bytes, wants_memory}
use Rattle.derivations.specs.declared.fault.DerivationFault.{DerivationFault}
use Rattle.explainer.specs.Explanations.{explanation_of}
use Rattle.selection.specs.Texts.{verdict_text}
use Rattle.selection.specs.declared.verdict.Verdict.{Verdict}
use Rattle.words.specs.Asked.{WordsView, resolve, verify, check, explain, asked, faults, or_help}
use Rattle.words.specs.WordsFaults.{IsWordsFault}
use Rattle.words.specs.declared.fault.WordsFault.{WordsFault}
use Rattle.commands.specs.WordsFaults.{IsToldOfWords, told_of_words}
use Rattle.resolver.specs.Answers.{Resolves, Verifies}
use Rattle.resolver.specs.CheckedProofs.{Checks}
use Rattle.resolver.specs.Inputs.{of_derivation}
use Rattle.resolver.specs.declared.fault.CheckFault.{CheckFault}
use Rattle.resolver.specs.declared.fault.CheckFault.TheVariants.{Input}
use Rattle.resolver.specs.declared.fault.Fault.{Fault}
use Rattle.resolver.specs.declared.resolving.Answer.{Answer}
use Rattle.resolver.specs.declared.resolving.Answer.TheVariants.{Lock, Unsolvable}
use Rattle.commands.specs.Disks.{Reading, Writing, HasFile, HasOld, IsFile, IsKept, IsOld, bytes_if, most_of_manifest}
use Rattle.commands.specs.Disks.{most_of_lock, most_of_proof}
use Rattle.commands.specs.Lines.{line_of, verdict_status, check_status, ending_of, told_of, IsPrinted, status_of}
use Rattle.commands.specs.Sources.{IsBadSource, IsSource}
use Rattle.commands.specs.Endings.{WantsMemory, cannot_write, fault, has_ended_before, ending_view}
use Rattle.commands.specs.declared.ending.Ending.{Ending}

-- `--rust-first`
abbrev pub preference : Bool → Prefer
preference true = RustFirst
preference false = Newest

module _ (reads : Reading) where
  -- the derivation that lies where the words say
  pub record IsDerivationOf (proof : List ℕ) (steps : List Step) : Type 0 where
    pub bytes : Vec ℕ Global
    pub proof_read : reads proof most_of_proof (Ok bytes)
    pub says : derivation_of_bytes bytes.items ≡ Ok steps

  -- its text
  pub record IsTextOf (proof text : List ℕ) : Type 0 where
    pub steps : List Step
    pub derivation : IsDerivationOf proof steps
    pub explained : text ≡ explanation_of steps

  -- why there is none: the file can't be had, its bytes are no derivation, or memory is wanting for the text
  abbrev pub LacksText : List ℕ → Ending → Type 0
  LacksText proof ending = IsFile reads proof most_of_proof (Err ending)
      ⊎ ((bytes : Vec ℕ Global) × (f : DerivationFault) × IsFile reads proof most_of_proof (Ok bytes)
      × Faults (wants_memory f) f (derivation_of_bytes bytes.items) × (ending_view ending ≡ fault (of_derivation f)))
      ⊎ (((steps : List Step) × IsDerivationOf proof steps) × WantsMemory ending)

  -- of the source and the manifest, which are read first, one can't be had
  abbrev pub LacksFirst : List ℕ → Option (List ℕ) → Ending → Type 0
  LacksFirst manifest source ending = IsBadSource source ending
      ⊎ (((from : List ℕ) × IsSource source from) × IsFile reads manifest most_of_manifest (Err ending))

  -- both can
  abbrev pub HasFirst : List ℕ → Option (List ℕ) → Type 0
  HasFirst manifest source = ((from : List ℕ) × IsSource source from) × HasFile reads manifest most_of_manifest

module _ {F : Type 0} (reads : Reading) (opens : List ℕ → F → Type 0) (calls : Calls F) (failed : F → ℕ) where
  -- the verdict on the lock that lies where the words say, or the fault of what was read
  pub record IsVerdictOf (manifest index lock : List ℕ) (source : Option (List ℕ))
      (said : Result Verdict Fault) : Type 0 where
    pub bytes : Vec ℕ Global
    pub manifest_read : reads manifest most_of_manifest (Ok bytes)
    pub locked : Vec ℕ Global
    pub lock_read : reads lock most_of_lock (Ok locked)
    pub from : List ℕ
    pub source_is : IsSource source from
    pub folder : F
    pub opened : opens index folder
    pub after : F
    pub verifies : Verifies calls failed
        (record { manifest = bytes.items; old = Some locked.items; source = from; prefer = Newest }) folder said after

  -- the answer to the manifest, and to the old lock if there is one, that lie where the words say, or the fault of what
  -- was read
  pub record IsAnswerTo (manifest index : List ℕ) (lock source : Option (List ℕ)) (rust_first : Bool)
      (said : Result Answer Fault) : Type 0 where
    pub bytes : Vec ℕ Global
    pub manifest_read : reads manifest most_of_manifest (Ok bytes)
    pub old : Option (Vec ℕ Global)
    pub lock_read : IsOld reads lock (Ok old)
    pub given : Option (List ℕ)
    pub given_is : given ≡ bytes_if old
    pub from : List ℕ
    pub source_is : IsSource source from
    pub prefer : Prefer
    pub prefer_is : prefer ≡ preference rust_first
    pub folder : F
    pub opened : opens index folder
    pub after : F
    pub resolves : Resolves calls failed
        (record { manifest = bytes.items; old = given; source = from; prefer = prefer }) folder said after

  -- what is said of the derivation that lies where the words say, or the fault of what was read
  pub record IsCheckOf (manifest index : List ℕ) (lock source : Option (List ℕ)) (proof : List ℕ)
      (said : Result Check CheckFault) : Type 0 where
    pub bytes : Vec ℕ Global
    pub manifest_read : reads manifest most_of_manifest (Ok bytes)
    pub old : Option (Vec ℕ Global)
    pub lock_read : IsOld reads lock (Ok old)
    pub given : Option (List ℕ)
    pub given_is : given ≡ bytes_if old
    pub derivation : Vec ℕ Global
    pub proof_read : reads proof most_of_proof (Ok derivation)
    pub from : List ℕ
    pub source_is : IsSource source from
    pub folder : F
    pub opened : opens index folder
    pub after : F
    pub checks : Checks calls failed (record { manifest = bytes.items; old = given; source = from; prefer = Newest })
        derivation.items folder said after

  -- Why there is no answer: the first of what is read that can't be had; then memory, which may be wanting for the
  -- source's own text or to open the folder; or the fault of what was read.
  abbrev pub LacksVerdict : List ℕ → List ℕ → List ℕ → Option (List ℕ) → Ending → Type 0
  LacksVerdict manifest index lock source ending = LacksFirst reads manifest source ending
      ⊎ (HasFirst reads manifest source × IsFile reads lock most_of_lock (Err ending))
      ⊎ (HasFirst reads manifest source × HasFile reads lock most_of_lock × WantsMemory ending)
      ⊎ ((f : Fault) × IsVerdictOf manifest index lock source (Err f) × (ending_view ending ≡ fault (Input f)))

  abbrev pub LacksAnswer : List ℕ → List ℕ → Option (List ℕ) → Option (List ℕ) → Bool → Ending → Type 0
  LacksAnswer manifest index lock source rust_first ending = LacksFirst reads manifest source ending
      ⊎ (HasFirst reads manifest source × IsOld reads lock (Err ending))
      ⊎ (HasFirst reads manifest source × HasOld reads lock × WantsMemory ending)
      ⊎ ((f : Fault) × IsAnswerTo manifest index lock source rust_first (Err f)
      × (ending_view ending ≡ fault (Input f)))

  abbrev pub LacksCheck : List ℕ → List ℕ → Option (List ℕ) → Option (List ℕ) → List ℕ → Ending → Type 0
  LacksCheck manifest index lock source proof ending = LacksFirst reads manifest source ending
      ⊎ (HasFirst reads manifest source × IsOld reads lock (Err ending))
      ⊎ (HasFirst reads manifest source × HasOld reads lock × IsFile reads proof most_of_proof (Err ending))
      ⊎ (HasFirst reads manifest source × HasOld reads lock × HasFile reads proof most_of_proof × WantsMemory ending)
      ⊎ ((f : CheckFault) × IsCheckOf manifest index lock source proof (Err f) × (ending_view ending ≡ fault f))

-- the derivation of a refusal is in the file that is named, if one is, and nothing else is written to the disk
abbrev pub IsFiled : Writing → Option (List ℕ) → Answer → Type 0
IsFiled writes path (Lock bytes kept skips) = writes None
IsFiled writes path (Unsolvable derivation text skips) = IsKept writes path derivation (Ok tt)

-- an answer that there is can't be written: a write of the lock to standard output failed, or one of the derivation to
-- its file
abbrev pub IsUnwritten : Writing → (List ℕ → Type 0) → Option (List ℕ) → Answer → Ending → Type 0
IsUnwritten writes fails path (Lock bytes kept skips) ending =
    (ending_view ending ≡ cannot_write) × fails bytes.items × writes None
IsUnwritten writes fails path (Unsolvable derivation text skips) ending = IsKept writes path derivation (Err ending)

module _ {F : Type 0} (reads : Reading) (writes : Writing) (opens : List ℕ → F → Type 0)
    (calls : Calls F) (failed : F → ℕ) where
  -- a command that has an answer: standard output before and after, what is told on standard error, and the status
  abbrev pub Answers : WordsView → Option (List ℕ) → Option (List ℕ) → List (List ℕ) → ℕ → Type 0
  Answers (resolve manifest index lock source proof rust_first) old new told status =
      (answer : Answer) × IsAnswerTo reads opens calls failed manifest index lock source rust_first (Ok answer)
      × IsPrinted old new answer status × IsFiled writes proof answer × (told ≡ told_of answer (Ok status))
  Answers (verify manifest index lock source) old new told status =
      ((verdict : Verdict) × IsVerdictOf reads opens calls failed manifest index lock source (Ok verdict)
      × (status ≡ verdict_status verdict) × Appends old new (line_of (verdict_text verdict)))
      × (told ≡ []) × writes None
  Answers (check manifest index lock source proof) old new told status =
      ((c : Check) × IsCheckOf reads opens calls failed manifest index lock source proof (Ok c)
      × (status ≡ check_status c) × Appends old new (line_of (check_text c))) × (told ≡ []) × writes None
  Answers (explain proof) old new told status =
      ((text : List ℕ) × IsTextOf reads proof text × (status ≡ 0) × Appends old new text) × (told ≡ []) × writes None

module _ {F : Type 0} (reads : Reading) (writes : Writing) (opens : List ℕ → F → Type 0) (calls : Calls F)
    (failed : F → ℕ) (fails : List ℕ → Type 0) where
  -- A command that ends with the status 2: there is no answer, or it can't be written, for a write of it failed. The
  -- skipped lines are told where there is one.
  abbrev pub Endings : WordsView → List (List ℕ) → Ending → Type 0
  Endings (resolve manifest index lock source proof rust_first) told ending =
      (LacksAnswer reads opens calls failed manifest index lock source rust_first ending × (told ≡ []) × writes None)
      ⊎ ((answer : Answer) × IsAnswerTo reads opens calls failed manifest index lock source rust_first (Ok answer)
      × IsUnwritten writes fails proof answer ending × (told ≡ told_of answer (Err ending)))
  Endings (verify manifest index lock source) told ending =
      (LacksVerdict reads opens calls failed manifest index lock source ending
      ⊎ ((verdict : Verdict) × IsVerdictOf reads opens calls failed manifest index lock source (Ok verdict)
      × (ending_view ending ≡ cannot_write) × fails (line_of (verdict_text verdict)))) × (told ≡ []) × writes None
  Endings (check manifest index lock source proof) told ending =
      (LacksCheck reads opens calls failed manifest index lock source proof ending
      ⊎ ((c : Check) × IsCheckOf reads opens calls failed manifest index lock source proof (Ok c)
      × (ending_view ending ≡ cannot_write) × fails (line_of (check_text c)))) × (told ≡ []) × writes None
  Endings (explain proof) told ending = (LacksText reads proof ending
      ⊎ ((text : List ℕ) × IsTextOf reads proof text × (ending_view ending ≡ cannot_write) × fails text))
      × (told ≡ []) × writes None

  -- A run whose words are taken: what the command does and tells, and then, where it has no answer or can't write it,
  -- the line that says why. Standard output is unchanged unless an answer was to be written.
  pub record IsRunOf (words : List (List ℕ)) (old new : Option (List ℕ)) (tells : List (List ℕ) → Type 0)
      (unchanged : Type 0) (status : ℕ) : Type 0 where
    pub view : WordsView
    pub taken : faults (or_help words) ≡ []
    pub asks : asked words ≡ Some view
    pub given : Result ℕ Ending
    pub status_is : status ≡ status_of given
    -- what the command tells on standard error
    pub told : List (List ℕ)
    pub answers : IfOk given (Answers reads writes opens calls failed view old new told)
    pub ends : IfErr given (Endings view told)
    pub ended_before : has_ended_before given ≡ true → unchanged
    pub ended : tells (told ++ ending_of given)

  -- A run: as the words ask, or, where they ask for nothing, what is said of them; with standard output before and
  -- after, and with what it means that texts were told on standard error.
  abbrev pub Runs : List (List ℕ) → Option (List ℕ) → Option (List ℕ) → (List (List ℕ) → Type 0) → Type 0 → ℕ → Type 0
  Runs words old new tells unchanged status = IsRunOf words old new tells unchanged status
      ⊎ ((fault : WordsFault) × IsWordsFault (or_help words) fault × IsToldOfWords fails old new fault status
      × tells (told_of_words fault status) × writes None)
