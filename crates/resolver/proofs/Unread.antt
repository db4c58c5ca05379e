-- Why the spelling of a chosen content doesn't read as it.
use Rattle.std.proofs.Common.{◌≡◌, ◌≢◌, ℕ, Bool, true, false, nat_le, length, Ok, inl, inr, refl, subst}
use Rattle.std.specs.List.{All}
use Rattle.std.proofs.lemmas.Bool.{leb-true, leb-false}
use Rattle.model.specs.Content.{Content, Problem, packages_if}
use Rattle.model.specs.Selection.{IsValidSelection}
use Rattle.lockfile.specs.Locks.{content_of_bytes, most_bytes}
use Rattle.lockfile.specs.Spelling.{spelling, IsWritable}
use Rattle.lockfile.proofs.Back.{bytes-back}
use Rattle.catalogue.specs.Problems.{IsProblemOfRun}
use Rattle.catalogue.specs.Runs.{Calls}
use Rattle.catalogue.specs.Sources.{is_source}
use Rattle.model.specs.Selected.{HasBareRoot}
use Rattle.resolver.specs.Inputs.{RequestView, AreRead, problem_of}
use Rattle.resolver.specs.Answers.{IsChosen, IsUnreadable}
use Rattle.resolver.specs.declared.inputs.Inputs.{Inputs}
use Rattle.resolver.proofs.Loaded.{loaded-run}
use Rattle.resolver.proofs.ManifestTexts.{manifest-texts}
use Rattle.resolver.proofs.Writable.{all-writable}

module _ {S : Type 0} (calls : Calls S) (failed : S → ℕ) (request : RequestView) (before : S) (inputs : Inputs)
    (after : S) (address : is_source request.source ≡ true)
    (read : AreRead calls failed request before inputs after) where
  run : IsProblemOfRun calls before inputs.manifest (packages_if inputs.old) request.source (problem_of inputs) after
  run = loaded-run calls failed request before inputs after read

  pub chosen-writable : (content : Content) → IsChosen inputs content → All IsWritable content
  chosen-writable content chosen =
      all-writable inputs.manifest (packages_if inputs.old) request.source run.asked
      (manifest-texts request.manifest inputs.manifest read.manifest_says) address
      run.run.in_turn content (subst (λ (q : Problem). IsValidSelection q content) run.is chosen.valid)
      (subst (λ (q : Problem). HasBareRoot q content) run.is chosen.bare_root)

  pub unreadable : (content : Content) → IsChosen inputs content
      → content_of_bytes (spelling content) ≢ Ok content → IsUnreadable content
  unreadable content chosen other = by (nat_le (length (spelling content)) most_bytes) refl
    where
      by : (b : Bool) → nat_le (length (spelling content)) most_bytes ≡ b → IsUnreadable content
      by true e = inr (λ is. other (bytes-back content chosen.valid.is_content (chosen-writable content chosen)
          (leb-true (length (spelling content)) most_bytes e) is))
      by false e = inl (leb-false (length (spelling content)) most_bytes e)
