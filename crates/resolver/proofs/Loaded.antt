-- What was loaded makes a catalogue, that of a run of the folder.
use Rattle.std.proofs.Common.{ℕ, sym, subst}
use Rattle.model.specs.Order.{IsCatalogue}
use Rattle.catalogue.specs.Loads.{rust_for}
use Rattle.catalogue.specs.Problems.{IsProblemOfRun}
use Rattle.catalogue.specs.Runs.{Calls}
use Rattle.catalogue.proofs.LawsCatalogues.{problem-loaded, run-catalogue}
use Rattle.resolver.specs.Inputs.{RequestView, AreRead, problem_of}
use Rattle.model.specs.Content.{packages_if}
use Rattle.resolver.specs.declared.inputs.Inputs.{Inputs}

module _ {S : Type 0} (calls : Calls S) (failed : S → ℕ) (request : RequestView) (before : S) (inputs : Inputs)
    (after : S) (read : AreRead calls failed request before inputs after) where
  pub loaded-run : IsProblemOfRun calls before inputs.manifest (packages_if inputs.old) request.source
      (problem_of inputs) after
  loaded-run = problem-loaded (packages_if inputs.old) request.source (rust_for request.prefer
      (inputs.manifest).rust_version) calls before inputs.manifest inputs.catalogue after read.loads.0

  pub loaded-catalogue : IsCatalogue (problem_of inputs)
  loaded-catalogue = subst IsCatalogue (sym loaded-run.is)
      (run-catalogue (packages_if inputs.old) request.source inputs.manifest loaded-run.asked loaded-run.run.in_turn)
