-- A run of a folder in memory is one over a fixed index.
use Rattle.std.proofs.Common.{◌≡◌, ℕ, List, [], ◌∷◌, Option, ap, ◌∙◌, refl}
use Rattle.std.specs.List.{All}
use Rattle.model.specs.Content.{Content}
use Rattle.model.proofs.Lists.{all_none, all_cons}
use Rattle.manifest.specs.Manifests.{ManifestView}
use Rattle.index_reader.specs.Folders.{Files, MemoryCalls, file_at, path_of}
use Rattle.catalogue.specs.Runs.{Asked, Chain, IsRun}
use Rattle.catalogue.specs.Problems.{IsRunOver}

module _ (folder : Files) where
  abbrev files : List ℕ → Option (List ℕ)
  files name = file_at folder (path_of name)

  pub chain-answers : (asked : List Asked) (before after : Files) → before ≡ folder
      → Chain MemoryCalls before asked after → All (λ a. a.1 ≡ files a.0) asked
  chain-answers [] before after same chain = all_none (λ (a : Asked). a.1 ≡ files a.0)
  chain-answers (a ∷ asked) before after same (mid, call, chain) =
      all_cons (λ (a : Asked). a.1 ≡ files a.0) a asked (call.0 ∙ ap (λ f. file_at f (path_of a.0)) same)
      (chain-answers asked mid after (call.1 ∙ same) chain)

  pub run-over : (manifest : ManifestView) (old : Content) (source : List ℕ) (asked : List Asked) (after : Files)
      → IsRun old source manifest.brings.dependencies MemoryCalls folder asked after
      → IsRunOver files manifest old source asked
  run-over manifest old source asked after run =
      record { answers = chain-answers asked folder after refl run.chain; in_turn = run.in_turn; ended = run.ended }
