use Rattle.std.proofs.Common.{Some, option_map, refl, ap, ◌∙◌}
use Rattle.index_reader.specs.Folders.{file_at}
use Rattle.index_reader.proofs.folder.MemoryFolderFolder.file.Goals as goal
use Rattle.index_reader.proofs.folder.MemoryFolderFolder.file.Goals.{in-Ok, in-Err}

pub returns-clause-answer : goal.returns-clause-answer
returns-clause-answer c = elim c.match-from_slice.branch [
  | in-Ok w ↦ rw w.result-is (
    ap Some (w.in-Ok.ensures.items ∙ c.as_slice.ensures.value) ∙ ap (option_map (λ v.
        v.items)) c.in-Some.ensures.value ∙ ap (λ f. file_at f c.args.path.now) c.self.view_is,
    refl,
  )
  | in-Err w ↦ rw w.result-is refl
]
