use Rattle.std.proofs.Common.{◌≡◌, ◌+◌, map, drop}
use Rattle.index_reader.specs.Files.{with_lines, no_lines, file_view}
use Rattle.index_reader.proofs.file.read_texts.Given as goal

-- the file so far, with the lines that are left, is the file with all of them
abbrev pub invariant-texts : goal.invariant-texts
invariant-texts l = with_lines l.name (l.index + 1) (map (λ x. x.now) (drop l.index l.texts))
    (file_view l.file.records.items l.file.skips.items) ≡ with_lines l.name 1 (map (λ x. x.now) l.texts) no_lines
