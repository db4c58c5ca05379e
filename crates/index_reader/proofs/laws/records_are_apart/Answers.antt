use Rattle.index_reader.proofs.FileLaws.{file-kept}
use Rattle.index_reader.proofs.laws.records_are_apart.Goals as goal

pub returns : goal.returns
returns c = λ name bytes. (file-kept name bytes).apart
