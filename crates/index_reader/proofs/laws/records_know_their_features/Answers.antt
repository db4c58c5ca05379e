use Rattle.index_reader.proofs.FileLaws.{file-kept}
use Rattle.index_reader.proofs.laws.records_know_their_features.Goals as goal

pub returns : goal.returns
returns c = λ name bytes. (file-kept name bytes).known
