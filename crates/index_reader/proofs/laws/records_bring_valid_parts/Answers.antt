use Rattle.index_reader.proofs.ValidLemmas.{file-valid}
use Rattle.index_reader.proofs.laws.records_bring_valid_parts.Goals as goal

pub returns : goal.returns
returns c = λ name bytes short. file-valid name bytes short
