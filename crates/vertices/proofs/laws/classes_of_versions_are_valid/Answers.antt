use Rattle.vertices.proofs.Numbers.{class-of-valid}
use Rattle.vertices.proofs.laws.classes_of_versions_are_valid.Goals as goal

pub returns : goal.returns
returns c = class-of-valid
