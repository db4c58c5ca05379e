use Rattle.model.specs.Content.{candidates_of}
use Rattle.model.proofs.Owners.{candidate_at-is, is_candidate}
use Rattle.catalogue.specs.Problems.{candidates_by_name, problem_of}
use Rattle.catalogue.proofs.LawsCandidates.{in_asked}
use Rattle.catalogue.proofs.laws.selected_names_are_asked_for.Goals as goal

pub returns : goal.returns
returns c = λ manifest old source asked content n p valid other.
    let k = is_candidate (problem_of manifest old source asked) content valid n p other in
    in_asked old source asked p.name k.0
    (candidate_at-is (candidates_of (candidates_by_name old source asked) p.name) p.version k.0 k.2).0
