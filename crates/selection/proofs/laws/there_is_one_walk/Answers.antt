use Rattle.catalogue.specs.Problems.{preferred_in, problem_in}
use Rattle.selection.proofs.Picks.{preferred_among}
use Rattle.selection.proofs.laws.there_is_one_walk.Goals as goal

pub returns : goal.returns
returns c =
    let q = problem_in c.args.manifest.now c.args.catalogue.now in
    let preferred = preferred_in c.args.catalogue.now in
    let (walk, is) =
    c.walks_exist.ensures q preferred c.catalogues_are_well_formed.ensures (preferred_among c.args.catalogue.now) in
    (walk, is, λ other o. c.walks_are_unique.ensures q preferred other walk o is)
