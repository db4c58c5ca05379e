use Rattle.std.proofs.Common.{◌∙◌, ◌∷◌, true, sym, ap}
use Rattle.features.specs.Views.{requirement_view}
use Rattle.numbering.proofs.RangeLaws.{left_is}
use Rattle.numbering.proofs.space_tests.left_tests.Goals as goal

pub returns-in-Some : goal.returns-in-Some
returns-in-Some c =
    let cs = requirement_view c.args.requirement.now in
    let vs = c.args.versions.now in
    c.range_tests.ensures
    ∙ ap (λ l. true ∷ l) (sym (left_is cs vs c.in-Some.from c.in-Some.to c.in-Some.ensures.1.1))
