use Rattle.std.proofs.Common.{◌+◌, sym, ap, arith}
use Rattle.std.specs.Option.{unwrap_or, option_map}
use Rattle.features.specs.Views.{brings_view}
use Rattle.features.proofs.PlaceLemmas.{place_of-within}
use Rattle.facts.proofs.rules.number_on.Goals as goal

pub overflow_add-result : goal.overflow_add-result
overflow_add-result c =
    let table = (brings_view c.args.node.now.brings).features in
    let inside = place_of-within c.args.feature.now table c.in-Some.place (sym c.in-Some.ensures) in
    omega (arith, inside, c.args.node.now.within)

pub returns-in-Some : goal.returns-in-Some
returns-in-Some c = ap (λ o. unwrap_or (option_map (λ i. c.args.node.now.features + i) o) c.args.node.now.lacks)
    c.in-Some.ensures

pub returns-in-None : goal.returns-in-None
returns-in-None c = ap (λ o. unwrap_or (option_map (λ i. c.args.node.now.features + i) o) c.args.node.now.lacks)
    c.in-None.ensures
