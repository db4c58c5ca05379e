use Rattle.std.proofs.Common.{◌≡◌, ◌∙◌, ap, length, sym}
use Rattle.std.proofs.lemmas.Result.{IfOk-weaker}
use Rattle.version_sets.specs.Sets.{join}
use Rattle.version_sets.proofs.Laws.{length-join, length-only}
use Rattle.search_tests.proofs.made_terms.with_number.Goals as goal

pub returns : goal.returns
returns g c =
    let tests = g.S.States.tests in
    let wide : length (tests c.args.set) ≡ length (tests c.in_ok-one.one) =
    c.requires.universe ∙ sym (ap length c.in_ok-one.ensures ∙ length-only c.args.universe c.args.number) in
    IfOk-weaker c.union.result (λ s. tests s ≡ join (tests c.args.set) (tests c.in_ok-one.one))
    (λ s. length (tests s) ≡ c.args.universe)
    (λ s e. ap length e ∙ length-join (tests c.args.set) (tests c.in_ok-one.one) wide
    ∙ c.requires.universe) c.union.ensures
