use Rattle.std.proofs.Common.{◌∙◌, ◌&&◌, sym}
use Rattle.std.specs.List.{list_all}
use Rattle.lookups.proofs.SetLaws.{and_then, and_else}
use Rattle.checker.specs.inner.Claims.{claim_first, claim_problem, claim_second, claim_terms, claim_vertex, fits_claim}
use Rattle.checker.specs.inner.Claims.{fits_or_said_claim}
use Rattle.checker.proofs.CombinationLaws.{all_fit_is}
use Rattle.checker.proofs.combination.Claim.holds.Goals as goal

pub returns-then-all_fit : goal.returns-then-all_fit
returns-then-all_fit c =
    let k = c.args.self.now in
    let others = list_all (fits_or_said_claim k) (claim_first k) && list_all (fits_or_said_claim k) (claim_second k) in
    c.others_fit.ensures
    ∙ and_then (list_all (fits_claim k) (claim_terms k)) others _ (sym c.all_fit.ensures ∙ c.if-all_fit.true)
    (all_fit_is (claim_problem k) (claim_vertex k) (claim_first k) (claim_second k) (claim_terms k))

pub returns-else-all_fit : goal.returns-else-all_fit
returns-else-all_fit c =
    let k = c.args.self.now in
    let others = list_all (fits_or_said_claim k) (claim_first k) && list_all (fits_or_said_claim k) (claim_second k) in
    c.all_fit.ensures
    ∙ and_else (list_all (fits_claim k) (claim_terms k)) others _ (sym c.all_fit.ensures ∙ c.if-all_fit.false)
    (all_fit_is (claim_problem k) (claim_vertex k) (claim_first k) (claim_second k) (claim_terms k))
