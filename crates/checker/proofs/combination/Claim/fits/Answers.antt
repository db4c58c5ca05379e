use Rattle.std.proofs.Common.{◌∙◌, sym}
use Rattle.derivations.specs.inner.Tables.{term_at}
use Rattle.checker.specs.inner.Claims.{claim_first, claim_problem, claim_second, claim_tables, claim_terms}
use Rattle.checker.specs.inner.Claims.{claim_vertex}
use Rattle.checker.proofs.CombinationLaws.{fits_there, fits_elsewhere}
use Rattle.checker.proofs.combination.Claim.fits.Goals as goal

pub returns-then-is_same_vertex : goal.returns-then-is_same_vertex
returns-then-is_same_vertex c =
    let k = c.args.self.now in
    rw (c.find-said.ensures.said, c.find-first.ensures.said, c.find-second.ensures.said) at c.is_union.ensures
    ∙ fits_there (claim_problem k) (claim_vertex k) (claim_first k) (claim_second k) (claim_terms k)
    (term_at (claim_tables k) c.args.term.now) (sym c.is_same_vertex.ensures ∙ c.if-is_same_vertex.true)

pub returns-else-is_same_vertex : goal.returns-else-is_same_vertex
returns-else-is_same_vertex c =
    let k = c.args.self.now in
    rw (c.find-said.ensures.said, c.find-first.ensures.said, c.find-second.ensures.said) at c.is_meet.ensures
    ∙ fits_elsewhere (claim_problem k) (claim_vertex k) (claim_first k) (claim_second k) (claim_terms k)
    (term_at (claim_tables k) c.args.term.now) (sym c.is_same_vertex.ensures ∙ c.if-is_same_vertex.false)
