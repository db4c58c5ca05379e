use Rattle.std.proofs.Common.{◌≡◌, drop}
use Rattle.std.specs.List.{list_all}
use Rattle.derivations.specs.inner.Tables.{terms_at}
use Rattle.checker.specs.inner.Claims.{claim_tables, fits_or_said_claim}
use Rattle.checker.proofs.combination.Claim.all_fit_or_said.Given as goal

abbrev pub invariant-those : goal.invariant-those
invariant-those l = list_all (fits_or_said_claim l.self) (terms_at (claim_tables l.self) (drop l.term-index l.those))
    ≡ list_all (fits_or_said_claim l.self) (terms_at (claim_tables l.self) l.those)
