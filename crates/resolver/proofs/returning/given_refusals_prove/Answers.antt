use Rattle.resolver.proofs.Refused.{proved}
use Rattle.resolver.proofs.returning.given_refusals_prove.Goals as goal

pub returns : goal.returns
returns c = proved
