use Rattle.numbering.proofs.StateNumbers.{one_first, past_first}
use Rattle.numbering.proofs.space_tests.state_of.Goals as goal

pub returns-then-lone : goal.returns-then-lone
returns-then-lone c = one_first c.args.lone.now.states c.args.lone.now.state c.if-lone.true

pub returns-else-lone : goal.returns-else-lone
returns-else-lone c = past_first c.args.lone.now.states c.args.lone.now.state c.if-lone.false
