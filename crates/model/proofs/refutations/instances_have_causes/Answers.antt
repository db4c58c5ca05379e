use Rattle.model.proofs.CauseLaws.{instance_cause}
use Rattle.model.proofs.refutations.instances_have_causes.Goals as goal

pub returns : goal.returns
returns c = λ q k ts h. let r = instance_cause q k ts h in (r.cause, r.there, r.kind, r.terms)
