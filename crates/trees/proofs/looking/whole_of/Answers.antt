use Rattle.std.proofs.Common.{negsuc, unwrap_or, ap, ◌∙◌}
use Rattle.serde_json.specs.Data.{negative}
use Rattle.serde_json.specs.Find.{as_u64}
use Rattle.trees.proofs.looking.whole_of.Goals as goal

pub returns-in-Some : goal.returns-in-Some
returns-in-Some c = c.as_u64.ensures ∙ ap (λ o. as_u64 (unwrap_or o (negative (negsuc 0)))) c.in-Some.ensures

pub returns-in-None : goal.returns-in-None
returns-in-None c = ap (λ o. as_u64 (unwrap_or o (negative (negsuc 0)))) c.in-None.ensures
