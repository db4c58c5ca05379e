use Rattle.std.proofs.Common.{◌∙◌, sym}
use Rattle.lookups.specs.inner.Sets.{all_in_both, all_shared_in}
use Rattle.lookups.proofs.SetLaws.{and_then, and_else, meet_is}
use Rattle.lookups.proofs.states.StateSet.is_meet.Goals as goal

pub returns-then-lies_in_both : goal.returns-then-lies_in_both
returns-then-lies_in_both c =
    let ss = c.args.self.now in
    let a = c.args.a.now in
    let b = c.args.b.now in
    c.shares_in.ensures ∙ and_then (all_in_both ss a b) (all_shared_in a b ss) _
    (sym c.lies_in_both.ensures ∙ c.if-lies_in_both.true) (meet_is ss a b)

pub returns-else-lies_in_both : goal.returns-else-lies_in_both
returns-else-lies_in_both c =
    let ss = c.args.self.now in
    let a = c.args.a.now in
    let b = c.args.b.now in
    c.lies_in_both.ensures ∙ and_else (all_in_both ss a b) (all_shared_in a b ss) _
    (sym c.lies_in_both.ensures ∙ c.if-lies_in_both.false) (meet_is ss a b)
