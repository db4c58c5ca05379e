use Rattle.std.proofs.Common.{◌∙◌, ◌&&◌, sym}
use Rattle.model.specs.inner.Terms.{is_within}
use Rattle.lookups.specs.inner.Sets.{all_in_either}
use Rattle.lookups.proofs.SetLaws.{and_then, and_else, union_is}
use Rattle.lookups.proofs.states.StateSet.is_union.Goals as goal

pub returns-then-lies_in_either : goal.returns-then-lies_in_either
returns-then-lies_in_either c =
    let ss = c.args.self.now in
    let a = c.args.a.now in
    let b = c.args.b.now in
    c.has_all.ensures ∙ and_then (all_in_either ss a b) (is_within a ss && is_within b ss) _
    (sym c.lies_in_either.ensures ∙ c.if-lies_in_either.true) (union_is ss a b)

pub returns-else-lies_in_either : goal.returns-else-lies_in_either
returns-else-lies_in_either c =
    let ss = c.args.self.now in
    let a = c.args.a.now in
    let b = c.args.b.now in
    c.lies_in_either.ensures ∙ and_else (all_in_either ss a b) (is_within a ss && is_within b ss) _
    (sym c.lies_in_either.ensures ∙ c.if-lies_in_either.false) (union_is ss a b)
