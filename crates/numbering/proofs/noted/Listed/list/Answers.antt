use Rattle.std.proofs.Common.{arith}
use Rattle.std.specs.HashMap.Entry.{map_with_value}
use Rattle.numbering.specs.declared.noted.Listed.{Listed}
use Rattle.numbering.proofs.NotedLaws.{pushed_kept, pushed_there, same_kept}
use Rattle.numbering.proofs.noted.Listed.list.Goals as goal

pub returns-in_err-push-clause-kept : goal.returns-in_err-push-clause-kept
returns-in_err-push-clause-kept c =
    let w = c.push.new.self in
    let after : Listed = record { on = map_with_value c.in_ok-self.field-0 w } in
    let kept = same_kept c.args.self.now after ((c.args.lead.owner, c.args.name), c.args.at) w
    (c.in_ok-self.ensures.update.0 w).0
    c.or_insert-those.result.now c.new.result c.in_ok-self.ensures.value c.or_insert-those.ensures.value
    c.new.ensures.items c.in_err-push.ensures.items in
    λ o x m p h. grind (arith, kept o x m p h)

pub returns-clause-kept : goal.returns-clause-kept
returns-clause-kept c =
    let w = c.push.new.self in
    let after : Listed = record { on = map_with_value c.in_ok-self.field-0 w } in
    let kept = pushed_kept c.args.self.now after ((c.args.lead.owner, c.args.name), c.args.at)
    (c.args.lead.number, c.args.lead.class) w
    (c.in_ok-self.ensures.update.0 w).0 c.or_insert-those.result.now c.new.result c.in_ok-self.ensures.value
    c.or_insert-those.ensures.value c.new.ensures.items c.in_ok-push.ensures.items in
    λ o x m p h. grind (arith, kept o x m p h)

pub returns-clause-listed : goal.returns-clause-listed
returns-clause-listed c =
    let w = c.push.new.self in
    let after : Listed = record { on = map_with_value c.in_ok-self.field-0 w } in
    let there = pushed_there c.args.self.now after ((c.args.lead.owner, c.args.name), c.args.at)
    (c.args.lead.number, c.args.lead.class) w
    (c.in_ok-self.ensures.update.0 w).0 c.or_insert-those.result.now c.new.result c.in_ok-self.ensures.value
    c.or_insert-those.ensures.value c.new.ensures.items c.in_ok-push.ensures.items in
    grind (arith, there)
