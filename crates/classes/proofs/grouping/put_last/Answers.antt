use Rattle.std.proofs.Common.{◌≡◌, ◌<◌, ◌-◌, get_or, length, rules, vec_len}
use Rattle.classes.proofs.LastLemmas.{with_last-set}
use Rattle.classes.proofs.grouping.put_last.Goals as goal

pub returns-in_ok-push : goal.returns-in_ok-push
returns-in_ok-push c =
    let counted : vec_len c.args.groups.now ≡ length c.args.groups.now.items = search rules in
    let some : 0 < vec_len c.args.groups.now = search rules in
    let last : c.in-Some.last.now
    ≡ get_or c.args.groups.now.items (vec_len c.args.groups.now - 1) c.in-Some.last.now = search rules in
    with_last-set c.args.position c.args.groups.now.items
    (vec_len c.args.groups.now) c.in-Some.last.now c.push.new.self counted some last c.in_ok-push.ensures.items
