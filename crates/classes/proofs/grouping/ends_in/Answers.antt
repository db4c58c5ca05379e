use Rattle.std.proofs.Common.{◌≡◌, Some, length, ◌-◌, slice_get, rules, sym, ◌∙◌}
use Rattle.classes.specs.Classes.{class_view}
use Rattle.classes.proofs.LastLemmas.{ends_in-some}
use Rattle.classes.proofs.grouping.ends_in.Goals as goal

pub returns-in-Some : goal.returns-in-Some
returns-in-Some c =
    let last : slice_get c.args.groups.now (length c.args.groups.now - 1) ≡ Some c.in-Some.last.now = search rules in
    c.same_class.ensures ∙ sym (ends_in-some (class_view c.args.class) c.args.groups.now c.in-Some.last.now last)
