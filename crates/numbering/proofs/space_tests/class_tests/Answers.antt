use Rattle.std.proofs.Common.{ap, cond, length, ◌+◌, ◌∙◌}
use Rattle.classes.specs.Classes.{class_view}
use Rattle.version_sets.specs.Sets.{none, only}
use Rattle.numbering.proofs.Alone.{class_alone_is}
use Rattle.numbering.proofs.space_tests.class_tests.Goals as goal

pub returns : goal.returns
returns c =
    let n = length c.args.classes.now in
    let p = c.lower_classes-place.result in
    c.alone.ensures ∙ ap (λ b. cond b (only (n + 1) (p + 1)) (none (n + 1))) c.is_class_at.ensures
    ∙ class_alone_is (class_view c.args.class) c.args.classes.now p c.requires c.lower_classes-place.ensures.place
