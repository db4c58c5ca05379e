use Rattle.std.proofs.Common.{◌≡◌, ◌+◌, ◌-◌, ◌∙◌, ap, arith, drop, map, take}
use Rattle.classes.specs.Classes.{class_view}
use Rattle.lookups.proofs.Runs.{between_places}
use Rattle.lookups.proofs.classes_in.places_between.Goals as goal

pub returns-clause-classes : goal.returns-clause-classes
returns-clause-classes c =
    let from = c.lower_classes-from.result in
    let n = c.up_to_class.result in
    let many : (from + n) - from ≡ n = omega arith in
    ap (λ m. map class_view (take m (drop from c.args.classes.now))) many
    ∙ between_places (class_view c.args.lowest) (class_view c.args.highest) c.args.classes.now from n
    c.lower_classes-from.ensures.place c.up_to_class.ensures.few c.up_to_class.ensures.place
