use Rattle.std.specs.BTreeSet.{contains}
use Rattle.std.specs.Ordering.{nat_cmp}
use Rattle.selection.proofs.Leading.{led_step, led_all}
use Rattle.selection.proofs.enabled.places_led_to.Goals as goal

pub numbers-preserved : goal.numbers-preserved
numbers-preserved c =
    led_step c.args.enabled.now c.args.targets.now c.numbers.number c.target_enabled.result
    (contains nat_cmp c.numbers.places) (contains nat_cmp c.add_target.new.places) c.target_enabled.ensures
    c.in_ok-add_target.ensures c.numbers.invariant

pub returns : goal.returns
returns c = led_all c.args.enabled.now c.args.targets.now c.numbers.number
    (contains nat_cmp c.numbers.places) c.numbers-test.false c.numbers.invariant
