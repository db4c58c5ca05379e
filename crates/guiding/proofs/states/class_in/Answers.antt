use Rattle.std.proofs.Common.{None, ◌∙◌, sym, subst, arith}
use Rattle.classes.specs.Classes.{class_view}
use Rattle.features.specs.Views.{dependency_view}
use Rattle.lockfile.specs.inner.Views.{package_view, package_views}
use Rattle.model.specs.Vertices.{dep}
use Rattle.numbering.specs.inner.KnownProblem.{problem}
use Rattle.vertices.specs.inner.RefViews.{owner_ref_view}
use Rattle.guiding.specs.inner.Found.{IsStateIn}
use Rattle.guiding.proofs.InContent.{few_classes, none_led, one_led}
use Rattle.guiding.proofs.states.class_in.Goals as goal

pub returns-in_default-led_to : goal.returns-in_default-led_to
returns-in_default-led_to c =
    none_led (problem c.args.known.now) (package_views c.args.content.now) c.requires.valid
    (owner_ref_view c.args.owner.now) c.args.number
    (dependency_view c.in-Some.dependency.now) c.in-Some.ensures None c.in_default-led_to.ensures

pub overflow_cast-result : goal.overflow_cast-result
overflow_cast-result c =
    let o = owner_ref_view c.args.owner.now in
    let few = few_classes (problem c.args.known.now) (package_views c.args.content.now) c.requires.valid o c.args.number
    (dependency_view c.in-Some.dependency.now) c.in-Some.ensures (class_view c.of-class.result) c.in-Some-2.number
    (sym c.in-Some-2.is ∙ c.in_ok-number.ensures) (c.spaces_are_small.ensures (dep o c.args.number)).1 in
    omega (arith, few)

pub returns-in-Some-2 : goal.returns-in-Some-2
returns-in-Some-2 c =
    let q = problem c.args.known.now in
    let content = package_views c.args.content.now in
    let o = owner_ref_view c.args.owner.now in
    subst (IsStateIn q content (dep o c.args.number)) (sym c.in_ok-number.ensures ∙ c.in-Some-2.is)
    (one_led q content c.requires.valid o c.args.number (dependency_view c.in-Some.dependency.now) c.in-Some.ensures
    (package_view c.in-Some-led_to.locked.now) (class_view c.of-class.result) c.in-Some-led_to.ensures
    c.of-class.ensures)

pub returns-in-None : goal.returns-in-None
returns-in-None c =
    let q = problem c.args.known.now in
    let content = package_views c.args.content.now in
    let o = owner_ref_view c.args.owner.now in
    subst (IsStateIn q content (dep o c.args.number)) (sym c.in_ok-number.ensures ∙ c.in-None.is)
    (one_led q content c.requires.valid o c.args.number (dependency_view c.in-Some.dependency.now) c.in-Some.ensures
    (package_view c.in-Some-led_to.locked.now) (class_view c.of-class.result) c.in-Some-led_to.ensures
    c.of-class.ensures)
