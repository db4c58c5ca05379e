use Rattle.std.proofs.Common.{ap, ◌∙◌, map}
use Rattle.classes.specs.Classes.{class_view}
use Rattle.features.specs.Views.{dependency_view}
use Rattle.model.specs.Vertices.{dep_classes}
use Rattle.numbering.specs.inner.KnownProblem.{problem}
use Rattle.numbering.proofs.Alone.{are_lowest, one_of_classes}
use Rattle.numbering.proofs.possible_classes.class_alone.Goals as goal

pub class_tests-requires : goal.class_tests-requires
class_tests-requires c =
    are_lowest (problem c.args.known.now) (dependency_view c.args.dependency.now) c.in-Some.classes.now
    c.catalogues_are_well_formed.ensures
    (c.in-Some.ensures ∙ ap (λ q. dep_classes q (dependency_view c.args.dependency.now)) c.args.known.now.matched_there)

pub returns-in-Some : goal.returns-in-Some
returns-in-Some c =
    c.class_tests.ensures ∙ one_of_classes (class_view c.args.class) c.in-Some.classes.now
    (dep_classes (problem c.args.known.now) (dependency_view c.args.dependency.now))
    (c.in-Some.ensures ∙ ap (λ q. dep_classes q (dependency_view c.args.dependency.now)) c.args.known.now.matched_there)

pub class_tests-requires-2 : goal.class_tests-requires-2
class_tests-requires-2 c =
    are_lowest (problem c.args.known.now) (dependency_view c.args.dependency.now) c.as_slice.result.now
    c.catalogues_are_well_formed.ensures (ap (map class_view) c.as_slice.ensures.value ∙ c.in_ok-classes.ensures)

pub returns : goal.returns
returns c =
    c.class_tests-2.ensures ∙ one_of_classes (class_view c.args.class) c.as_slice.result.now
    (dep_classes (problem c.args.known.now) (dependency_view c.args.dependency.now))
    (ap (map class_view) c.as_slice.ensures.value ∙ c.in_ok-classes.ensures)
