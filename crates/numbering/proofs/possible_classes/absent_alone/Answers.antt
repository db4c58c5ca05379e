use Rattle.std.proofs.Common.{ap, ◌∙◌, map}
use Rattle.classes.specs.Classes.{class_view}
use Rattle.features.specs.Views.{dependency_view}
use Rattle.numbering.specs.inner.KnownProblem.{problem}
use Rattle.model.specs.Vertices.{dep_classes}
use Rattle.numbering.proofs.Alone.{none_of_classes}
use Rattle.numbering.proofs.possible_classes.absent_alone.Goals as goal

pub returns-in-Some : goal.returns-in-Some
returns-in-Some c =
    c.no_class.ensures ∙ none_of_classes c.in-Some.classes.now
    (dep_classes (problem c.args.known.now) (dependency_view c.args.dependency.now))
    (c.in-Some.ensures ∙ ap (λ q. dep_classes q (dependency_view c.args.dependency.now)) c.args.known.now.matched_there)

pub returns : goal.returns
returns c =
    c.no_class-2.ensures ∙ none_of_classes c.as_slice.result.now
    (dep_classes (problem c.args.known.now) (dependency_view c.args.dependency.now))
    (ap (map class_view) c.as_slice.ensures.value ∙ c.in_ok-classes.ensures)
