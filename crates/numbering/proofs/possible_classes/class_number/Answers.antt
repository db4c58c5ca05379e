use Rattle.std.proofs.Common.{Bool, List, ap, ◌∙◌}
use Rattle.std.specs.List.{position}
use Rattle.classes.specs.Classes.{class_view}
use Rattle.features.specs.Views.{dependency_view}
use Rattle.model.specs.Vertices.{dep_classes}
use Rattle.numbering.specs.inner.KnownProblem.{problem}
use Rattle.numbering.proofs.StateNumbers.{class_after_absent}
use Rattle.numbering.proofs.possible_classes.class_number.Goals as goal

pub returns : goal.returns
returns c =
    c.state_of.ensures ∙ ap (λ (ts : List Bool). position (λ b. b) ts) c.in_ok-lone.ensures
    ∙ class_after_absent (class_view c.args.class)
    (dep_classes (problem c.args.known.now) (dependency_view c.args.dependency.now))
