use Rattle.std.proofs.Common.{◌∙◌, ap}
use Rattle.classes.specs.Classes.{class_view}
use Rattle.features.specs.Views.{dependency_view}
use Rattle.model.specs.Causes.{has_class}
use Rattle.axioms.proofs.gathered.Gathered.has_class.Goals as goal

pub returns : goal.returns
returns c = c.has_class.ensures
    ∙ ap (λ q. has_class q (class_view c.args.class) (dependency_view c.args.dependency.now)) c.args.self.now.kept_are
