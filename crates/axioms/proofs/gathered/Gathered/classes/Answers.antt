use Rattle.std.proofs.Common.{subst}
use Rattle.std.proofs.lemmas.Option.{IfSome_then}
use Rattle.features.specs.Views.{dependency_view}
use Rattle.model.specs.Vertices.{dep_classes}
use Rattle.axioms.specs.inner.Keeping.{AreAll}
use Rattle.axioms.proofs.gathered.Gathered.classes.Goals as goal

pub returns : goal.returns
returns c = IfSome_then c.classes.result c.classes.ensures
    (λ ks are. subst (λ q. AreAll (dep_classes q (dependency_view c.args.dependency.now)) ks.now)
    c.args.self.now.kept_are are)
