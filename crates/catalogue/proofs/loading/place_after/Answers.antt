use Rattle.std.proofs.Common.{ap, ◌∙◌, sym}
use Rattle.model.specs.Summary.{same_text}
use Rattle.features.specs.declared.dependency.DependencyParts.{DependencyParts}
use Rattle.catalogue.proofs.NameLaws.{meant-at}
use Rattle.catalogue.proofs.loading.place_after.Goals as goal

pub returns-then-eq : goal.returns-then-eq
returns-then-eq c =
    meant-at c.args.name.now c.args.dependencies.now _ c.get.result c.in-Some.dependency c.get.ensures.lookup
    c.in-Some.is
    (ap (λ (d : DependencyParts). same_text c.args.name.now d.real_name) (sym c.deref.ensures) ∙ sym c.eq.ensures
    ∙ c.if-eq.true)
