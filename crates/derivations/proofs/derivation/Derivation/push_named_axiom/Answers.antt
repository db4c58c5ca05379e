use Rattle.std.proofs.Common.{length, subst, sym}
use Rattle.model.specs.Derivation.{given}
use Rattle.vertices.specs.Texts.{kind_view}
use Rattle.derivations.specs.inner.Derivations.{IsStepAt}
use Rattle.derivations.specs.inner.Named.{named_views}
use Rattle.derivations.proofs.BuildingLaws.{terms-are}
use Rattle.derivations.proofs.derivation.Derivation.push_named_axiom.Goals as goal

pub push_named-requires : goal.push_named-requires
push_named-requires c =
    subst (λ ts. IsStepAt (length c.args.self.now) (given (kind_view c.args.kind) ts)) (sym c.in_ok-ordered.ensures)
    (tt, terms-are (named_views c.args.terms.now) c.requires)
