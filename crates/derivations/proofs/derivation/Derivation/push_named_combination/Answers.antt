use Rattle.std.proofs.Common.{length, subst, sym}
use Rattle.model.specs.Derivation.{combine}
use Rattle.derivations.specs.inner.Derivations.{IsStepAt}
use Rattle.derivations.specs.inner.Named.{named_views}
use Rattle.derivations.proofs.BuildingLaws.{terms-are}
use Rattle.derivations.proofs.derivation.Derivation.push_named_combination.Goals as goal

pub push_named-requires : goal.push_named-requires
push_named-requires c =
    subst (λ ts. IsStepAt (length c.args.self.now) (combine c.args.first c.args.second c.args.vertex.now ts))
    (sym c.in_ok-ordered.ensures) (
      (c.requires.first, c.requires.second, c.requires.vertex),
      terms-are (named_views c.args.terms.now) c.requires.terms,
    )
