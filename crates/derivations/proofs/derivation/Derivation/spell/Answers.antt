use Rattle.std.proofs.Common.{sym, subst, ◌∙◌}
use Rattle.derivations.specs.inner.Derivations.{IsDerivation}
use Rattle.derivations.proofs.TableLaws.{kept-steps}
use Rattle.derivations.proofs.derivation.Derivation.spell.Goals as goal

-- the tables may have grown: so the steps stay what they were

pub invariant_of-self : goal.invariant_of-self
invariant_of-self c =
    let kept = kept-steps c.self.inside.tables c.add_spelling.new.self c.add_spelling.ensures.grown
    c.self.inside.steps.items c.self.invariant.0 in
    (kept.0, subst IsDerivation (sym kept.1) c.self.invariant.1)

pub returns-in_err-number-clause-steps : goal.returns-in_err-number-clause-steps
returns-in_err-number-clause-steps c =
    let kept = kept-steps c.self.inside.tables c.add_spelling.new.self c.add_spelling.ensures.grown
    c.self.inside.steps.items c.self.invariant.0 in
    kept.1 ∙ c.self.view_is

pub invariant_of-self-2 : goal.invariant_of-self-2
invariant_of-self-2 c =
    let kept = kept-steps c.self.inside.tables c.add_spelling.new.self c.add_spelling.ensures.grown
    c.self.inside.steps.items c.self.invariant.0 in
    (kept.0, subst IsDerivation (sym kept.1) c.self.invariant.1)

pub returns-clause-steps : goal.returns-clause-steps
returns-clause-steps c =
    let kept = kept-steps c.self.inside.tables c.add_spelling.new.self c.add_spelling.ensures.grown
    c.self.inside.steps.items c.self.invariant.0 in
    kept.1 ∙ c.self.view_is
