use Rattle.std.proofs.Common.{◌++◌, ◌∷◌, [], ap, sym, subst, ◌∙◌}
use Rattle.derivations.specs.inner.Derivations.{IsDerivation}
use Rattle.derivations.specs.inner.Named.{named_step_from, set_in_order_views}
use Rattle.derivations.proofs.ReadLaws.{one-after}
use Rattle.derivations.proofs.TableLaws.{kept-steps, more-steps, on-err}
use Rattle.derivations.proofs.derivation.Derivation.push_named.Goals as goal

-- the tables may have grown: so the steps stay what they were

pub invariant_of-self : goal.invariant_of-self
invariant_of-self c =
    let kept = kept-steps c.self.inside.tables c.keep_named.new.tables c.keep_named.ensures.grown
    c.self.inside.steps.items c.self.invariant.0 in
    (kept.0, subst IsDerivation (sym kept.1) c.self.invariant.1)

pub returns-in_err-kept-clause-err : goal.returns-in_err-kept-clause-err
returns-in_err-kept-clause-err c =
    let kept = kept-steps c.self.inside.tables c.keep_named.new.tables c.keep_named.ensures.grown
    c.self.inside.steps.items c.self.invariant.0 in
    on-err c.from_residual.result (kept.1 ∙ c.self.view_is)

pub invariant_of-self-in_err-push : goal.invariant_of-self-in_err-push
invariant_of-self-in_err-push c =
    let kept = kept-steps c.self.inside.tables c.keep_named.new.tables c.keep_named.ensures.grown
    c.self.inside.steps.items c.self.invariant.0 in
    rw c.in_err-push.ensures.items (kept.0, subst IsDerivation (sym kept.1) c.self.invariant.1)

pub returns-in_err-push-clause-err : goal.returns-in_err-push-clause-err
returns-in_err-push-clause-err c =
    let kept = kept-steps c.self.inside.tables c.keep_named.new.tables c.keep_named.ensures.grown
    c.self.inside.steps.items c.self.invariant.0 in
    on-err c.from_residual-in_err-push.result (rw c.in_err-push.ensures.items (kept.1 ∙ c.self.view_is))

pub invariant_of-self-2 : goal.invariant_of-self-2
invariant_of-self-2 c =
    let more = more-steps c.self.inside.tables c.keep_named.new.tables c.self.inside.steps.items c.in_ok-kept.kept
    (named_step_from c.args.origin (set_in_order_views c.args.terms.items)) c.keep_named.ensures.grown
    c.self.invariant.0 c.in_ok-kept.ensures.within c.in_ok-kept.ensures.step in
    let whole = more.1
    ∙ ap (λ ss. ss ++ named_step_from c.args.origin (set_in_order_views c.args.terms.items) ∷ []) c.self.view_is in
    rw c.in_ok-push.ensures.items (
      more.0,
      subst IsDerivation (sym whole)
          (one-after c.args.self.now (named_step_from c.args.origin (set_in_order_views c.args.terms.items))
          (subst IsDerivation c.self.view_is c.self.invariant.1) c.requires),
    )

pub returns-clause-ok : goal.returns-clause-ok
returns-clause-ok c =
    let more = more-steps c.self.inside.tables c.keep_named.new.tables c.self.inside.steps.items c.in_ok-kept.kept
    (named_step_from c.args.origin (set_in_order_views c.args.terms.items)) c.keep_named.ensures.grown
    c.self.invariant.0 c.in_ok-kept.ensures.within c.in_ok-kept.ensures.step in
    rw c.in_ok-push.ensures.items (more.1
    ∙ ap (λ ss. ss ++ named_step_from c.args.origin (set_in_order_views c.args.terms.items) ∷ []) c.self.view_is)
