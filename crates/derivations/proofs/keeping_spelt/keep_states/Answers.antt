use Rattle.std.proofs.Common.{◌≡◌, ◌+◌, ◌++◌, ◌∷◌, [], append-nil, ap, ap₂, sym, take, ◌∙◌}
use Rattle.std.proofs.lemmas.List.{map_more}
use Rattle.vertices.specs.inner.RefViews.{state_ref_view, state_ref_views}
use Rattle.derivations.proofs.TableLaws.{grown-trans, more-states}
use Rattle.derivations.proofs.keeping_spelt.keep_states.Goals as goal

pub states-preserved : goal.states-preserved
states-preserved c =
    let i = c.states.state-index in
    let s = c.state-item.result in
    let number = c.in_ok-number.ensures.number in
    let next = ap₂ (λ xs x. xs ++ x ∷ []) c.states.invariant.2 (ap state_ref_view c.state-item.is)
    ∙ sym (map_more state_ref_view c.args.states.now i s c.states-test.true) in
    let more = more-states c.states.tables c.add_state_ref.new.self c.states.kept.items c.in_ok-number.number
    (state_ref_view s) [] (state_ref_views (take (i + 1) c.args.states.now))
    c.in_ok-number.ensures.grown c.states.invariant.1 number.0 number.1 next in (
      grown-trans c.args.tables.now c.states.tables c.add_state_ref.new.self c.states.invariant.0
          c.in_ok-number.ensures.grown,
      rw c.in_ok-push.ensures.items more.0,
      rw c.in_ok-push.ensures.items (sym (append-nil _) ∙ more.1),
    )

pub returns-in_err-number-clause-grown : goal.returns-in_err-number-clause-grown
returns-in_err-number-clause-grown c = grown-trans c.args.tables.now c.states.tables c.add_state_ref.new.self
    c.states.invariant.0 c.in_err-number.ensures.grown

pub returns-in_err-push-clause-grown : goal.returns-in_err-push-clause-grown
returns-in_err-push-clause-grown c = grown-trans c.args.tables.now c.states.tables c.add_state_ref.new.self
    c.states.invariant.0 c.in_ok-number.ensures.grown
