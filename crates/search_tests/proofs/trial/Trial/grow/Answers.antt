use Rattle.std.proofs.Common.{[], ◌∷◌, ◌++◌, ap, ◌∙◌, sym, subst}
use Rattle.incompatibilities.specs.Stores.{entries_view}
use Rattle.propagation.specs.Trails.{trail_view}
use Rattle.propagation.proofs.Widened.{below_proper}
use Rattle.search_tests.specs.inner.Meeting.{IsMeeting}
use Rattle.search_tests.proofs.Fitting.{meets_wider}
use Rattle.search_tests.proofs.trial.Trial.grow.Goals as goal

pub invariant_of-self-2 : goal.invariant_of-self-2
invariant_of-self-2 g c =
    let tests = g.S.States.tests in
    let es = entries_view tests c.self.inside.store in
    let old = trail_view tests c.self.inside.trail in
    let new = trail_view tests c.grow.new.self in
    subst (λ spaces. IsMeeting spaces es new)
    (sym (c.push_reserved.ensures.items ∙ ap (λ xs. xs ++ c.args.universe ∷ []) c.reserve.ensures.items))
    (meets_wider c.self.inside.spaces.items c.args.universe es old new c.self.invariant c.requires
    (c.grow.ensures.trail es (below_proper old es c.is_proper.ensures c.self.invariant.trail.lies)
    c.self.invariant.trail) c.in_ok-grow.ensures.wider)
