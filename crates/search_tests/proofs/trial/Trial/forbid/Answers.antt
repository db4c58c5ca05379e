use Rattle.std.proofs.Common.{ℕ, List, sym, subst}
use Rattle.std.specs.Option.{IfSome}
use Rattle.incompatibilities.specs.Stores.{EntryView, entries_view}
use Rattle.incompatibilities.specs.declared.origin.Origin.TheVariants.{Axiom}
use Rattle.terms.specs.Terms.{terms_view}
use Rattle.propagation.specs.Trails.{trail_view}
use Rattle.search_tests.specs.inner.Meeting.{AreFit, IsMeeting, universe_at}
use Rattle.search_tests.proofs.Fitting.{meets_more}
use Rattle.search_tests.proofs.trial.Trial.forbid.Goals as goal

pub invariant_of-self-in-Some : goal.invariant_of-self-in-Some
invariant_of-self-in-Some g c =
    let tests = g.S.States.tests in
    let spaces = c.self.inside.spaces.items in
    let t = trail_view tests c.self.inside.trail in
    let es = entries_view tests c.self.inside.store in
    let e : EntryView = record { terms = terms_view tests c.new.result; origin = Axiom 0 } in
    let fits : IfSome c.in_ok-terms.field-0 (λ v. AreFit (universe_at spaces) (terms_view tests v.items)) =
    subst (λ (xs : List ℕ). IfSome c.in_ok-terms.field-0 (λ v. AreFit (universe_at xs) (terms_view tests v.items)))
    c.deref.ensures.value c.in_ok-terms.ensures in
    let fit : AreFit (universe_at spaces) (terms_view tests c.in-Some.terms.items) =
    subst (λ o. IfSome o (λ v. AreFit (universe_at spaces) (terms_view tests v.items))) c.in-Some.is fits in
    subst (λ xs. IsMeeting spaces xs t) (sym c.in_ok-add-in-Some.ensures.ok.1)
    (meets_more spaces es e t c.self.invariant (c.new.ensures.spaces (universe_at spaces) fit.lies))
