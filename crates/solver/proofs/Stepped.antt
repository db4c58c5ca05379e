-- Each package of what a search came to was assigned, so there are steps for all of them.
use Rattle.std.proofs.Common.{◌≡◌, ◌≤◌, ℕ, List, length, Option, Some, None, IfSome, is_some, sym, ap, subst, arith}
use Rattle.incompatibilities.specs.Stores.{EntryView}
use Rattle.propagation.specs.Trails.{TrailView}
use Rattle.model.specs.Content.{Content, Problem}
use Rattle.model.specs.inner.Search.{IsUnbroken}
use Rattle.model.specs.Selection.{IsValidSelection}
use Rattle.model.specs.Order.{IsCatalogue}
use Rattle.numbering.specs.inner.Assignments.{IsOf, state_of}
use Rattle.guiding.specs.inner.Following.{IsSelection}
use Rattle.guiding.specs.declared.turns.Answer.{Answer}
use Rattle.guiding.specs.declared.turns.Answer.TheVariants as answers
use Rattle.guiding.specs.inner.Guides.{CanFollow, EncodedView, HasFound, HasSearched, final_of}
use Rattle.model.specs.Selected.{HasBareRoot}
use Rattle.facts.proofs.Followed.{follows}
use Rattle.solver.proofs.Assigned.{packages_assigned}
use Rattle.solver.proofs.Left.{agrees_with}
use Rattle.solver.specs.Solving.{HasStepEach, IsAnswer}
use Rattle.solver.specs.declared.solving.Outcome.{Outcome}
use Rattle.solver.specs.declared.solving.Outcome.TheVariants.{Selection, Unsolvable}

unbroken_of : (q : Problem) (g : EncodedView) (t : TrailView) (es : List EntryView) (a : Answer)
    → HasFound q g t es a → IsSelection a → IsUnbroken q (state_of q g.vertices (final_of t))
unbroken_of q g t es answers.Selection found is = found
unbroken_of q g t es (answers.Unsolvable id) found is = absurd is

pub searched_in : (p q : Problem) (g : EncodedView) (t : TrailView) (es : List EntryView) (a : Answer) → p ≡ q
    → HasSearched p g t es a → HasSearched q g t es a
searched_in p q g t es a same searched = subst (λ p. HasSearched p g t es a) same searched

module _ (q : Problem) (g : EncodedView) (t : TrailView) (es : List EntryView) (a : Answer) (known : IsCatalogue q)
    (searched : HasSearched q g t es a) (same : g.problem ≡ q) (steps : ℕ) (standing : length t.steps ≤ steps) where
  pub stepped : (walk : Option Content) (o : Outcome) → g.follows ≡ walk → CanFollow q walk
      → IfSome walk (λ content. HasBareRoot q content) → IsAnswer q (length t.steps) walk o → HasStepEach q o steps
  stepped None (Selection content) is can bare found = λ brought. let few = found.3 in omega (arith, few, standing)
  stepped None (Unsolvable derivation) is can bare found = tt
  stepped (Some content) o is valid bare answer = subst (λ o. HasStepEach q o steps) (sym answer) (λ brought.
      let selects : IsSelection a = searched.followed.selects (ap is_some is) in
      let unbroken = unbroken_of q g t es a searched.found selects in
      let few = packages_assigned q g.vertices t searched.trail.sound known unbroken content
      (follows q content (state_of q g.vertices (final_of t)) valid unbroken
      (agrees_with q g.vertices content t searched.whole valid (record {
        alone = searched.done selects;
        agrees = λ x of. searched.followed.agrees x (
          content,
          is,
          subst (λ p. IsValidSelection p content) (sym same)
              valid,
          subst (λ p. IsOf p g.vertices content x) (sym same) of,
        );
      })) bare brought) in
      omega (arith, few, standing))
