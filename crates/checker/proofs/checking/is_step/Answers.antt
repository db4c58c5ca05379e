use Rattle.std.proofs.Common.{◌∙◌, ap}
use Rattle.model.specs.inner.Terms.{is_combination}
use Rattle.axioms.specs.inner.GatheredViews.{problem_of}
use Rattle.derivations.specs.inner.Tables.{terms_at, vertex_at}
use Rattle.checker.specs.inner.Ready.{tables_of}
use Rattle.checker.proofs.StepLaws.{combined_step, lent}
use Rattle.checker.proofs.checking.is_step.Goals as goal

pub returns-in-Some-Some : goal.returns-in-Some-Some
returns-in-Some-Some c =
    let t = tables_of c.args.names.now in
    let q = problem_of c.args.gathered.now in
    let v = vertex_at t c.in-Combination.vertex in
    let a = c.in-Some-Some.a.now.terms.items in
    let b = c.in-Some-Some.b.now.terms.items in
    let said_a = c.deref.result.now in
    let said_b = c.deref-in-Combination.result.now in
    let said = c.deref-in-Combination-2.result.now in
    let first = lent c.args.earlier.now c.in-Combination.first c.get.result c.in-Some-Some.a
    c.get.ensures.lookup c.in-Some-Some.is-0 in
    let second = lent c.args.earlier.now c.in-Combination.second c.get-in-Combination.result c.in-Some-Some.b
    c.get-in-Combination.ensures.lookup c.in-Some-Some.is-1 in
    c.holds.ensures
    ∙ ap (λ xs. is_combination q v (terms_at t xs) (terms_at t said_b) (terms_at t said)) c.deref.ensures.value
    ∙ ap (λ xs.
    is_combination q v (terms_at t a) (terms_at t xs) (terms_at t said)) c.deref-in-Combination.ensures.value
    ∙ ap (λ xs. is_combination q v (terms_at t a) (terms_at t b) (terms_at t xs)) c.deref-in-Combination-2.ensures.value
    ∙ combined_step q t c.args.earlier.now c.args.step.now c.in-Some-Some.a.now c.in-Some-Some.b.now
    c.in-Combination.first c.in-Combination.second c.in-Combination.vertex c.in-Combination.is first second
