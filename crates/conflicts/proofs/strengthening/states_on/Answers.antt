use Rattle.std.proofs.Common.{rules, ◌∙◌, List, Some, sym, ap, subst}
use Rattle.std.proofs.lemmas.List.Sorted.{answers_always}
use Rattle.terms.specs.Terms.{terms_view}
use Rattle.terms.specs.declared.term.Term.{Term}
use Rattle.incompatibilities.specs.Incompatibilities.{IsRising, states_at}
use Rattle.conflicts.proofs.Finding.{absent_at, found_at}
use Rattle.conflicts.proofs.strengthening.states_on.Goals as goal

pub returns-in-Ok : goal.returns-in-Ok
returns-in-Ok g c =
    let tests = g.S.States.tests in
    let ts = c.terms-terms.result.now in
    let rising : IsRising (terms_view tests ts) = subst (λ (l : List (Term g.row.S.Denot)).
    IsRising (terms_view tests l)) (sym c.terms-terms.ensures.terms) c.terms-terms.ensures.is.rising in
    let found = c.in-Ok.ensures.position (λ t. t.vertex) (answers_always _ _ _ (λ f a r g called. search rules)) in
    ap (λ (t : Term g.row.S.Denot). Some (tests t.states)) (sym c.index-terms-place.is)
    ∙ sym (ap (λ (l : List (Term g.row.S.Denot)). states_at (terms_view tests l) c.args.vertex)
    (sym c.terms-terms.ensures.terms) ∙ found_at tests ts c.args.vertex c.in-Ok.place c.index-terms-place.result
    rising c.in-Ok.ensures.bound c.index-terms-place.is found)

pub returns-in-Err : goal.returns-in-Err
returns-in-Err g c =
    let tests = g.S.States.tests in
    let ts = c.terms-terms.result.now in
    let rising : IsRising (terms_view tests ts) = subst (λ (l : List (Term g.row.S.Denot)).
    IsRising (terms_view tests l)) (sym c.terms-terms.ensures.terms) c.terms-terms.ensures.is.rising in
    let found = c.in-Err.ensures.position (λ t. t.vertex) (answers_always _ _ _ (λ f a r g called. search rules)) in
    sym (ap (λ (l : List (Term g.row.S.Denot)). states_at (terms_view tests l) c.args.vertex)
    (sym c.terms-terms.ensures.terms) ∙ absent_at tests ts c.args.vertex c.in-Err.field-0 rising found)
