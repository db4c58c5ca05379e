use Rattle.std.proofs.Common.{◌≡◌, ◌∙◌, ◌++◌, true, ap, subst}
use Rattle.terms.specs.Terms.{terms_view}
use Rattle.incompatibilities.specs.inner.Rows.{listed_in, stands_in}
use Rattle.incompatibilities.proofs.RowLemmas.{same_vertices}
use Rattle.incompatibilities.proofs.Storing.{apart_listed}
use Rattle.incompatibilities.proofs.store.list.Goals as goal

pub push_rows-requires-clause-ids : goal.push_rows-requires-clause-ids
push_rows-requires-clause-ids g c v s =
    let same = same_vertices g.S.States.tests c.in_ok-copies.copies.items c.terms-terms.result.now
    c.in_ok-copies.ensures in
    c.in_ok-reserve_rows.ensures.room v (subst (λ vs. stands_in v vs ≡ true) same s)

pub push_rows-requires-clause-sets : goal.push_rows-requires-clause-sets
push_rows-requires-clause-sets g c v s =
    let same = same_vertices g.S.States.tests c.in_ok-copies.copies.items c.terms-terms.result.now
    c.in_ok-copies.ensures in
    c.in_ok-reserve_rows-2.ensures.room v (subst (λ vs. stands_in v vs ≡ true) same s)

pub push_rows-requires-clause-apart : goal.push_rows-requires-clause-apart
push_rows-requires-clause-apart g c =
    let tests = g.S.States.tests in
    apart_listed tests c.args.incompatibility.now c.in_ok-copies.copies.items c.terms-terms.ensures.is.rising
    (c.in_ok-copies.ensures ∙ ap (terms_view tests) c.terms-terms.ensures.terms)

pub returns-clause-listed : goal.returns-clause-listed
returns-clause-listed g c =
    let tests = g.S.States.tests in
    let copies = c.in_ok-copies.copies.items in (
      copies,
      c.in_ok-copies.ensures ∙ ap (terms_view tests) c.terms-terms.ensures.terms,
      (λ v. c.push_rows.ensures.ids v
          ∙ ap (λ l. l ++ listed_in (λ t. c.args.id) v copies) (c.in_ok-reserve_rows.ensures.grown.same v)),
      λ v. c.push_rows.ensures.sets v
          ∙ ap (λ l. l ++ listed_in (λ t. t.states) v copies) (c.in_ok-reserve_rows-2.ensures.grown.same v),
    )
