use Rattle.std.proofs.Common.{◌≡◌, sym, subst}
use Rattle.terms.specs.Terms.{terms_view}
use Rattle.incompatibilities.specs.Incompatibilities.{IsCombination, states_at}
use Rattle.incompatibilities.specs.inner.Merging.{merged}
use Rattle.incompatibilities.proofs.Broken.{lies_combined, one_is_broken}
use Rattle.incompatibilities.proofs.Merged.{merged_is}
use Rattle.incompatibilities.proofs.Merges.{fits_all}
use Rattle.incompatibilities.proofs.OneList.{one_combination}
use Rattle.incompatibilities.proofs.combining.combine.Given.{Over}
use Rattle.incompatibilities.proofs.combining.combine.Goals as goal

pub merge-requires : goal.merge-requires
merge-requires g c =
    let view = terms_view g.S.States.tests in
    rw (c.terms.ensures.terms, c.terms-2.ensures.terms) (fits_all (view c.args.a.now)
    (view c.args.b.now) c.terms.ensures.is.rising c.terms-2.ensures.is.rising c.requires)

is_combined : (g : Over) (c : goal.In_ok-merge g)
    → IsCombination c.args.vertex (terms_view g.S.States.tests c.args.a.now) (terms_view g.S.States.tests c.args.b.now)
    (terms_view g.S.States.tests c.in_ok-merge.field-0.items)
is_combined g c =
    let view = terms_view g.S.States.tests in
    let made : view c.in_ok-merge.field-0.items ≡ merged c.args.vertex (view c.args.a.now) (view c.args.b.now) =
    (rw (← c.terms.ensures.terms, ← c.terms-2.ensures.terms) c.in_ok-merge.ensures) in
    subst (IsCombination c.args.vertex (view c.args.a.now) (view c.args.b.now)) (sym made)
    (merged_is c.args.vertex (view c.args.a.now) (view c.args.b.now) c.terms.ensures.is c.terms-2.ensures.is)

pub of_rising-requires : goal.of_rising-requires
of_rising-requires g c = (is_combined g c).is

combined_result : (g : Over) (c : goal.After-of_rising g)
    → IsCombination c.args.vertex (terms_view g.S.States.tests c.args.a.now) (terms_view g.S.States.tests c.args.b.now)
    (terms_view g.S.States.tests c.of_rising.result)
combined_result g c = rw c.of_rising.ensures (is_combined g c.before)

pub returns-clause-combination : goal.returns-clause-combination
returns-clause-combination g c = combined_result g c

pub returns-clause-exact : goal.returns-clause-exact
returns-clause-exact g c ts is =
    let view = terms_view g.S.States.tests in
    one_combination c.args.vertex (view c.args.a.now) (view c.args.b.now) ts
    (view c.of_rising.result) is (combined_result g c)

pub returns-clause-broken : goal.returns-clause-broken
returns-clause-broken g c =
    let view = terms_view g.S.States.tests in
    one_is_broken c.args.vertex (states_at (view c.args.a.now)) (states_at (view c.args.b.now))
    (states_at (view c.of_rising.result)) (combined_result g c).each

pub returns-clause-spaces : goal.returns-clause-spaces
returns-clause-spaces g c =
    let view = terms_view g.S.States.tests in
    lies_combined c.args.vertex (states_at (view c.args.a.now)) (states_at (view c.args.b.now))
    (states_at (view c.of_rising.result)) (combined_result g c).each
