use Rattle.std.proofs.Common.{◌∙◌, sym}
use Rattle.features.specs.Views.{dependency_views}
use Rattle.lookups.specs.inner.NumbersViews.{problem_of}
use Rattle.lookups.specs.inner.Numbers.{IsNeeded}
use Rattle.vertices.specs.inner.RefViews.{owner_ref_view}
use Rattle.lookups.proofs.Kept.{put_of}
use Rattle.lookups.proofs.Places.{needed_first}
use Rattle.lookups.proofs.needed.needed_unmatched.Goals as goal

pub returns-in_default-first_needed-clause-number : goal.returns-in_default-first_needed-clause-number
returns-in_default-first_needed-clause-number c =
    c.in_default-first_needed.ensures
    ∙ needed_first (problem_of c.args.numbers.now) (owner_ref_view c.args.owner)
    (dependency_views c.dependencies_of.result.now) c.dependencies_of.ensures

pub invariant_of-numbers-clause-needed_are : goal.invariant_of-numbers-clause-needed_are
invariant_of-numbers-clause-needed_are c =
    let q = problem_of c.args.numbers.now in
    put_of (IsNeeded q) c.args.numbers.now.needed c.insert.new.self c.args.owner c.in-Some-first_needed.number
    c.insert.result c.insert.ensures.updates c.insert.ensures.err c.args.numbers.now.needed_are
    (sym (c.in-Some-first_needed.ensures ∙ needed_first q (owner_ref_view c.args.owner)
    (dependency_views c.dependencies_of.result.now) c.dependencies_of.ensures))
