use Rattle.std.proofs.Common.{refl, sym, ap, ◌∙◌}
use Rattle.semver.specs.Identifiers.{parts_of}
use Rattle.features.specs.EntryViews.{entry_views}
use Rattle.features.specs.Views.{dependency_views}
use Rattle.model.specs.Vertices.{owner_brings, version_of}
use Rattle.vertices.specs.declared.vertex.OwnerRef.TheVariants.{Version}
use Rattle.lookups.specs.inner.ByName.{is_gone}
use Rattle.lookups.specs.inner.Needs.{place_from}
use Rattle.lookups.specs.inner.Numbers.{AreGoneOf}
use Rattle.lookups.specs.inner.NumbersViews.{problem_of}
use Rattle.lookups.proofs.ByNames.{enabled_is}
use Rattle.lookups.proofs.Kept.{put_of}
use Rattle.lookups.proofs.first_enabled.first_enabled.Goals as goal

pub returns-in-Some-clause-number : goal.returns-in-Some-clause-number
returns-in-Some-clause-number c =
    let q = problem_of c.args.numbers.now in
    let name = c.args.name.now in
    let v = parts_of c.args.version.now in
    c.least_enabled.ensures
    ∙ enabled_is q (owner_brings q (version_of name v)).dependencies c.in-Some.unmatched.now
    (c.args.numbers.now.unmatched_are (Version c.args.name c.args.version) c.in-Some.unmatched.now
    (sym c.in-Some.ensures.value)) name v c.args.on.now (entry_views c.entries_of-entries.result.now)
    c.entries_of-entries.ensures refl

pub returns-clause-number : goal.returns-clause-number
returns-clause-number c =
    c.least_enabled-least.ensures
    ∙ enabled_is (problem_of c.args.numbers.now) (dependency_views c.dependencies_of.result.now)
    c.in_ok-unmatched.unmatched c.in_ok-unmatched.ensures c.args.name.now (parts_of c.args.version.now)
    c.args.on.now (entry_views c.entries_of-entries.result.now) c.entries_of-entries.ensures c.dependencies_of.ensures

pub invariant_of-numbers-clause-unmatched_are : goal.invariant_of-numbers-clause-unmatched_are
invariant_of-numbers-clause-unmatched_are c =
    let q = problem_of c.args.numbers.now in
    put_of (AreGoneOf q) c.args.numbers.now.unmatched c.insert.new.self (Version c.args.name c.args.version)
    c.in_ok-unmatched.unmatched c.insert.result c.insert.ensures.updates c.insert.ensures.err
    c.args.numbers.now.unmatched_are
    (λ d. c.in_ok-unmatched.ensures d ∙ ap (place_from (is_gone q d) 0) c.dependencies_of.ensures)
