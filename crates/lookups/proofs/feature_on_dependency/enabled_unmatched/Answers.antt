use Rattle.std.proofs.Common.{◌∙◌, ap, sym}
use Rattle.semver.specs.Identifiers.{parts_of}
use Rattle.lookups.specs.inner.NumbersViews.{problem_of}
use Rattle.lookups.specs.inner.Numbers.{IsEnabled, Row}
use Rattle.model.specs.inner.Instances.{enabled_unmatched}
use Rattle.vertices.specs.declared.vertex.OwnerRef.TheVariants.{Version}
use Rattle.lookups.proofs.Kept.{put_of_row}
use Rattle.lookups.proofs.feature_on_dependency.enabled_unmatched.Goals as goal

pub returns-in-Some-clause-number : goal.returns-in-Some-clause-number
returns-in-Some-clause-number c =
    let row : Row = (Version c.args.name c.args.version, c.args.on) in
    sym (c.args.numbers.now.enabled_are row c.in-Some.number.now (sym c.in-Some.ensures.value))

pub invariant_of-numbers-clause-enabled_are : goal.invariant_of-numbers-clause-enabled_are
invariant_of-numbers-clause-enabled_are c =
    let row : Row = (Version c.args.name c.args.version, c.args.on) in
    let before = c.first_enabled.new.numbers in
    put_of_row (IsEnabled (problem_of before)) before.enabled c.insert.new.self row c.in-Some-2.number
    c.insert.result c.insert.ensures.updates c.insert.ensures.err before.enabled_are
    (ap (λ q. enabled_unmatched q c.args.name.now (parts_of c.args.version.now) c.args.on.now)
    c.first_enabled.ensures.same ∙ sym c.in_ok-number.ensures.number ∙ c.in-Some-2.is)
