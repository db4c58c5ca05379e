use Rattle.std.proofs.Common.{sym, ap, ◌∙◌}
use Rattle.semver.specs.Identifiers.{parts_of}
use Rattle.features.specs.Views.{brings_view, summary_view}
use Rattle.model.specs.Vertices.{owner_brings, version_of}
use Rattle.model.specs.Causes.{table_of_owner}
use Rattle.vertices.specs.declared.vertex.OwnerRef.TheVariants.{Version}
use Rattle.axioms.specs.inner.Entries.{named_view}
use Rattle.axioms.specs.inner.GatheredViews.{problem_of}
use Rattle.axioms.proofs.EntryLemmas.{owner_has, rows_have}
use Rattle.axioms.proofs.listed.version_has.Goals as goal

pub returns-in-Some : goal.returns-in-Some
returns-in-Some c =
    let o = version_of c.args.name.now (parts_of c.args.version.now) in
    c.has_named.ensures
    ∙ c.args.gathered.now.versions_are (Version c.args.name c.args.version) c.in-Some.entries.now
    (sym c.in-Some.ensures.value) c.args.entry.now
    ∙ rows_have (named_view c.args.entry.now) (table_of_owner (problem_of c.args.gathered.now) o)

pub returns-in-Some-brings : goal.returns-in-Some-brings
returns-in-Some-brings c =
    let o = version_of c.args.name.now (parts_of c.args.version.now) in
    c.some_row_has.ensures
    ∙ owner_has (named_view c.args.entry.now) (summary_view c.in-Some-brings.owner.now)
    (owner_brings (problem_of c.args.gathered.now) o)
    (sym (ap brings_view c.in-Some-brings.is) ∙ c.brings.ensures)
