use Rattle.std.proofs.Common.{sym, ap, ◌∙◌}
use Rattle.std.specs.List.{list_any}
use Rattle.features.specs.Views.{brings_view}
use Rattle.model.specs.Summary.{Summary}
use Rattle.vertices.specs.declared.vertex.OwnerRef.TheVariants.{Version}
use Rattle.lookups.proofs.Kept.{put_of}
use Rattle.axioms.specs.inner.Entries.{named_view, row_has}
use Rattle.axioms.specs.inner.GatheredViews.{problem_of}
use Rattle.axioms.specs.inner.Listed.{AreOfOwner}
use Rattle.axioms.proofs.EntryLemmas.{all_added}
use Rattle.axioms.proofs.listed.keep_version.Goals as goal

pub invariant_of-gathered-clause-versions_are : goal.invariant_of-gathered-clause-versions_are
invariant_of-gathered-clause-versions_are c =
    let set = c.put_rows.new.set in
    let table = c.in-Some.brought.now.features in
    put_of (AreOfOwner (problem_of c.args.gathered.now)) c.args.gathered.now.versions c.insert.new.self
    (Version c.args.name c.args.version) set c.insert.result c.insert.ensures.updates c.insert.ensures.err
    c.args.gathered.now.versions_are
    (λ x. all_added c.new-set.result set (λ e. list_any (row_has e table) table) c.new-set.ensures.empty
    c.in_ok-put_rows.ensures x
    ∙ ap (λ (o : Summary). list_any (row_has (named_view x) o.features) o.features)
    (sym (ap brings_view c.in-Some.is) ∙ c.brings.ensures))
