use Rattle.std.proofs.Common.{not, cond, nat_eq, None, map, unwrap_or, slice_get, [], get_or, ◌∙◌, sym, ap, arith}
use Rattle.facts.specs.inner.Graphs.{flag_at}
use Rattle.lockfile.specs.inner.Views.{package_view}
use Rattle.lockfile.specs.declared.package.Package as code
use Rattle.selection.proofs.Seconds.{view_at}
use Rattle.flaws.specs.inner.Reasons.{why_none}
use Rattle.flaws.specs.declared.flawed.Flawed.{Flawed}
use Rattle.flaws.proofs.Found.{flaws_are}
use Rattle.flaws.proofs.judging.flawed_at.Goals as goal

pub returns-clause-flaws : goal.returns-clause-flaws
returns-clause-flaws c =
    let f = c.args.findings.now in
    let g : Flawed = record {
      place = c.args.at;
      no_candidate = c.why_not.result;
      twin = c.twin_of.result;
      unmet = c.in_ok-unmet_of.field-0;
      lacks_feature = c.flag.result;
      surplus = c.in_ok-surplus_of.field-0;
      unreached = not c.flag-2.result;
    } in
    λ m found. flaws_are m c.args.catalogue.now f found g c.index-findings-at.result c.index-nodes-at.result
    c.flags-enabled.result.now c.as_slice-targets.result.now c.as_slice-list.result.now
    c.requires.at
    (view_at f.content.now c.args.at c.index-findings-at.result c.requires.at (sym c.index-findings-at.is))
    (omega (arith, c.requires.at, c.requires.beside))
    (ap (λ ns. get_or ns c.args.at c.index-nodes-at.result) (sym c.as_slice-nodes.ensures.value)
    ∙ sym c.index-nodes-at.is)
    (c.flags-enabled.ensures
    ∙ ap (λ ls. unwrap_or (slice_get (map (λ v. v.items) ls) c.args.at) []) c.as_slice-lists.ensures.value)
    c.as_slice-targets.ensures.value
    (c.as_slice-list.ensures.value ∙ ap (λ (x : code.Package). x.list.items) (sym c.index-findings-at.is))
    (c.why_not.ensures ∙ ap (λ (x : code.Package). cond (nat_eq c.args.at c.args.findings.now.root) None
    (why_none c.args.catalogue.now (package_view x))) (sym c.index-findings-at.is))
    (c.twin_of.ensures _ found.only_root)
    c.in_ok-unmet_of.ensures
    (c.flag.ensures ∙ ap (λ l. flag_at l c.args.at) c.as_slice-lacks.ensures.value)
    c.in_ok-surplus_of.ensures
    (ap not (c.flag-2.ensures ∙ ap (λ l. flag_at l c.args.at) c.as_slice-reached.ensures.value))
