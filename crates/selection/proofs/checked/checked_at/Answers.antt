use Rattle.std.proofs.Common.{not, map, unwrap_or, slice_get, [], get_or, ◌∙◌, sym, ap, refl, arith}
use Rattle.facts.specs.inner.Graphs.{flag_at}
use Rattle.selection.specs.declared.checked.Checked.{Checked}
use Rattle.lockfile.specs.declared.package.Package as code
use Rattle.selection.proofs.Judging.{place_is}
use Rattle.selection.proofs.Seconds.{view_at}
use Rattle.selection.proofs.checked.checked_at.Goals as goal

pub returns : goal.returns
returns c =
    let f = c.args.findings.now in
    let k : Checked = record {
      candidate = c.is_some.result;
      alone = not c.is_second.result;
      met = c.are_met.result;
      featured = not c.flag.result;
      listed = c.in_ok-are_led_to.field-0;
      reached = c.flag-2.result;
    } in
    λ q found. place_is q f c.args.at c.index-findings-at.result c.index-nodes-at.result c.flags-enabled.result.now
    c.as_slice-targets.result.now c.as_slice-list.result.now c.is_second.result k found
    (view_at f.content.now c.args.at c.index-findings-at.result c.requires.at (sym c.index-findings-at.is))
    (omega (arith, c.requires.at, c.requires.beside))
    (ap (λ ns. get_or ns c.args.at c.index-nodes-at.result) (sym c.as_slice-nodes.ensures.value)
    ∙ sym c.index-nodes-at.is)
    (c.flags-enabled.ensures
    ∙ ap (λ ls. unwrap_or (slice_get (map (λ v. v.items) ls) c.args.at) []) c.as_slice-lists.ensures.value)
    c.as_slice-targets.ensures.value
    (c.as_slice-list.ensures.value ∙ ap (λ (x : code.Package). x.list.items) (sym c.index-findings-at.is))
    c.is_some.ensures
    refl
    (c.is_second.ensures q found.only_root)
    c.are_met.ensures
    (ap not c.flag.ensures ∙ ap (λ l. not (flag_at l c.args.at)) c.as_slice-lacks.ensures.value)
    c.in_ok-are_led_to.ensures
    (c.flag-2.ensures ∙ ap (λ l. flag_at l c.args.at) c.as_slice-reached.ensures.value)
