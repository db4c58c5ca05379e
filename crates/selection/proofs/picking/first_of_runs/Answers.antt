use Rattle.std.proofs.Common.{Bool, ℕ, ◌+◌, drop, is_some, map, slice_get, sym, ap, ◌∙◌}
use Rattle.std.specs.List.{concat, find}
use Rattle.semver.specs.Identifiers.{parts_of}
use Rattle.features.specs.Views.{requirement_view}
use Rattle.selection.specs.inner.Met.{is_matched, run_views}
use Rattle.selection.proofs.RunSearch.{found_first, found_later, runs_step}
use Rattle.selection.proofs.picking.first_of_runs.Goals as goal

pub returns-then-is_some : goal.returns-then-is_some
returns-then-is_some c =
    let t : ℕ → Bool = λ n. is_matched (requirement_view c.args.requirement.now)
    (slice_get (map parts_of c.args.versions.now) n) in
    let run = c.run-item.result in
    let place = c.first_of_run-place.ensures ∙ ap (find t) c.as_slice.ensures.value in
    place ∙ found_first t run.items (concat (run_views (drop (c.runs.run-index + 1) c.args.runs.now)))
    (sym (ap is_some place) ∙ sym c.is_some.ensures ∙ c.if-is_some.true)
    ∙ sym (ap (find t) (runs_step c.args.runs.now c.runs.run-index run c.runs-test.true (sym c.run-item.is)))
    ∙ c.runs.invariant

pub runs-preserved : goal.runs-preserved
runs-preserved c =
    let t : ℕ → Bool = λ n. is_matched (requirement_view c.args.requirement.now)
    (slice_get (map parts_of c.args.versions.now) n) in
    let run = c.run-item.result in
    let place = c.first_of_run-place.ensures ∙ ap (find t) c.as_slice.ensures.value in
    found_later t run.items (concat (run_views (drop (c.runs.run-index + 1) c.args.runs.now)))
    (sym (ap is_some place) ∙ sym c.is_some.ensures ∙ c.if-is_some.false)
    ∙ sym (ap (find t) (runs_step c.args.runs.now c.runs.run-index run c.runs-test.true (sym c.run-item.is)))
    ∙ c.runs.invariant
