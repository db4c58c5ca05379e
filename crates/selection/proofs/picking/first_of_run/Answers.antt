use Rattle.std.proofs.Common.{Bool, ℕ, is_some, map, take, drop, slice_get, sym, ap, ◌∙◌}
use Rattle.std.specs.List.{find}
use Rattle.std.proofs.lemmas.List.{take-append-drop}
use Rattle.semver.specs.Identifiers.{parts_of}
use Rattle.features.specs.Views.{requirement_view}
use Rattle.selection.specs.inner.Met.{is_matched}
use Rattle.selection.proofs.RunSearch.{found_first, found_later}
use Rattle.selection.proofs.picking.first_of_run.Goals as goal

pub returns-then-is_some : goal.returns-then-is_some
returns-then-is_some c =
    let t : ℕ → Bool = λ n. is_matched (requirement_view c.args.requirement.now)
    (slice_get (map parts_of c.args.versions.now) n) in
    let run = c.args.run.now in
    let place = c.first_matched-place.ensures ∙ ap (find t) c.split_at.ensures.front in
    place ∙ found_first t (take c.min.result run) (drop c.min.result run)
    (sym (ap is_some place) ∙ sym c.is_some.ensures ∙ c.if-is_some.true)
    ∙ ap (find t) (take-append-drop c.min.result run)

pub returns : goal.returns
returns c =
    let t : ℕ → Bool = λ n. is_matched (requirement_view c.args.requirement.now)
    (slice_get (map parts_of c.args.versions.now) n) in
    let run = c.args.run.now in
    let place = c.first_matched-place.ensures ∙ ap (find t) c.split_at.ensures.front in
    c.first_matched.ensures ∙ c.within.ensures ∙ ap (find t) c.split_at.ensures.back
    ∙ found_later t (take c.min.result run) (drop c.min.result run)
    (sym (ap is_some place) ∙ sym c.is_some.ensures ∙ c.if-is_some.false)
    ∙ ap (find t) (take-append-drop c.min.result run)
