use Rattle.std.proofs.Common.{◌≡◌, ◌∙◌, ◌+◌, ◌∷◌, drop, ap, sym}
use Rattle.std.proofs.lemmas.List.{drop_more}
use Rattle.index_lines.specs.Records.{required}
use Rattle.index_lines.specs.Views.{required_view}
use Rattle.model.proofs.Fronts.{pushed}
use Rattle.index_lines.proofs.whole.requirements.Goals as goal
use Rattle.index_lines.proofs.whole.requirements.Goals.{in-Dev, in-Part+in_ok-part_required-in-Part+in_ok-push-in-Part}

pub shapes-preserved : goal.shapes-preserved
unfolding required
shapes-preserved c =
    let xs = c.args.shapes.now in
    let i = c.shapes.shape-index in
    let shape = c.shape-item.result in
    let left = drop (i + 1) xs in
    let here : drop i xs ≡ shape ∷ left =
    drop_more xs i shape c.shapes-test.true ∙ ap (λ y. y ∷ left) (sym c.shape-item.is) in
    let told = rw here at c.shapes.invariant in
    elim c.match-shape.branch [
      | in-Dev w ↦ rw w.found-is (rw w.in-Dev.is at told)
      | in-Part+in_ok-part_required-in-Part+in_ok-push-in-Part w ↦ rw w.found-is (
          pushed required_view _ _ _ _ _ _ w.in_ok-push-in-Part.ensures.items w.in_ok-part_required-in-Part.ensures
          (rw w.in-Part.is at told))
    ]
