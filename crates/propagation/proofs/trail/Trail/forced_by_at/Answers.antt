use Rattle.std.proofs.Common.{◌<◌, length, sym, ap, ◌∙◌, arith}
use Rattle.std.proofs.lemmas.List.{get_or-map, length-map}
use Rattle.propagation.specs.Trails.{StepView, no_step, step_view}
use Rattle.propagation.proofs.trail.Trail.forced_by_at.Goals as goal

pub returns : goal.returns
returns g c =
    let steps = c.args.self.now.steps.items in
    let within : c.args.place < length steps = omega (arith, c.requires, length-map {B = StepView} steps) in
    ap (λ (s : _). s.forced_by) c.index.ensures ∙ sym (ap (λ (s : StepView). s.forced_by)
    (get_or-map (step_view g.S.States.tests) steps c.args.place _ no_step within))
