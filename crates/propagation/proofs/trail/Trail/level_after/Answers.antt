use Rattle.std.proofs.Common.{rules, ◌≡◌, ◌<◌, ◌-◌, suc, length, sym, ap, ◌∙◌, arith}
use Rattle.std.proofs.lemmas.List.{get_or-map, length-map}
use Rattle.propagation.specs.Trails.{StepView, level_after, no_step, step_view, steps_view}
use Rattle.propagation.proofs.trail.Trail.level_after.Goals as goal

pub returns : goal.returns
returns g c =
    let tests = g.S.States.tests in
    let steps = c.args.self.now.steps.items in
    let some : suc (c.args.places - 1) ≡ c.args.places = search rules in
    let within : c.args.places - 1 < length steps = omega (arith, some, c.requires, length-map {B = StepView} steps) in
    ap (λ (s : _). s.level) c.index.ensures
    ∙ sym (ap (λ (s : StepView). s.level) (get_or-map (step_view tests) steps (c.args.places - 1) _ no_step within))
    ∙ ap (level_after (steps_view tests steps)) some
