use Rattle.std.proofs.Common.{◌≡◌, ◌<◌, ◌∙◌, [], length, map, sym, ap}
use Rattle.std.proofs.lemmas.List.{get_or-map, length-map}
use Rattle.version_sets.specs.Sets.{Members, inside}
use Rattle.propagation.specs.Trails.{set_of}
use Rattle.propagation.proofs.trail.Trail.is_within.Goals as goal

pub subset-requires : goal.subset-requires
subset-requires g c =
    let tests = g.S.States.tests in
    let sets = c.args.self.now.sets.items in
    let within : c.args.vertex < length sets = rw length-map at c.requires.vertex in
    let here : set_of (map tests sets) c.args.vertex ≡ tests c.index.result.now =
    get_or-map tests sets c.args.vertex _ [] within ∙ ap tests (sym c.index.ensures) in
    sym (c.requires.fits ∙ ap length here)

pub returns : goal.returns
returns g c =
    let tests = g.S.States.tests in
    let sets = c.args.self.now.sets.items in
    let within : c.args.vertex < length sets = rw length-map at c.requires.vertex in
    let here : set_of (map tests sets) c.args.vertex ≡ tests c.index.result.now =
    get_or-map tests sets c.args.vertex _ [] within ∙ ap tests (sym c.index.ensures) in
    c.subset.ensures ∙ ap (λ (s : Members). inside s (tests c.args.states.now)) (sym here)
