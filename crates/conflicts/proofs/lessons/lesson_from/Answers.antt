use Rattle.std.proofs.Common.{◌≡◌, ◌∙◌, sym, subst}
use Rattle.terms.specs.Terms.{terms_view}
use Rattle.incompatibilities.specs.Stores.{entries_view, entry}
use Rattle.propagation.specs.Trails.{trail_view}
use Rattle.conflicts.specs.Resolving.{IsFound, IsLone}
use Rattle.conflicts.proofs.Steps.{start_is}
use Rattle.conflicts.proofs.lessons.lesson_from.Goals as goal

pub returns-clause-lesson : goal.returns-clause-lesson
returns-clause-lesson g c =
    let tests = g.S.States.tests in
    let es = entries_view tests c.args.store.now in
    let t = trail_view tests c.args.trail.now in
    let ts = terms_view tests c.in_ok-incompatibility.incompatibility in
    let same : ts ≡ (entry es c.args.id).terms = c.in_ok-incompatibility.ensures ∙ c.get.ensures.value in
    start_is es t c.args.id ts c.new.result c.args.found c.requires.trail c.requires.within same c.new.ensures.first
    c.new.ensures.links (λ quiet. subst (IsLone t) (sym same) (c.requires.lone quiet))
    (λ xs trail. subst (λ us. IsFound xs t us c.args.found) (sym same) (c.requires.here xs trail))
