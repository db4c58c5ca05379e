use Rattle.std.proofs.Common.{◌≡◌, ◌+◌, [], ◌∷◌, ◌++◌, length, arith, ap, ◌∙◌}
use Rattle.std.proofs.lemmas.List.{map-append}
use Rattle.std.specs.Vec.Iter.{into_iter_items, into_iter_len}
use Rattle.features.specs.Views.{dependency_view, dependency_views}
use Rattle.index_lines.specs.Records.{dependencies_read}
use Rattle.model.proofs.Fronts.{with_front-next}
use Rattle.index_lines.proofs.whole.dependencies.Goals as goal

pub parts-preserved : goal.parts-preserved
unfolding dependencies_read
parts-preserved c =
    let here : into_iter_items c.parts.part-iterator ≡ c.in-Some.part ∷ into_iter_items c.next.new.self =
    c.in-Some.ensures.steps.0 in
    let left : into_iter_len c.next.new.self + 1 ≡ into_iter_len c.parts.part-iterator = c.in-Some.ensures.steps.1 in
    let told = rw (here, c.in_ok-dependency.ensures) at c.parts.invariant.told in
    let count = ap length here in
    let pushed : dependency_views c.push.new.self.items
    ≡ dependency_views c.parts.found.items ++ dependency_view c.in_ok-dependency.field-0 ∷ []
    = ap dependency_views c.in_ok-push.ensures.items
    ∙ map-append dependency_view c.parts.found.items (c.in_ok-dependency.field-0 ∷ []) in
    record {
      can = tt;
      finite = tt;
      counted = omega arith;
      told = rw pushed (with_front-next _ _ _ _ told);
    }
