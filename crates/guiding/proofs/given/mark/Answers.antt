use Rattle.std.proofs.Common.{◌≡◌, ℕ, zero, suc, List, [], ◌∷◌, map, slice_set, length, ap, ap₂, ◌∙◌, refl, sym}
use Rattle.version_sets.specs.Sets.{join, only}
use Rattle.propagation.specs.Trails.{set_of}
use Rattle.propagation.proofs.Vertices.{view_at}
use Rattle.guiding.proofs.given.mark.Goals as goal

map_set : {A B : Type 0} (f : A → B) (xs : List A) (i : ℕ) (x : A)
    → map f (slice_set xs i x) ≡ slice_set (map f xs) i (f x)
map_set f [] i x = refl
map_set f (y ∷ xs) zero x = refl
map_set f (y ∷ xs) (suc i) x = ap (λ l. f y ∷ l) (map_set f xs i x)

pub returns-clause-ok : goal.returns-clause-ok
returns-clause-ok g c =
    let tests = g.S.States.tests in
    let items = c.args.asked.now.items in
    let sets = map tests items in
    let here : set_of sets c.args.vertex ≡ tests c.index.result.now =
    view_at tests items c.args.vertex c.index.result.now _ c.requires.vertex c.index.ensures in
    let there : set_of sets c.args.vertex ≡ tests c.index-2.result.now =
    view_at tests items c.args.vertex c.index-2.result.now _ c.requires.vertex c.index-2.ensures in
    map_set tests items c.args.vertex c.in_ok-both.both
    ∙ ap (slice_set sets c.args.vertex) (c.in_ok-both.ensures ∙ ap₂ join (sym there)
    (c.in_ok-one.ensures ∙ ap (λ n. only n c.args.state) (c.universe.ensures.universe ∙ ap length (sym here))))
