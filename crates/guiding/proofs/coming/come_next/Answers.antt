use Rattle.std.proofs.Common.{rules, vec_len, ◌≡◌, ◌<◌, ◌∷◌, ◌++◌, [], length, map, Some, slice_get, ap, ◌∙◌, subst}
use Rattle.std.proofs.Common.{sym}
use Rattle.std.proofs.lemmas.List.{length-map}
use Rattle.incompatibilities.specs.Stores.{entries_view}
use Rattle.version_sets.specs.Sets.{Members}
use Rattle.model.specs.Vertices.{Vertex, space}
use Rattle.numbering.specs.inner.KnownProblem.{problem}
use Rattle.propagation.specs.Trails.{trail_view}
use Rattle.propagation.proofs.Widened.{below_proper}
use Rattle.guiding.proofs.Arrivals.{encoding_next, map_append}
use Rattle.guiding.proofs.coming.come_next.Goals as goal

pub returns-clause-encoding : goal.returns-clause-encoding
returns-clause-encoding g c =
    let tests = g.S.States.tests in
    let old = c.args.asked.now.items in
    let counted : vec_len c.args.asked.now ≡ length old = search rules in
    let long : c.len.result ≡ length (map tests old) = c.len.ensures ∙ counted ∙ sym (length-map old tests) in
    encoding_next c.args.known.now c.args.table.now (map tests old)
    (map tests c.push_reserved.new.self.items) c.in_ok-space.space c.requires.encoding
    (subst (λ n. n < length c.args.table.now) (sym (length-map old tests)) c.requires.less)
    (subst (λ n. (v : Vertex) → slice_get c.args.table.now n ≡ Some v
    → c.in_ok-space.space ≡ length (space (problem c.args.known.now) v)) long c.in_ok-space.ensures.space)
    (ap (map tests) (c.push_reserved.ensures.items ∙ ap (λ xs. xs ++ c.in_ok-none.none ∷ []) c.reserve.ensures.items)
    ∙ map_append tests old (c.in_ok-none.none ∷ [])
    ∙ ap (λ (s : Members). map tests old ++ s ∷ []) c.in_ok-none.ensures)

pub returns-clause-trail : goal.returns-clause-trail
returns-clause-trail g c =
    let tests = g.S.States.tests in
    let es = entries_view tests c.args.store.now in
    c.grow.ensures.trail es
    (below_proper (trail_view tests c.args.trail.now) es c.is_proper.ensures c.requires.trail.lies) c.requires.trail
