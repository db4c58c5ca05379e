use Rattle.std.proofs.Common.{◌≡◌, [], ◌∷◌, ◌++◌, append-nil, Some, slice_get, sym, ap, ◌∙◌}
use Rattle.std.specs.Prelude.{option_map}
use Rattle.std.proofs.lemmas.List.{map-append}
use Rattle.vertices.specs.inner.RefViews.{vertex_ref_view}
use Rattle.numbering.specs.inner.KnownProblem.{problem}
use Rattle.solver.specs.inner.Decoding.{size_of, with_term}
use Rattle.solver.specs.Refusing.{spoken_view, spoken_views}
use Rattle.solver.proofs.speaking.push_spoken.Goals as goal

pub speak-requires-clause-sized : goal.speak-requires-clause-sized
speak-requires-clause-sized g c = c.requires.sized
    ∙ ap (size_of (problem c.args.known.now)) (sym c.vertex.ensures ∙ ap (option_map vertex_ref_view) c.in-Some.is)

pub speak-requires-clause-named : goal.speak-requires-clause-named
speak-requires-clause-named g c = c.requires.named (vertex_ref_view c.in-Some.vertex)
    (sym c.vertex.ensures ∙ ap (option_map vertex_ref_view) c.in-Some.is)

pub returns-in_ok-push-in-Some : goal.returns-in_ok-push-in-Some
returns-in_ok-push-in-Some g c =
    let q = problem c.args.known.now in
    let m = g.S.States.tests c.args.term.now.states in
    let old = c.args.made.now.items in
    let seen : slice_get c.args.table.now c.args.term.now.vertex ≡ Some (vertex_ref_view c.in-Some.vertex) =
    sym c.vertex.ensures ∙ ap (option_map vertex_ref_view) c.in-Some.is in
    ap spoken_views c.in_ok-push-in-Some.ensures.items ∙ map-append spoken_view old (c.in_ok-one-in-Some.one ∷ [])
    ∙ ap (λ x. spoken_views old ++ x ∷ []) c.in_ok-one-in-Some.ensures
    ∙ ap (λ o. spoken_views old ++ with_term q o m []) (sym seen)

pub returns-in-None : goal.returns-in-None
returns-in-None g c =
    let q = problem c.args.known.now in
    let m = g.S.States.tests c.args.term.now.states in
    let old = c.args.made.now.items in
    sym (append-nil (spoken_views old)) ∙ ap (λ o. spoken_views old ++ with_term q o m [])
    (sym (sym c.vertex.ensures ∙ ap (option_map vertex_ref_view) c.in-None.is))
