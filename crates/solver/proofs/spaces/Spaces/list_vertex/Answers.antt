use Rattle.std.proofs.Common.{◌≡◌, Some, is_some, slice_get, sym, ap, ◌∙◌, subst, true}
use Rattle.std.proofs.lemmas.Option.{same_Some}
use Rattle.model.specs.Vertices.{Vertex, space}
use Rattle.vertices.specs.inner.RefViews.{state_ref_views, vertex_ref_view}
use Rattle.numbering.specs.inner.KnownProblem.{problem}
use Rattle.solver.proofs.Listed.{kept_listed, one_more, put_listed}
use Rattle.solver.proofs.spaces.Spaces.list_vertex.Goals as goal

pub returns-clause-listed : goal.returns-clause-listed
returns-clause-listed c =
    let q = problem c.args.known.now in
    one_more (λ n s. (v : Vertex) → slice_get c.args.table.now n ≡ Some v
    → state_ref_views s.states.items ≡ space q v) c.add_places.new.listed.items c.args.number
    (record { spelling = c.in_ok-spelling.spelling; states = c.in_ok-states.states })
    (λ v h. c.in_ok-states.ensures
    ∙ ap (space q) (same_Some (vertex_ref_view c.args.vertex) v (sym c.requires.there ∙ h)))
    (λ n s e. c.requires.listed n s (sym (c.add_places.ensures.same n) ∙ e))

pub returns-clause-spelt : goal.returns-clause-spelt
returns-clause-spelt c =
    one_more (λ n s. (v : Vertex) → slice_get c.args.table.now n ≡ Some v
    → s.spelling ≡ v) c.add_places.new.listed.items c.args.number
    (record { spelling = c.in_ok-spelling.spelling; states = c.in_ok-states.states })
    (λ v h. c.in_ok-spelling.ensures.vertex ∙ same_Some (vertex_ref_view c.args.vertex) v (sym c.requires.there ∙ h))
    (λ n s e. c.requires.spelt n s (sym (c.add_places.ensures.same n) ∙ e))

pub returns-clause-kept : goal.returns-clause-kept
returns-clause-kept c = λ n h. kept_listed c.add_places.new.listed.items c.args.number
    (record { spelling = c.in_ok-spelling.spelling; states = c.in_ok-states.states }) n
    (subst (λ o. is_some o ≡ true) (sym (c.add_places.ensures.same n)) h)

pub returns-clause-there : goal.returns-clause-there
returns-clause-there c = put_listed c.add_places.new.listed.items c.args.number
    (record { spelling = c.in_ok-spelling.spelling; states = c.in_ok-states.states }) c.in_ok-add_places.ensures.there
