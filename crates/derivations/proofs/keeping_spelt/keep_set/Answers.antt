use Rattle.std.proofs.Common.{ap, ◌∙◌}
use Rattle.vertices.specs.inner.RefViews.{state_ref_views}
use Rattle.derivations.specs.inner.Named.{states_in_order}
use Rattle.derivations.proofs.TableLaws.{grown-trans, whole-term}
use Rattle.derivations.proofs.keeping_spelt.keep_set.Goals as goal

pub returns-clause-within : goal.returns-clause-within
returns-clause-within c =
    (whole-term c.add_spelling.new.self c.keep_states.new.tables c.add_set.new.self c.in_ok-vertex.vertex
    c.in_ok-states.states c.in_ok-numbers.numbers.items c.args.term.vertex.now
    (state_ref_views (states_in_order c.args.term.states))
    c.in_ok-vertex.ensures.number c.in_ok-numbers.ensures.grown c.in_ok-numbers.ensures.within
    (c.in_ok-numbers.ensures.states
    ∙ ap state_ref_views c.as_slice.ensures) c.in_ok-states.ensures.grown c.in_ok-states.ensures.number).0

pub returns-clause-term : goal.returns-clause-term
returns-clause-term c =
    (whole-term c.add_spelling.new.self c.keep_states.new.tables c.add_set.new.self c.in_ok-vertex.vertex
    c.in_ok-states.states c.in_ok-numbers.numbers.items c.args.term.vertex.now
    (state_ref_views (states_in_order c.args.term.states))
    c.in_ok-vertex.ensures.number c.in_ok-numbers.ensures.grown c.in_ok-numbers.ensures.within
    (c.in_ok-numbers.ensures.states
    ∙ ap state_ref_views c.as_slice.ensures) c.in_ok-states.ensures.grown c.in_ok-states.ensures.number).1

pub returns-clause-grown : goal.returns-clause-grown
returns-clause-grown c =
    grown-trans c.args.tables.now c.add_spelling.new.self c.add_set.new.self c.in_ok-vertex.ensures.grown
    (grown-trans c.add_spelling.new.self c.keep_states.new.tables c.add_set.new.self c.in_ok-numbers.ensures.grown
    c.in_ok-states.ensures.grown)
