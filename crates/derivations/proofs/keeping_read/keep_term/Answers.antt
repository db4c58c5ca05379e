use Rattle.vertices.specs.Views.{state_views}
use Rattle.derivations.proofs.TableLaws.{whole-term}
use Rattle.derivations.proofs.keeping_read.keep_term.Goals as goal

pub returns-clause-within : goal.returns-clause-within
returns-clause-within c =
    (whole-term c.add_vertex.new.self c.keep_states.new.tables c.add_set.new.self c.in_ok-vertex.vertex
    c.in_ok-states.states c.in_ok-numbers.numbers.items c.args.term.vertex (state_views c.args.term.states.items)
    c.in_ok-vertex.ensures.number c.in_ok-numbers.ensures.grown c.in_ok-numbers.ensures.within
    c.in_ok-numbers.ensures.states c.in_ok-states.ensures.grown c.in_ok-states.ensures.number).0

pub returns-clause-term : goal.returns-clause-term
returns-clause-term c =
    (whole-term c.add_vertex.new.self c.keep_states.new.tables c.add_set.new.self c.in_ok-vertex.vertex
    c.in_ok-states.states c.in_ok-numbers.numbers.items c.args.term.vertex (state_views c.args.term.states.items)
    c.in_ok-vertex.ensures.number c.in_ok-numbers.ensures.grown c.in_ok-numbers.ensures.within
    c.in_ok-numbers.ensures.states c.in_ok-states.ensures.grown c.in_ok-states.ensures.number).1
