use Rattle.numbering.specs.inner.KnownProblem.{problem}
use Rattle.numbering.specs.inner.TestedTerms.{tested_view}
use Rattle.vertices.specs.inner.RefViews.{vertex_ref_view}
use Rattle.numbering.proofs.Adds.{adds_put}
use Rattle.numbering.proofs.Putting.{tested_put, vertex_put}
use Rattle.numbering.proofs.instances.put_tested.Goals as goal

pub returns-in_err-states-clause-grown : goal.returns-in_err-states-clause-grown
returns-in_err-states-clause-grown g c =
    (vertex_put (problem c.args.known.now) c.args.table.now
    (vertex_ref_view c.args.tested_term.now.vertex) c.put.new.self
    c.requires.numbering c.requires.fit.there c.in_ok-vertex.ensures.ok).1

pub returns-in_err-states-clause-numbering : goal.returns-in_err-states-clause-numbering
returns-in_err-states-clause-numbering g c =
    (vertex_put (problem c.args.known.now) c.args.table.now
    (vertex_ref_view c.args.tested_term.now.vertex) c.put.new.self
    c.requires.numbering c.requires.fit.there c.in_ok-vertex.ensures.ok).0

pub returns-in_err-push-clause-grown : goal.returns-in_err-push-clause-grown
returns-in_err-push-clause-grown g c =
    (vertex_put (problem c.args.known.now) c.args.table.now
    (vertex_ref_view c.args.tested_term.now.vertex) c.put.new.self
    c.requires.numbering c.requires.fit.there c.in_ok-vertex.ensures.ok).1

pub returns-in_err-push-clause-numbering : goal.returns-in_err-push-clause-numbering
returns-in_err-push-clause-numbering g c =
    (vertex_put (problem c.args.known.now) c.args.table.now
    (vertex_ref_view c.args.tested_term.now.vertex) c.put.new.self
    c.requires.numbering c.requires.fit.there c.in_ok-vertex.ensures.ok).0

pub returns-clause-grown : goal.returns-clause-grown
returns-clause-grown g c =
    (vertex_put (problem c.args.known.now) c.args.table.now
    (vertex_ref_view c.args.tested_term.now.vertex) c.put.new.self
    c.requires.numbering c.requires.fit.there c.in_ok-vertex.ensures.ok).1

pub returns-clause-numbering : goal.returns-clause-numbering
returns-clause-numbering g c =
    (vertex_put (problem c.args.known.now) c.args.table.now
    (vertex_ref_view c.args.tested_term.now.vertex) c.put.new.self
    c.requires.numbering c.requires.fit.there c.in_ok-vertex.ensures.ok).0

pub returns-clause-terms : goal.returns-clause-terms
returns-clause-terms g c = λ ps are.
    let put = vertex_put (problem c.args.known.now) c.args.table.now (vertex_ref_view c.args.tested_term.now.vertex)
    c.put.new.self c.requires.numbering c.requires.fit.there c.in_ok-vertex.ensures.ok in
    tested_put g.S.States.tests c.args.table.now c.put.new.self c.args.terms.now.items c.push.new.self.items
    (record { vertex = c.in_ok-vertex.vertex; states = c.in_ok-states.states }) (tested_view c.args.tested_term.now) ps
    put.1 c.in_ok-push.ensures.items
    (c.in_ok-vertex.ensures.number, c.in_ok-states.ensures) are

pub returns-in_err-states-clause-only : goal.returns-in_err-states-clause-only
returns-in_err-states-clause-only g c =
    adds_put c.args.table.now c.put.new.self (vertex_ref_view c.args.tested_term.now.vertex) c.in_ok-vertex.ensures.ok

pub returns-in_err-push-clause-only : goal.returns-in_err-push-clause-only
returns-in_err-push-clause-only g c =
    adds_put c.args.table.now c.put.new.self (vertex_ref_view c.args.tested_term.now.vertex) c.in_ok-vertex.ensures.ok

pub returns-clause-only : goal.returns-clause-only
returns-clause-only g c =
    adds_put c.args.table.now c.put.new.self (vertex_ref_view c.args.tested_term.now.vertex) c.in_ok-vertex.ensures.ok
