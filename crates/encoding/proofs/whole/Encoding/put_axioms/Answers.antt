use Rattle.std.proofs.Common.{◌≡◌, ◌<◌, ◌≤◌, ◌+◌, ◌++◌, List, length, suc, sym, ap, ◌∙◌, subst, arith}
use Rattle.std.proofs.lemmas.List.{map-append}
use Rattle.terms.specs.Terms.{terms_view}
use Rattle.terms.specs.declared.term.Term.{Term}
use Rattle.vertices.specs.Texts.{kind_view}
use Rattle.vertices.specs.declared.kind.Kind.{Kind}
use Rattle.model.specs.Vertices.{space}
use Rattle.model.specs.Order.{IsCatalogue}
use Rattle.numbering.specs.GivenViews.{given_views}
use Rattle.encoding.specs.Encodings.{EncodingView}
use Rattle.encoding.specs.Everywhere.{IsGivenFor}
use Rattle.encoding.proofs.Pairing.{begins, ends, next, so_far, vertex_at, vertex_there}
use Rattle.encoding.proofs.whole.Encoding.put_axioms.Goals as goal

pub states-init : goal.states-init
states-init g c =
    let e = c.args.self.now in
    begins e.problem e.vertices c.args.vertex (given_views g.S.States.tests c.args.given.now.items) c.requires.given

pub states-preserved : goal.states-preserved
states-preserved g c =
    let e = c.args.self.now in
    let n = c.args.vertex in
    let i = c.states.state in
    let tests = g.S.States.tests in
    let xs = given_views tests c.states.given.items in
    let ys = given_views tests c.in_ok-more.more.items in
    let both : given_views tests c.append.new.self.items ≡ xs ++ ys
    = ap (given_views tests) c.in_ok-append.ensures.items
    ∙ map-append (λ (x : Kind × List (Term g.row.S.Denot)). (kind_view x.0, terms_view tests x.1)) c.states.given.items
    c.in_ok-more.more.items in
    let known = subst IsCatalogue (ap (λ (e : EncodingView). e.problem) c.self.view_is)
    c.catalogues_are_well_formed.ensures in
    let at = vertex_there e.problem e.vertices n c.requires.vertex in
    let less : i < length (space e.problem (vertex_at e.problem e.vertices n))
    = subst (λ k. i < k) (c.space-space.ensures (vertex_at e.problem e.vertices n) at) c.states-test.true in
    let k : suc i ≡ i + 1 = omega arith in
    subst (λ l. IsGivenFor e.problem e.vertices (so_far e.problem e.vertices n (i + 1)) l) (sym both)
    (subst (λ j. IsGivenFor e.problem e.vertices (so_far e.problem e.vertices n j) (xs ++ ys)) k
    (next e.problem e.vertices n i xs ys known (c.numbers_every_vertex.ensures).numbering c.requires.vertex less
    c.states.invariant c.in_ok-more.ensures))

pub returns : goal.returns
returns g c =
    let e = c.args.self.now in
    let n = c.args.vertex in
    let i = c.states.state in
    let at = vertex_there e.problem e.vertices n c.requires.vertex in
    let all : length (space e.problem (vertex_at e.problem e.vertices n)) ≤ i
    = subst (λ k. k ≤ i) (c.space-space.ensures (vertex_at e.problem e.vertices n) at)
    (omega (arith, c.states-test.false)) in
    record {
      given = ends e.problem e.vertices n i (given_views g.S.States.tests c.states.given.items) c.requires.vertex all
          c.states.invariant;
    }
