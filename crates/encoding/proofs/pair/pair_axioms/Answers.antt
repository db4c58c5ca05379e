use Rattle.std.proofs.Common.{◌≡◌, ◌<◌, [], length, Some, slice_get, sym, ap, ◌∙◌, subst}
use Rattle.std.proofs.lemmas.Result.{IfOk-weaker}
use Rattle.catalogue.specs.Problems.{problem_in}
use Rattle.model.specs.Content.{Problem}
use Rattle.model.specs.Vertices.{Vertex, space}
use Rattle.numbering.specs.inner.Assignments.{state_at}
use Rattle.numbering.specs.GivenViews.{given_views}
use Rattle.numbering.specs.inner.KnownProblem.{problem}
use Rattle.numbering.specs.Numberings.{IsGrown, IsNumbering, Numbering}
use Rattle.numbering.specs.Pairs.{IsGivenAt}
use Rattle.encoding.specs.Encodings.{numbered}
use Rattle.encoding.specs.inner.Rows.{vertices_of}
use Rattle.encoding.specs.Views.{vertex_views}
use Rattle.encoding.proofs.Numbered.{none_comes, same_again}
use Rattle.encoding.proofs.pair.pair_axioms.Goals as goal

pub axioms_at-requires : goal.axioms_at-requires
axioms_at-requires g c =
    let q = problem_in c.args.manifest.now c.args.catalogue.now in
    let vs = vertices_of c.args.rows.now in
    let p : problem c.new-known.result ≡ q = c.new-known.ensures.problem in
    let t : c.in_ok-table.table ≡ vs = c.in_ok-table.ensures
    ∙ ap (numbered []) (ap vertex_views c.as_slice.ensures.value ∙ c.in_ok-vertices.ensures)
    ∙ same_again q vs (c.requires.vertices).numbering in
    record {
      default = c.new-known.ensures.default;
      numbering = subst (λ (r : Problem). IsNumbering r c.in_ok-table.table) (sym p)
          (subst (IsNumbering q) (sym t) (c.requires.vertices).numbering);
      state = subst (λ (r : Problem). (v : Vertex) → slice_get c.in_ok-table.table c.args.vertex ≡ Some v
          → c.args.state < length (space r v)) (sym p)
          (subst (λ (l : Numbering). (v : Vertex) → slice_get l c.args.vertex ≡ Some v
          → c.args.state < length (space q v)) (sym t) c.requires.state);
    }

pub returns : goal.returns
returns g c =
    let q = problem_in c.args.manifest.now c.args.catalogue.now in
    let vs = vertices_of c.args.rows.now in
    let p : problem c.new-known.result ≡ q = c.new-known.ensures.problem in
    let t : c.in_ok-table.table ≡ vs = c.in_ok-table.ensures
    ∙ ap (numbered []) (ap vertex_views c.as_slice.ensures.value ∙ c.in_ok-vertices.ensures)
    ∙ same_again q vs (c.requires.vertices).numbering in
    let new = c.axioms_at.new.table in
    let same : new ≡ vs = none_comes q vs new (c.requires.vertices).whole
    (subst (λ (r : Problem). IsNumbering r new) p c.axioms_at.ensures.numbering)
    (subst (λ (l : Numbering). IsGrown l new) t c.axioms_at.ensures.grown) in
    let tests = g.S.States.tests in
    IfOk-weaker c.axioms_at.result
    (λ xs. (v : Vertex) → slice_get c.in_ok-table.table c.args.vertex ≡ Some v
    → IsGivenAt (problem c.new-known.result) new
    (v, state_at (problem c.new-known.result) v c.args.state) (given_views tests xs.items))
    (λ xs. (v : Vertex) → slice_get vs c.args.vertex ≡ Some v
    → IsGivenAt q vs (v, state_at q v c.args.state) (given_views tests xs.items))
    (λ xs given v at.
    subst (λ (r : Problem). IsGivenAt r vs (v, state_at r v c.args.state) (given_views tests xs.items))
    p (subst (λ (l : Numbering). IsGivenAt (problem c.new-known.result) l
    (v, state_at (problem c.new-known.result) v c.args.state) (given_views tests xs.items)) same
    (given v (ap (λ l. slice_get l c.args.vertex) t ∙ at))))
    c.axioms_at.ensures.given
