use Rattle.std.proofs.Common.{◌≡◌, ◌++◌, ◌∷◌, [], length, sym, ap, ◌∙◌, subst}
use Rattle.std.proofs.lemmas.Result.{on_ok_weaker}
use Rattle.terms.specs.Terms.{terms_view}
use Rattle.solver.specs.inner.Flats.{flat_view}
use Rattle.derivations.specs.inner.Named.{named_views}
use Rattle.numbering.specs.inner.KnownProblem.{problem}
use Rattle.solver.specs.inner.Decoding.{terms_of}
use Rattle.solver.specs.Refusing.{AreSized, AreThere, spoken_views}
use Rattle.solver.proofs.Listed.{named_kept}
use Rattle.solver.proofs.NewTerms.{vertices_read}
use Rattle.solver.proofs.Sized.{over_sized}
use Rattle.solver.proofs.SteppedRows.{entry_new, stepped}
use Rattle.solver.proofs.stepping.push_step.Goals as goal

pub spoken_terms-requires-clause-sized : goal.spoken_terms-requires-clause-sized
spoken_terms-requires-clause-sized g c =
    let q = problem c.args.known.now in
    let e = flat_view g.S.States.tests c.args.flat.now in
    let same : terms_view g.S.States.tests c.terms-said.result.now ≡ e.terms =
    ap (terms_view g.S.States.tests) c.terms-said.ensures.terms in
    subst (AreSized q c.args.table.now) (sym same) (over_sized q c.args.table.now e.terms c.requires.next.over)

pub list_source-requires-clause-valid : goal.list_source-requires-clause-valid
list_source-requires-clause-valid g c =
    vertices_read (problem c.args.known.now) c.requires.parts c.args.table.now c.requires.numbering.there

pub list_each-requires-clause-valid : goal.list_each-requires-clause-valid
list_each-requires-clause-valid g c =
    vertices_read (problem c.args.known.now) c.requires.parts c.args.table.now c.requires.numbering.there

pub push_by-requires-clause-valid : goal.push_by-requires-clause-valid
push_by-requires-clause-valid g c =
    vertices_read (problem c.args.known.now) c.requires.parts c.args.table.now c.requires.numbering.there

pub push_by-requires-clause-named : goal.push_by-requires-clause-named
push_by-requires-clause-named g c = named_kept c.args.table.now c.list_source.new.self c.list_each.new.self
    c.list_each.ensures.kept c.args.flat.now.source c.in_ok-list_source.ensures.there

pub push_by-requires-clause-there : goal.push_by-requires-clause-there
push_by-requires-clause-there g c = subst (λ n. AreThere c.args.table.now n c.args.flat.now.source)
    (ap length (sym (c.list_each.ensures.steps ∙ c.list_source.ensures.steps))) c.requires.next.there

pub push_by-requires-clause-terms : goal.push_by-requires-clause-terms
push_by-requires-clause-terms g c =
    let q = problem c.args.known.now in
    let e = flat_view g.S.States.tests c.args.flat.now in
    let same : terms_view g.S.States.tests c.terms-said.result.now ≡ e.terms =
    ap (terms_view g.S.States.tests) c.terms-said.ensures.terms in
    let is : named_views c.as_slice-2.result.now ≡ terms_of q c.args.table.now e.terms
    = ap named_views c.as_slice-2.ensures.value ∙ c.in_ok-refs.ensures ∙ ap spoken_views c.as_slice.ensures.value
    ∙ c.in_ok-terms.ensures ∙ ap (terms_of q c.args.table.now) same in
    entry_new q c.args.table.now c.requires.numbering e c.requires.next.over
    (named_views c.as_slice-2.result.now) is c.requires.parts c.catalogues_are_well_formed.ensures

pub returns-clause-step : goal.returns-clause-step
returns-clause-step g c =
    let q = problem c.args.known.now in
    let e = flat_view g.S.States.tests c.args.flat.now in
    let same : terms_view g.S.States.tests c.terms-said.result.now ≡ e.terms =
    ap (terms_view g.S.States.tests) c.terms-said.ensures.terms in
    let is : named_views c.as_slice-2.result.now ≡ terms_of q c.args.table.now e.terms
    = ap named_views c.as_slice-2.ensures.value ∙ c.in_ok-refs.ensures ∙ ap spoken_views c.as_slice.ensures.value
    ∙ c.in_ok-terms.ensures ∙ ap (terms_of q c.args.table.now) same in
    on_ok_weaker c.push_by.result
    (λ h. (
      h.0,
      h.1 ∙ ap (λ l. l ++ h.0 ∷ []) (c.list_each.ensures.steps ∙ c.list_source.ensures.steps),
      stepped q c.args.table.now c.requires.numbering e c.requires.next.over (named_views c.as_slice-2.result.now) is
          h.0 h.2,
    ))
    c.push_by.ensures
