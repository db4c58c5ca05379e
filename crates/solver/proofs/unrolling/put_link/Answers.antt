use Rattle.std.proofs.Common.{◌≡◌, List, ap, slice_index_or, sym, subst, ◌∙◌, ◌++◌, ◌∷◌, []}
use Rattle.std.proofs.lemmas.Result.{IfOk-weaker}
use Rattle.terms.specs.Terms.{TermView, terms_view}
use Rattle.incompatibilities.specs.Incompatibilities.{Fit, IsCombination, LiesIn, states_at}
use Rattle.incompatibilities.specs.Stores.{entries_view, entry}
use Rattle.solver.specs.inner.Flats.{FlatView, flat, flats_view}
use Rattle.solver.specs.declared.flat.Source.TheVariants.{Combined}
use Rattle.solver.proofs.FlatRows.{flat_read}
use Rattle.solver.proofs.unrolling.put_link.Goals as goal

pub combine-requires : goal.combine-requires
combine-requires g c =
    let tests = g.S.States.tests in
    let first = ap (λ (f : FlatView). f.terms)
    (flat_read tests c.args.flats.now.items c.args.place c.index.result.now c.requires.place c.index.ensures) in
    subst (λ (ts : List TermView). Fit (states_at ts) (states_at (terms_view tests c.get.result.now))) first
    (subst (λ (us : List TermView). Fit (states_at (flat (flats_view tests c.args.flats.now.items) c.args.place).terms)
    (states_at us)) (sym c.get.ensures.value) c.requires.fit)

pub returns : goal.returns
returns g c =
    let tests = g.S.States.tests in
    let es = entries_view tests c.args.store.now in
    let fs = flats_view tests c.args.flats.now.items in
    let made = terms_view tests c.in_ok-made.made in
    let v = c.args.link.vertex in
    let first = ap (λ (f : FlatView). f.terms)
    (flat_read tests c.args.flats.now.items c.args.place c.index.result.now c.requires.place c.index.ensures) in
    let second = c.get.ensures.value in
    let as_one : (P : List TermView → List TermView → Type 0) → P (terms_view tests c.index.result.now.incompatibility)
    (terms_view tests c.get.result.now) → P (flat fs c.args.place).terms (entry es c.args.link.with).terms =
    λ P h. subst (λ ts. P ts (entry es c.args.link.with).terms) (sym first)
    (subst (P (terms_view tests c.index.result.now.incompatibility)) second h) in
    IfOk-weaker c.push.result _ _ (λ p h. record {
      at_end = h.0;
      made = made;
      is = as_one (λ a b. IsCombination v a b made) c.in_ok-made.ensures.combination;
      only = as_one (λ a b. (ts : List TermView) → IsCombination v a b ts → ts ≡ made) c.in_ok-made.ensures.exact;
      lies = λ space. as_one (λ a b. LiesIn space (states_at a) → LiesIn space (states_at b)
          → LiesIn space (states_at made)) (c.in_ok-made.ensures.spaces space);
      grown = h.1 ∙ ap (λ k. fs ++ record {
        terms = made;
        source = Combined c.args.place (slice_index_or c.args.places.now k 0) v;
      } ∷ []) c.index-2.ensures;
    }) c.push.ensures
