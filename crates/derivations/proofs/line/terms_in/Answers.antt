use Rattle.std.proofs.Common.{◌≡◌, ◌+◌, ◌<◌, ◌∷◌, Ok, drop, get_or, length, ap, sym, ◌∙◌, refl, rules}
use Rattle.std.proofs.lemmas.List.{drop_more}
use Rattle.trees.specs.Trees.{trees_view}
use Rattle.model.specs.Outcome.{◌>>=◌}
use Rattle.derivations.specs.Steps.{terms_in}
use Rattle.derivations.specs.inner.StepViews.{written_view, written_views}
use Rattle.model.proofs.Fronts.{with_front, with_front-next}
use Rattle.derivations.proofs.TableLaws.{grown-trans}
use Rattle.derivations.proofs.EarlierLaws.{earlier-kept, more-written}
use Rattle.derivations.proofs.line.terms_in.Goals as goal

pub term-requires : goal.term-requires
term-requires c = earlier-kept c.args.tables.now c.items.tables c.items.invariant.grown c.args.earlier c.requires

pub items-preserved : goal.items-preserved
unfolding terms_in
items-preserved c =
    let t = c.term.new.tables in
    let w = c.in_ok-term.field-0 in
    let rest = trees_view (drop (c.items.value-index + 1) c.args.values.now.items) in
    let more = more-written c.items.tables t c.in_ok-term.ensures.grown c.items.found.items w
    (written_view t w) c.items.invariant.within c.in_ok-term.ensures.within refl in
    let values = c.args.values.now.items in
    let i = c.items.value-index in
    let below : i < length values = search rules in
    let same : c.value-item.result ≡ get_or values i c.value-item.result = search rules in
    let item : drop i values ≡ c.value-item.result ∷ drop (i + 1) values =
    drop_more values i c.value-item.result below ∙ ap (λ x. x ∷ drop (i + 1) values) (sym same) in
    let read : terms_in (trees_view (drop i values)) ≡ terms_in rest >>= (λ others. Ok (written_view t w ∷ others)) =
    rw (item, c.in_ok-term.ensures.term) refl in
    record {
      grown = grown-trans c.args.tables.now c.items.tables t c.items.invariant.grown c.in_ok-term.ensures.grown;
      within = rw c.in_ok-push.ensures.items more.0;
      told = rw (c.in_ok-push.ensures.items, more.1)
          (with_front-next (written_views c.items.tables c.items.found.items) (written_view t w) (terms_in rest) _ (ap
          (with_front (written_views c.items.tables c.items.found.items)) (sym read) ∙ c.items.invariant.told));
    }
