use Rattle.std.proofs.Common.{◌≡◌, ◌∙◌, ◌+◌, ◌∷◌, drop, ap, sym}
use Rattle.std.proofs.lemmas.List.{drop_more}
use Rattle.numbering.specs.GivenViews.{cause_views}
use Rattle.numbering.specs.inner.CausesAt.{with_causes}
use Rattle.numbering.proofs.SameCauses.{cause_put}
use Rattle.numbering.proofs.causes.kept_once.Goals as goal

pub causes-preserved : goal.causes-preserved
causes-preserved c =
    let xs = c.args.causes.now in
    let i = c.causes.cause-index in
    let x = c.cause-item.result in
    let left = drop (i + 1) xs in
    let here : drop i xs ≡ x ∷ left = drop_more xs i x c.causes-test.true ∙ ap (λ y. y ∷ left) (sym c.cause-item.is) in
    ap (λ ks. with_causes ks (cause_views left))
    (ap cause_views c.in_ok-insert.ensures.keys ∙ cause_put x c.causes.kept.keys)
    ∙ ap (λ l. with_causes (cause_views c.causes.kept.keys) (cause_views l)) (sym here)
    ∙ c.causes.invariant
