use Rattle.std.proofs.Common.{arith, sym, ◌∙◌, refl}
use Rattle.lockfile.specs.inner.Views.{package_view, package_views}
use Rattle.selection.proofs.Seconds.{view_at, root_alone, first_alone, second_by}
use Rattle.flaws.proofs.Twins.{twin_is}
use Rattle.flaws.proofs.judging.twin_of.Goals as goal

pub returns-then-at-root : goal.returns-then-at-root
returns-then-at-root c = λ q only. (root_alone (package_views c.args.content.now) c.requires.content q c.args.root only
    c.args.at c.if-at-root.true).0 refl

pub returns-in_err-before : goal.returns-in_err-before
returns-in_err-before c = λ q only. rw c.from_residual.ensures ((first_alone (package_views c.args.content.now)
    c.requires.content q c.args.root only c.args.at c.in_err-before.ensures).0 refl)

pub returns-then-is_like : goal.returns-then-is_like
returns-then-is_like c =
    λ q only. twin_is (package_views c.args.content.now) c.requires.content q c.args.root only c.args.at
    c.in_ok-before.before (package_view c.index-content-at.result) (package_view c.index-content-before.result)
    (view_at c.args.content.now c.args.at c.index-content-at.result c.requires.at (sym c.index-content-at.is))
    (view_at c.args.content.now c.in_ok-before.before c.index-content-before.result
    (omega (arith, c.requires.at, c.in_ok-before.ensures.0)) (sym c.index-content-before.is))
    c.if-at-root.false c.in_ok-before.ensures.0 c.in_ok-before.ensures.1 (sym c.is_like.ensures ∙ c.if-is_like.true)

pub returns-else-is_like : goal.returns-else-is_like
returns-else-is_like c =
    λ q only. (second_by (package_views c.args.content.now) c.requires.content q c.args.root only c.args.at
    c.in_ok-before.before (package_view c.index-content-at.result) (package_view c.index-content-before.result)
    (view_at c.args.content.now c.args.at c.index-content-at.result c.requires.at (sym c.index-content-at.is))
    (view_at c.args.content.now c.in_ok-before.before c.index-content-before.result
    (omega (arith, c.requires.at, c.in_ok-before.ensures.0)) (sym c.index-content-before.is))
    c.if-at-root.false c.in_ok-before.ensures.0 c.in_ok-before.ensures.1 c.in_ok-before.ensures.2).0
    (sym c.is_like.ensures ∙ c.if-is_like.false)
