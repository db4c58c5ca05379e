use Rattle.std.proofs.Common.{arith, sym}
use Rattle.lockfile.specs.inner.Views.{package_view, package_views}
use Rattle.selection.proofs.Seconds.{view_at, root_alone, first_alone, second_by}
use Rattle.selection.proofs.classes_once.is_second.Goals as goal

pub returns-then-at-root : goal.returns-then-at-root
returns-then-at-root c = λ q only.
    root_alone (package_views c.args.content.now) c.requires.content q c.args.root only c.args.at c.if-at-root.true

pub returns-in-Some : goal.returns-in-Some
returns-in-Some c =
    λ q only. rw c.is_like.ensures
    (second_by (package_views c.args.content.now) c.requires.content q c.args.root only c.args.at c.in-Some.before
    (package_view c.index-content-at.result) (package_view c.index-content-before.result)
    (view_at c.args.content.now c.args.at c.index-content-at.result c.requires.at (sym c.index-content-at.is))
    (view_at c.args.content.now c.in-Some.before c.index-content-before.result
    (omega (arith, c.requires.at, c.in-Some.ensures.0)) (sym c.index-content-before.is))
    c.if-at-root.false c.in-Some.ensures.0 c.in-Some.ensures.1 c.in-Some.ensures.2)

pub returns-in-None : goal.returns-in-None
returns-in-None c = λ q only.
    first_alone (package_views c.args.content.now) c.requires.content q c.args.root only c.args.at c.in-None.ensures
