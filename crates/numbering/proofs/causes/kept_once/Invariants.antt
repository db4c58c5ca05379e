use Rattle.std.proofs.Common.{◌≡◌, [], drop}
use Rattle.numbering.specs.GivenViews.{cause_views}
use Rattle.numbering.specs.inner.CausesAt.{with_causes}
use Rattle.numbering.proofs.causes.kept_once.Given as goal

-- those kept so far, with those that are left, are all
abbrev pub invariant-causes : goal.invariant-causes
invariant-causes l = with_causes (cause_views l.kept.keys) (cause_views (drop l.cause-index l.causes))
    ≡ with_causes [] (cause_views l.causes)
