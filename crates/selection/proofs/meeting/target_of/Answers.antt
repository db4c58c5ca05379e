use Rattle.std.proofs.Common.{is_some, sym, ap, ◌∙◌}
use Rattle.features.specs.Views.{dependency_view}
use Rattle.selection.proofs.Picks.{none_picked, one_picked}
use Rattle.selection.proofs.PickedTargets.{pick_put}
use Rattle.selection.proofs.meeting.target_of.Goals as goal

pub returns-in_default-clause-pick : goal.returns-in_default-clause-pick
returns-in_default-clause-pick c =
    none_picked c.args.catalogue.now (dependency_view c.args.dependency.now)
    (sym c.in_ok-place.ensures.place ∙ c.in_default.is)

pub put_met-requires : goal.put_met-requires
put_met-requires c =
    let (x, is, at) = one_picked c.args.catalogue.now (dependency_view c.args.dependency.now) c.in-Some.place
    (sym c.in_ok-place.ensures.place ∙ c.in-Some.is) in
    ap is_some at

pub returns-clause-pick : goal.returns-clause-pick
returns-clause-pick c =
    pick_put c.args.catalogue.now c.put_met.new.versions.keys (dependency_view c.args.dependency.now) c.in-Some.place
    c.in_ok-put_met.field-0 (sym c.in_ok-place.ensures.place ∙ c.in-Some.is) c.in_ok-put_met.ensures.at
