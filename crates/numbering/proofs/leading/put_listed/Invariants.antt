use Rattle.std.proofs.Common.{◌≡◌, ◌++◌, drop, map}
use Rattle.model.specs.Causes.{of_list}
use Rattle.numbering.specs.GivenViews.{cause_views}
use Rattle.classes.specs.Classes.{class_view}
use Rattle.vertices.specs.inner.RefViews.{owner_ref_view}
use Rattle.numbering.proofs.leading.put_listed.Given as goal

-- the causes so far, with those of the features that are left, are all
abbrev pub invariant-features : goal.invariant-features
invariant-features l =
    cause_views l.causes.items ++ map (of_list (owner_ref_view l.lead.owner) l.lead.number (class_view l.lead.class))
    (drop l.feature-index l.features)
    ≡ cause_views l.fn.causes.items
    ++ map (of_list (owner_ref_view l.lead.owner) l.lead.number (class_view l.lead.class)) l.features
