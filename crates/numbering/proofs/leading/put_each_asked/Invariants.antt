use Rattle.std.proofs.Common.{◌≡◌, ◌++◌, drop, map}
use Rattle.model.specs.Causes.{of_list}
use Rattle.numbering.specs.inner.Asked.{features_of}
use Rattle.numbering.specs.GivenViews.{cause_views}
use Rattle.classes.specs.Classes.{class_view}
use Rattle.vertices.specs.inner.RefViews.{owner_ref_view}
use Rattle.numbering.proofs.leading.put_each_asked.Given as goal

-- the causes so far, with those of the features that are left, are all
abbrev pub invariant-features : goal.invariant-features
invariant-features l =
    cause_views l.causes.items ++ map (of_list (owner_ref_view l.lead.owner) l.lead.number (class_view l.lead.class))
    (features_of (drop l.wanted-index l.features))
    ≡ cause_views l.fn.causes.items
    ++ map (of_list (owner_ref_view l.lead.owner) l.lead.number (class_view l.lead.class)) (features_of l.features)
