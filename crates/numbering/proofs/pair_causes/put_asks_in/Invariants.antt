use Rattle.std.proofs.Common.{◌≡◌, ◌++◌, drop, map}
use Rattle.semver.specs.Identifiers.{parts_of}
use Rattle.classes.specs.Classes.{class_view}
use Rattle.model.specs.Causes.{of_ask}
use Rattle.numbering.specs.GivenViews.{cause_views}
use Rattle.numbering.proofs.pair_causes.put_asks_in.Given as goal

-- the causes so far, with those of the classes that are left, are all
abbrev pub invariant-classes : goal.invariant-classes
invariant-classes l =
    cause_views l.causes.items
    ++ map (of_ask l.name (parts_of l.version) l.number l.feature) (map class_view (drop l.class-index l.classes))
    ≡ cause_views l.fn.causes.items
    ++ map (of_ask l.name (parts_of l.version) l.number l.feature) (map class_view l.classes)
