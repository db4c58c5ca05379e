use Rattle.std.proofs.Common.{◌≡◌, ◌++◌, drop, map}
use Rattle.std.specs.List.{flat_map}
use Rattle.semver.specs.Identifiers.{parts_of}
use Rattle.classes.specs.Classes.{class_view}
use Rattle.features.specs.Views.{dependency_view}
use Rattle.numbering.specs.GivenViews.{cause_views}
use Rattle.numbering.specs.inner.CausesAt.{weak_if}
use Rattle.numbering.proofs.causes.put_weak_in.Given as goal

-- the causes so far, with those of the classes that are left, are all
abbrev pub invariant-classes : goal.invariant-classes
invariant-classes l =
    cause_views l.causes.items ++ flat_map (weak_if l.own.name.now (parts_of l.own.version.now) l.own.feature.now
    l.asked l.number (dependency_view l.dependency)) (map class_view (drop l.class-index l.classes))
    ≡ cause_views l.fn.causes.items ++ flat_map (weak_if l.own.name.now (parts_of l.own.version.now) l.own.feature.now
    l.asked l.number (dependency_view l.dependency)) (map class_view l.classes)
