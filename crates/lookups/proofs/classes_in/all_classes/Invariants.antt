use Rattle.std.proofs.Common.{◌≡◌, ◌++◌, length, map}
use Rattle.semver.specs.Identifiers.{parts_of}
use Rattle.classes.specs.Classes.{class_view}
use Rattle.classes.specs.Groups.{each_once}
use Rattle.model.specs.Selection.{class_of}
use Rattle.lookups.specs.inner.Ranges.{AreRising}
use Rattle.lookups.proofs.classes_in.all_classes.Given as goal

-- the classes so far, with those of the versions that are left, are those of all
abbrev pub invariant-versions : goal.invariant-versions
invariant-versions l = record {
  rising : AreRising l.rest;
  same : map class_view l.classes.items ++ each_once (map class_of (map parts_of l.rest))
      ≡ each_once (map class_of (map parts_of l.versions));
}

abbrev pub decreases-versions : goal.decreases-versions
decreases-versions l = length l.rest
