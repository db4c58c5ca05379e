use Rattle.std.proofs.Common.{◌≡◌, ◌++◌, length, map}
use Rattle.semver.specs.Identifiers.{parts_of}
use Rattle.classes.specs.Classes.{class_view}
use Rattle.classes.specs.Groups.{classes_matched}
use Rattle.features.specs.Views.{requirement_view}
use Rattle.lookups.specs.inner.Ranges.{AreRising}
use Rattle.lookups.proofs.classes_in.classes_matched.Given as goal

-- the classes so far, with those of the versions that are left, are those of all
abbrev pub invariant-versions : goal.invariant-versions
invariant-versions l = record {
  rising : AreRising l.rest;
  same : map class_view l.classes.items ++ classes_matched (requirement_view l.requirement) (map parts_of l.rest)
      ≡ classes_matched (requirement_view l.requirement) (map parts_of l.versions);
}

abbrev pub decreases-versions : goal.decreases-versions
decreases-versions l = length l.rest
