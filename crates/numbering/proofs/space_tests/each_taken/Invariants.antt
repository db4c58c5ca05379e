use Rattle.std.proofs.Common.{◌≡◌, ◌++◌, ◌∷◌, false, map, drop}
use Rattle.semver.specs.Identifiers.{parts_of}
use Rattle.features.specs.Views.{requirement_view}
use Rattle.semver.specs.EvalViews.{matches_views}
use Rattle.numbering.proofs.space_tests.each_taken.Given as goal

-- the tests so far, with those of the versions that are left, are those of all
abbrev pub invariant-versions : goal.invariant-versions
invariant-versions l = l.tests.items
    ++ map (λ w. matches_views (requirement_view l.requirement) (parts_of w)) (drop l.version-index l.versions)
    ≡ false ∷ map (λ w. matches_views (requirement_view l.requirement) (parts_of w)) l.versions
