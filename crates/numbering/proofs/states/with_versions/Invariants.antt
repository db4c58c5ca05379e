use Rattle.std.proofs.Common.{◌≡◌, ◌++◌, ◌∷◌, drop, map}
use Rattle.semver.specs.Identifiers.{parts_of}
use Rattle.model.specs.Vertices.{absent, version}
use Rattle.vertices.specs.inner.RefViews.{state_ref_views}
use Rattle.numbering.proofs.states.with_versions.Given as goal

-- the states so far, with those of the versions that are left, are all
abbrev pub invariant-versions : goal.invariant-versions
invariant-versions l = state_ref_views l.states.items ++ map (λ v. version (parts_of v))
    (drop l.version-index l.versions) ≡ absent ∷ map (λ v. version (parts_of v)) l.versions
