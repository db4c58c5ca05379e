-- What a dependency of a line is made of, so that the same texts need not be read again.
use Rattle.std.specs.Prelude.{ℕ, ◌≡◌, Bool, ◌&&◌, List, Ok, unwrap_or}
use Rattle.std.specs.Bool.{beq}
use Rattle.semver.specs.Parse.{req_of}
use Rattle.semver.specs.declared.VersionReq.{VersionReq}
use Rattle.model.specs.Summary.{same_text}
use Rattle.features.specs.Views.{requirement_view, dependency_view}
use Rattle.features.specs.declared.dependency.DependencyParts.{DependencyParts}
use Rattle.index_lines.specs.Shapes.{PartView}
use Rattle.index_lines.specs.Records.{semver_or, feature_names, dependency_read}
use Rattle.index_lines.specs.declared.fault.SkipReason.TheVariants as reason

-- the requirement that a text is
abbrev pub IsRequirement : List ℕ → VersionReq → Type 0
IsRequirement text r = semver_or reason.BadRequirement (req_of text) ≡ Ok (requirement_view r)

-- the text of its requirement, and those of its features
pub record IsMadeOf (text : List ℕ) (texts : List (List ℕ)) (d : DependencyParts) : Type 0 where
  pub requirement : IsRequirement text d.requirement
  pub features : feature_names texts ≡ Ok d.features.items

-- a part of a line says just this dependency
pub record IsSaid (p : PartView) (d : DependencyParts) : Type 0 where
  pub requirement : IsRequirement p.requirement d.requirement
  pub dependency : dependency_read (p, requirement_view d.requirement) ≡ Ok (dependency_view d)

-- what is compared of it beside these texts
abbrev pub same_names : DependencyParts → PartView → Bool
same_names d p = same_text d.name p.name && same_text d.real_name (unwrap_or p.real_name p.name)

abbrev pub same_flags : DependencyParts → PartView → Bool
same_flags d p = beq d.optional p.optional && beq d.default_features p.default_features

abbrev pub same_parts : DependencyParts → PartView → Bool
same_parts d p = same_names d p && same_flags d p
