-- What the entries, dependencies and faults of this crate stand for, and texts behind references.
use Rattle.std.specs.Prelude.{ℕ, Bool, true, false, List, map, Option, Some, None}
use Rattle.std.specs.Borrow.{Bor}
use Rattle.semver.specs.Identifiers.{comparator_view}
use Rattle.semver.specs.Parse.{Held}
use Rattle.semver.specs.declared.VersionReq.{VersionReq}
use Rattle.model.specs.Summary as model
use Rattle.features.specs.declared.dependency.DependencyParts.{DependencyParts}
use Rattle.features.specs.declared.dependency.Summary.{Summary}
use Rattle.features.specs.declared.entry.EntryFault.{EntryFault}
use Rattle.features.specs.declared.entry.EntryFault.TheVariants.{OutOfMemory, NotAnEntry}
use Rattle.features.specs.declared.name.NameFault.{NameFault}
use Rattle.features.specs.declared.name.NameFault.TheVariants as name

abbrev pub wants_memory : EntryFault → Bool
wants_memory OutOfMemory = true
wants_memory NotAnEntry = false

abbrev pub entry_fault_of : NameFault → EntryFault
entry_fault_of name.OutOfMemory = OutOfMemory
entry_fault_of name.NotAName = NotAnEntry

-- the texts behind references
abbrev pub text_views : List (Bor (List ℕ)) → List (List ℕ)
text_views ts = map (λ t. t.now) ts

-- what a requirement says
abbrev pub requirement_view : VersionReq → List Held
requirement_view r = map comparator_view r.comparators.items

abbrev pub dependency_view : DependencyParts → model.Dependency
dependency_view d = record {
  name = d.name;
  real_name = d.real_name;
  requirement = requirement_view d.requirement;
  optional = d.optional;
  default_features = d.default_features;
  features = d.features.items;
}

abbrev pub dependency_views : List DependencyParts → List model.Dependency
dependency_views ds = map dependency_view ds

abbrev pub summary_view : Summary → model.Summary
summary_view o = record { dependencies = dependency_views o.dependencies.items; features = o.features }

-- what a package brings, where it is there
abbrev pub brings_view : Option (Bor Summary) → model.Summary
brings_view None = model.nothing
brings_view (Some o) = summary_view o.now
