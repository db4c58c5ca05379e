-- What dependencies with their requirements, and records, stand for (Cargo book, "Registry Index").
use Rattle.std.specs.Prelude.{List, map, option_map, string_bytes}
use Rattle.semver.specs.Identifiers.{parts_of}
use Rattle.semver.specs.Parse.{Held}
use Rattle.features.specs.Views.{requirement_view, summary_view}
use Rattle.classes.specs.Classes.{rust_version_view}
use Rattle.index_lines.specs.Shapes.{PartView}
use Rattle.index_lines.specs.inner.ShapeViews.{part_view}
use Rattle.index_lines.specs.Records.{RecordView}
use Rattle.index_lines.specs.declared.required.Required.{Required}
use Rattle.index_lines.specs.declared.required.Required.TheVariants.{Again, Read}
use Rattle.index_lines.specs.declared.record.Record.{Record}

-- a dependency that takes part, with its requirement
abbrev pub required_view : Required → PartView × List Held
required_view (Again a) = (part_view a.part.now, requirement_view a.dependency.requirement)
required_view (Read r) = (part_view r.part.now, requirement_view r.requirement)

abbrev pub required_views : List Required → List (PartView × List Held)
required_views rs = map required_view rs

abbrev pub record_view : Record → RecordView
record_view r = record {
  version = parts_of r.version;
  checksum = string_bytes r.checksum;
  yanked = r.yanked;
  rust_version = option_map rust_version_view r.rust_version;
  brings = summary_view r.brings;
}
