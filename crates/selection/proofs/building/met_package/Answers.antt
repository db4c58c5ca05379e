use Rattle.std.proofs.Common.{rules, ◌≡◌, Some, map, option_map, string_bytes, sym, ap, ◌∙◌}
use Rattle.std.proofs.lemmas.Option.{slice_get-map}
use Rattle.model.proofs.Places.{map_at}
use Rattle.semver.specs.Identifiers.{parts_of}
use Rattle.catalogue.specs.Stores.{said_by}
use Rattle.selection.proofs.MetVersions.{got_item, no_version, met_package_is, within}
use Rattle.selection.proofs.RankLists.{no_item}
use Rattle.selection.proofs.building.met_package.Goals as goal

pub returns-in_default : goal.returns-in_default
returns-in_default c =
    let vs = c.versions.result.now in
    let s = c.args.met.now in
    absurd (no_version c.args.catalogue.now s (map parts_of vs) c.versions.ensures.versions
    (slice_get-map parts_of vs s.place ∙ ap (option_map parts_of)
    (no_item vs s.place c.get.result c.get.ensures.lookup c.in_default.is)) c.requires)

pub record-requires : goal.record-requires
record-requires c = within c.args.catalogue.now c.args.met.now c.requires

pub returns : goal.returns
returns c =
    let vs = c.versions.result.now in
    let s = c.args.met.now in
    let v : parts_of c.in_ok-clone-2.field-0 ≡ parts_of c.in-Some.version.now = search rules in
    let name : c.in_ok-clone.field-0 ≡ s.name = search rules in
    let source : string_bytes c.in_ok-from_str.field-0 ≡ c.args.catalogue.now.source = search rules in
    let sum : string_bytes c.in_ok-to_text.field-0
    ≡ c.record.result.now.checksum = search rules in
    ap Some (met_package_is c.args.manifest.now c.args.catalogue.now s (said_by c.record.result.now)
    (map parts_of vs) (parts_of c.in_ok-clone-2.field-0) c.in_ok-clone.field-0
    (string_bytes c.in_ok-from_str.field-0)
    (string_bytes c.in_ok-to_text.field-0) c.new.result.items c.store_holds.ensures (sym c.record.ensures)
    c.versions.ensures.versions
    (map_at parts_of vs s.place c.in-Some.version.now (got_item vs s.place c.get.result c.in-Some.version
    c.get.ensures.lookup c.in-Some.is) ∙ ap Some (sym v)) name source sum c.new.ensures.items)
