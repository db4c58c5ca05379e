use Rattle.std.proofs.Common.{rules, ◌≡◌, map, option_map, sym, ap, ◌∙◌, refl}
use Rattle.std.proofs.lemmas.Option.{slice_get-map}
use Rattle.semver.specs.Identifiers.{parts_of}
use Rattle.classes.specs.Classes.{class_view}
use Rattle.model.specs.Vertices.{version_of}
use Rattle.model.proofs.Places.{map_at}
use Rattle.selection.proofs.MetVersions.{got_item, no_version, owner_is}
use Rattle.selection.proofs.RankLists.{no_item}
use Rattle.selection.proofs.Twice.{takes}
use Rattle.selection.proofs.taking.is_taken.Goals as goal

pub unreachable-requires : goal.unreachable-requires
unreachable-requires c =
    let vs = c.versions.result.now in
    let s = c.args.met.now in
    absurd (no_version c.args.catalogue.now s (map parts_of vs) c.versions.ensures.versions
    (slice_get-map parts_of vs s.place ∙ ap (option_map parts_of)
    (no_item vs s.place c.get.result c.get.ensures.lookup c.in_default.is)) c.requires)

pub returns : goal.returns
returns c =
    let vs = c.versions.result.now in
    let s = c.args.met.now in
    let class = c.of-class.result in
    let name : c.in_ok-name.name ≡ s.name = search rules in (
      (c.in_ok-name.name, class_view class),
      record {
        version = parts_of c.in-Some.version.now;
        is = owner_is c.args.catalogue.now s (map parts_of vs) (parts_of c.in-Some.version.now)
            c.versions.ensures.versions (map_at parts_of vs s.place c.in-Some.version.now
            (got_item vs s.place c.get.result c.in-Some.version c.get.ensures.lookup c.in-Some.is))
            ∙ ap (λ n. version_of n (parts_of c.in-Some.version.now)) (sym name);
        class = sym c.of-class.ensures;
      },
      takes c.args.taken.now.keys c.insert_full.new.self.keys
          (record { name = c.in_ok-name.name; class = class })
          c.in_ok-is_new.is_new _ c.in_ok-is_new.ensures.added refl c.in_ok-is_new.ensures.keys,
    )
