use Rattle.std.proofs.Common.{◌-◌, map, option_map, slice_get, sym, ap, ◌∙◌}
use Rattle.std.proofs.lemmas.Option.{slice_get-map, same_Some, none-some}
use Rattle.semver.specs.Identifiers.{parts_of}
use Rattle.model.specs.Vertices.{the_root}
use Rattle.model.proofs.Places.{map_at}
use Rattle.selection.specs.inner.Contents.{owners_of}
use Rattle.selection.proofs.RankLists.{no_item}
use Rattle.selection.proofs.MetVersions.{got_item, no_owner, no_version, owner_at_met, met_there}
use Rattle.solver.proofs.Led.{owner_is}
use Rattle.solver.proofs.leading.owner_at.Goals as goal

pub returns-then-place-eq0 : goal.returns-then-place-eq0
returns-then-place-eq0 c o at = same_Some the_root o
    (ap (slice_get (owners_of c.args.catalogue.now c.args.versions.now)) (sym c.if-place-eq0.true) ∙ at)

pub returns-in_default : goal.returns-in_default
returns-in_default c o at =
    let versions = c.args.versions.now in
    absurd (none-some o (sym (no_owner c.args.catalogue.now versions c.args.place c.if-place-eq0.false
    (no_item versions (c.args.place - 1) c.get.result c.get.ensures.lookup c.in_default.is)) ∙ at))

pub returns-in-None : goal.returns-in-None
returns-in-None c o at =
    let versions = c.args.versions.now in
    let s = c.in-Some.met.now in
    let got = got_item versions (c.args.place - 1) c.get.result c.in-Some.met c.get.ensures.lookup c.in-Some.is in
    let vs = c.versions.result.now in
    absurd (no_version c.args.catalogue.now s (map parts_of vs) c.versions.ensures.versions (slice_get-map parts_of vs
    s.place ∙ ap (option_map parts_of) (no_item vs s.place c.get-2.result c.get-2.ensures.lookup c.in-None.is))
    (met_there c.args.catalogue.now versions (c.args.place - 1) s c.requires got))

pub returns-in-Some-get : goal.returns-in-Some-get
returns-in-Some-get c o at =
    let versions = c.args.versions.now in
    let s = c.in-Some.met.now in
    let got = got_item versions (c.args.place - 1) c.get.result c.in-Some.met c.get.ensures.lookup c.in-Some.is in
    let vs = c.versions.result.now in
    let v = c.in-Some-get.version.now in
    owner_is c.args.catalogue.now s vs (parts_of v) c.versions.ensures.versions (map_at parts_of vs s.place v
    (got_item vs s.place c.get-2.result c.in-Some-get.version c.get-2.ensures.lookup c.in-Some-get.is))
    ∙ same_Some _ o (sym (owner_at_met c.args.catalogue.now versions c.args.place s c.if-place-eq0.false got) ∙ at)
