use Rattle.std.proofs.Common.{◌-◌, sym}
use Rattle.catalogue.specs.Stores.{said_by}
use Rattle.selection.proofs.MetVersions.{got_item, met_brings, met_there, within}
use Rattle.selection.proofs.bringing.brings_at.Goals as goal

pub record-requires : goal.record-requires
record-requires c =
    let s = c.in_ok-met.met.now in
    let got = got_item c.args.versions.now
    (c.args.place - 1) c.get.result c.in_ok-met.met c.get.ensures.lookup c.in_ok-met.was in
    within c.args.catalogue.now s
    (met_there c.args.catalogue.now c.args.versions.now (c.args.place - 1) s c.requires got)

pub returns : goal.returns
returns c =
    let s = c.in_ok-met.met.now in
    let got = got_item c.args.versions.now
    (c.args.place - 1) c.get.result c.in_ok-met.met c.get.ensures.lookup c.in_ok-met.was in
    met_brings c.args.manifest.now c.args.catalogue.now c.args.versions.now c.args.place s
    (said_by c.record.result.now) c.store_holds.ensures c.if-place-eq0.false got (sym c.record.ensures)
