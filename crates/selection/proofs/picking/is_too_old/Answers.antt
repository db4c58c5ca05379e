use Rattle.std.proofs.Common.{Option, Bor, option_map, sym, ap, ◌∙◌}
use Rattle.std.proofs.lemmas.Option.{slice_get-map}
use Rattle.semver.specs.Identifiers.{parts_of}
use Rattle.semver.specs.declared.Version.{Version}
use Rattle.features.specs.Views.{requirement_view}
use Rattle.catalogue.proofs.Rows.{item_at}
use Rattle.selection.specs.inner.Met.{is_too_old}
use Rattle.selection.proofs.picking.is_too_old.Goals as goal

pub returns-in-Some : goal.returns-in-Some
returns-in-Some c =
    let vs = c.args.versions.now in
    let test = is_too_old (requirement_view c.args.requirement.now) in
    c.is_short.ensures
    ∙ ap (λ (o : Option (Bor Version)). test (option_map (λ v. parts_of v.now) o)) (sym c.in-Some.is)
    ∙ ap test (item_at parts_of vs c.args.place c.get.result c.get.ensures.lookup
    ∙ sym (slice_get-map parts_of vs c.args.place))
