use Rattle.std.proofs.Common.{Bor, Option, sym, ap, ◌∙◌}
use Rattle.std.specs.Prelude.{option_map, unwrap_or}
use Rattle.semver.specs.Identifiers.{parts_of}
use Rattle.semver.specs.declared.Version.{Version}
use Rattle.model.specs.Vertices.{absent, version}
use Rattle.numbering.proofs.Stated.{version_there}
use Rattle.numbering.proofs.states.version_at.Goals as goal

pub returns-in-Some : goal.returns-in-Some
returns-in-Some c =
    ap (λ (r : Option (Bor Version)).
    unwrap_or (option_map (λ (b : Bor Version). version (parts_of b.now)) r) absent) (sym c.in-Some.is)
    ∙ version_there c.args.versions.now c.args.number c.get.result c.if-number-eq0.false c.get.ensures.lookup

pub returns-in-None : goal.returns-in-None
returns-in-None c =
    ap (λ (r : Option (Bor Version)).
    unwrap_or (option_map (λ (b : Bor Version). version (parts_of b.now)) r) absent) (sym c.in-None.is)
    ∙ version_there c.args.versions.now c.args.number c.get.result c.if-number-eq0.false c.get.ensures.lookup
