use Rattle.std.proofs.Common.{◌≡◌, ◌≤◌, Bool, true, false, nat_le, length, Some, option_map, Ok, refl, sym, ap, ◌∙◌}
use Rattle.std.proofs.lemmas.Bool.{leb-true}
use Rattle.toml.specs.View.{table_view}
use Rattle.model.specs.Outcome.{guard}
use Rattle.manifest.specs.Manifests.{limit}
use Rattle.manifest.specs.declared.fault.ManifestFault.TheVariants.{TooLarge}
use Rattle.manifest.proofs.ValidLemmas.{document-valid}
use Rattle.manifest.proofs.reader.Manifest.read.Goals as goal

passed : (b : Bool) → guard b TooLarge ≡ Ok tt → b ≡ true
passed true e = refl
passed false e = cc

pub manifest_in-requires : goal.manifest_in-requires
manifest_in-requires c =
    let small : length c.args.bytes.now ≤ limit =
    leb-true _ _ (passed (nat_le (length c.args.bytes.now) limit) c.in_ok-check.ensures) in
    document-valid c.args.bytes.now (table_view c.in-Some.table) small
    (sym c.in_ok-table.ensures ∙ ap (option_map table_view) c.in-Some.is)
