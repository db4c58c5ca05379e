use Rattle.std.proofs.Common.{option_copied}
use Rattle.catalogue.specs.declared.store.Prefer.TheVariants.{Newest}
use Rattle.resolver.proofs.Checked.{answered}
use Rattle.resolver.proofs.checking.check_bytes.Goals as goal

pub returns : goal.returns
returns g c =
    answered g.F.Folder.calls g.F.Folder.failed (record {
      manifest = c.args.manifest.now;
      old =
          option_copied c.args.old;
      source = c.args.source.now;
      prefer = Newest;
    })
    c.args.derivation.now c.args.folder.now c.read_inputs.new.folder c.in_ok-inputs.inputs c.check_loaded.result
    c.in_ok-inputs.ensures c.check_loaded.ensures
