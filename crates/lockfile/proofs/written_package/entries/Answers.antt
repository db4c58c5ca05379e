use Rattle.std.proofs.Common.{refl}
use Rattle.std.proofs.lemmas.Option.{slice_get_read}
use Rattle.lockfile.proofs.written_package.entries.Goals as goal

pub make_entry-requires-clause-place : goal.make_entry-requires-clause-place
make_entry-requires-clause-place c = slice_get_read c.args.packages.now _ c.packages.place c.index-packages-place.result
    refl c.packages-test.true c.index-packages-place.is
