use Rattle.std.proofs.Common.{refl}
use Rattle.selection.proofs.MetVersions.{put_at, put_grows}
use Rattle.selection.proofs.putting.put_met.Goals as goal

pub returns-clause-grows : goal.returns-clause-grows
returns-clause-grows c =
    put_grows c.args.catalogue.now c.args.name.now c.args.place (record {
      name = c.in_ok-clone.field-0;
      place =
          c.args.place;
    }) _ _ c.requires c.in_ok-clone.ensures.cases refl c.in_ok-index.ensures.keys

pub returns-clause-at : goal.returns-clause-at
returns-clause-at c =
    put_at c.args.catalogue.now c.args.name.now c.args.place (record {
      name = c.in_ok-clone.field-0;
      place =
          c.args.place;
    }) _ c.in_ok-index.index c.in_ok-clone.ensures.cases refl c.in_ok-index.ensures.stored
