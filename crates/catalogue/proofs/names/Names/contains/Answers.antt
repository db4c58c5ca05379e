use Rattle.std.proofs.Common.{◌∙◌}
use Rattle.catalogue.proofs.NameLaws.{there}
use Rattle.catalogue.proofs.names.Names.contains.Goals as goal

pub returns : goal.returns
returns c = rw (← c.self.view_is) (record {
  contains =
      c.contains_key.ensures ∙ there c.self.inside.list.items c.self.inside.places c.args.name.now c.self.invariant;
})
