use Rattle.std.proofs.Common.{◌∙◌}
use Rattle.catalogue.proofs.names.Names.get_index_of.Goals as goal

pub returns : goal.returns
returns c = rw (← c.self.view_is)
    (record { index = c.copied.ensures ∙ c.get.ensures.value ∙ c.self.invariant.found c.args.name.now })
