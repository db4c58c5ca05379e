use Rattle.incompatibilities.specs.Incompatibilities.{IsMadeOf}
use Rattle.terms.specs.Terms.{terms_view}
use Rattle.incompatibilities.proofs.Broken.{lies_made}
use Rattle.incompatibilities.proofs.Making.{is_made}
use Rattle.incompatibilities.proofs.incompatibility.Incompatibility.new.Given.{Over}
use Rattle.incompatibilities.proofs.incompatibility.Incompatibility.new.Goals as goal

made : (g : Over) (c : goal.After-sort_by_vertex g) → IsMadeOf (terms_view g.S.States.tests c.args.terms.items)
    (terms_view g.S.States.tests c.sort_by_vertex.new.terms.items)
made g c = is_made g.S.States.tests c.args.terms.items c.drop_full.new.terms.items c.sort_by_vertex.new.terms.items
    c.requires c.drop_full.ensures c.sort_by_vertex.ensures.permutation c.sort_by_vertex.ensures.sorted

pub invariant_of-result : goal.invariant_of-result
invariant_of-result g c = (made g c).is

pub returns-clause-made : goal.returns-clause-made
returns-clause-made g c = made g c

pub returns-clause-spaces : goal.returns-clause-spaces
returns-clause-spaces g c = lies_made (terms_view g.S.States.tests c.args.terms.items)
    (terms_view g.S.States.tests c.sort_by_vertex.new.terms.items) (made g c)
