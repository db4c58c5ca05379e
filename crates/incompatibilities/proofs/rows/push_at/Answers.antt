use Rattle.incompatibilities.proofs.RowLemmas.{row_pushed, row_set_other}
use Rattle.incompatibilities.proofs.rows.push_at.Goals as goal

pub returns-clause-here : goal.returns-clause-here
returns-clause-here g c = row_pushed c.args.rows.now.items c.args.vertex c.index_mut.result.now c.push_reserved.new.self
    c.args.item c.requires.0 c.index_mut.ensures.value c.push_reserved.ensures.items

pub returns-clause-others : goal.returns-clause-others
returns-clause-others g c v o = row_set_other c.args.rows.now.items c.args.vertex v c.push_reserved.new.self o
