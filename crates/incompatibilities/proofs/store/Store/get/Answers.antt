use Rattle.std.proofs.Common.{ap, sym, subst}
use Rattle.incompatibilities.specs.inner.Indexed.{IsIndexed}
use Rattle.incompatibilities.specs.Stores.{EntryView, entries_view}
use Rattle.incompatibilities.proofs.Storing.{each_follows, read_at}
use Rattle.incompatibilities.proofs.store.Store.get.Goals as goal

pub returns-clause-value : goal.returns-clause-value
returns-clause-value g c =
    sym (ap (λ (e : EntryView). e.terms) (read_at g.S.States.tests c.self.inside.entries.items c.args.self.now
    c.index.result c.args.id c.index-2.result.now c.self.view_is c.index.ensures c.index-2.ensures c.requires))

pub returns-clause-follows : goal.returns-clause-follows
returns-clause-follows g c =
    let indexed = subst (λ vs. IsIndexed g.S.States.tests vs c.self.inside.ids.items c.self.inside.sets.items)
    c.self.view_is c.self.invariant in
    each_follows (entries_view g.S.States.tests c.args.self.now) c.args.id indexed.founded c.requires
