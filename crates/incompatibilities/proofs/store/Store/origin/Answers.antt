use Rattle.std.proofs.Common.{ap, sym, subst}
use Rattle.incompatibilities.specs.inner.Indexed.{IsIndexed}
use Rattle.incompatibilities.specs.Stores.{EntryView, OriginFits, entries_view, entry}
use Rattle.incompatibilities.proofs.Storing.{read_at}
use Rattle.incompatibilities.proofs.store.Store.origin.Goals as goal

pub returns-clause-value : goal.returns-clause-value
returns-clause-value g c =
    sym (ap (λ (e : EntryView). e.origin) (read_at g.S.States.tests c.self.inside.entries.items c.args.self.now
    c.index.result c.args.id c.index-2.result.now c.self.view_is c.index.ensures c.index-2.ensures c.requires))

pub returns-clause-fits : goal.returns-clause-fits
returns-clause-fits g c =
    let indexed = subst (λ vs. IsIndexed g.S.States.tests vs c.self.inside.ids.items c.self.inside.sets.items)
    c.self.view_is c.self.invariant in
    let es = entries_view g.S.States.tests c.args.self.now in
    subst (OriginFits es c.args.id (entry es c.args.id).terms)
    (ap (λ (e : EntryView). e.origin) (read_at g.S.States.tests c.self.inside.entries.items c.args.self.now
    c.index.result c.args.id c.index-2.result.now c.self.view_is c.index.ensures c.index-2.ensures c.requires))
    (indexed.founded c.args.id c.requires)
