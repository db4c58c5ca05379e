use Rattle.std.proofs.Common.{◌≡◌, ◌++◌, sym, ap, ◌∙◌}
use Rattle.std.proofs.lemmas.List.{map-append}
use Rattle.std.specs.Ordering.{nat_cmp}
use Rattle.std.specs.Cmp.Lexicographic.{slice_cmp}
use Rattle.std.specs.BTreeMap.{insert_entry}
use Rattle.features.specs.EntryViews.{entry_view, entry_views}
use Rattle.features.specs.inner.Tables.{rows_of}
use Rattle.index_lines.proofs.WrittenLemmas.{joined-set, joined-insert}
use Rattle.index_lines.proofs.written.with_entries.Goals as goal

pub returns-in-Some : goal.returns-in-Some
returns-in-Some c =
    let all : entry_views c.append.new.self.items
    ≡ entry_views c.in-Some.before.now.items ++ entry_views c.args.entries.items
    = ap entry_views c.in_ok-append.ensures.items
    ∙ map-append entry_view c.in-Some.before.now.items c.args.entries.items in
    ap rows_of (c.get_mut.follows.holds c.append.new.self).0
    ∙ joined-set c.args.written.entries c.args.name c.in-Some.before.now c.append.new.self
    (entry_views c.args.entries.items) (sym c.in-Some.ensures.value) all

pub returns : goal.returns
returns c =
    ap rows_of c.in_ok-insert.ensures.entries
    ∙ ap (λ m.
    rows_of (insert_entry (slice_cmp nat_cmp) m.entries c.args.name c.args.entries)) c.get_mut.follows.holds-at-none
    ∙ joined-insert c.args.written.entries c.args.name c.args.entries (sym c.in_default.ensures.value)
