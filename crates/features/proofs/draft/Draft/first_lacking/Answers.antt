use Rattle.std.proofs.Common.{rules, Some, ◌≡◌, Bool, true, false, ap, sym, ◌∙◌}
use Rattle.std.specs.List.{list_any}
use Rattle.std.proofs.lemmas.List.{drop_all}
use Rattle.model.specs.Summary as model
use Rattle.model.specs.Tables.{first_with, has_fault}
use Rattle.features.specs.inner.Drafts.{lack_view}
use Rattle.features.specs.EntryViews.{entry_view}
use Rattle.features.specs.inner.Tables.{dep_names_view, rows_of}
use Rattle.features.proofs.DraftLemmas.{first_with-at, first_with-beyond, first_with-none}
use Rattle.features.proofs.draft.Draft.first_lacking.Goals as goal

pub returns-then-some_lacking : goal.returns-then-some_lacking
returns-then-some_lacking c =
    let test : model.Entry → Bool = has_fault (dep_names_view c.args.self.now.dependencies.now)
    (rows_of c.args.self.now.written.now) (lack_view c.args.lack) in
    let some : list_any (λ entry. test (entry_view entry)) c.row-item.result.1.items ≡ true = search rules in
    ap Some c.name.ensures
    ∙ first_with-at test c.args.self.now.written.now c.rows.row-index c.row-item.result c.rows-test.true c.row-item.is
    some ∙ c.rows.invariant

pub rows-preserved : goal.rows-preserved
rows-preserved c =
    let test : model.Entry → Bool = has_fault (dep_names_view c.args.self.now.dependencies.now)
    (rows_of c.args.self.now.written.now) (lack_view c.args.lack) in
    let none : list_any (λ entry. test (entry_view entry)) c.row-item.result.1.items ≡ false = search rules in
    first_with-beyond test c.args.self.now.written.now c.rows.row-index c.row-item.result c.rows-test.true
    c.row-item.is none ∙ c.rows.invariant

pub returns : goal.returns
returns c =
    let test : model.Entry → Bool = has_fault (dep_names_view c.args.self.now.dependencies.now)
    (rows_of c.args.self.now.written.now) (lack_view c.args.lack) in
    first_with-none test
    ∙ ap (λ rows. first_with test (rows_of rows)) (sym (drop_all c.rows.row-index c.args.self.now.written.now
    c.rows-test.false)) ∙ c.rows.invariant
