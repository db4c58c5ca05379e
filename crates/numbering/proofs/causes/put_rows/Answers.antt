use Rattle.std.proofs.Common.{rules, ◌≡◌, ◌++◌, ◌∷◌, List, ℕ, Some, Vec, sym, ap, subst, ◌∙◌}
use Rattle.std.specs.List.{All, flat_map}
use Rattle.std.specs.declared.alloc.Global.{Global}
use Rattle.std.proofs.lemmas.Option.{slice_get-get_or}
use Rattle.semver.specs.Identifiers.{parts_of}
use Rattle.features.specs.inner.Tables.{rows_of}
use Rattle.features.specs.EntryViews.{entry_views}
use Rattle.features.specs.declared.entry.Entry.{Entry}
use Rattle.features.proofs.PlaceLemmas.{entries_at-row}
use Rattle.model.specs.Summary as model
use Rattle.model.specs.Summary.{Table, entries_at}
use Rattle.model.specs.Tables.{IsInOrder}
use Rattle.model.proofs.Lists.{all_first, all_rest}
use Rattle.model.specs.Causes.{Cause, entries_or_none}
use Rattle.numbering.specs.GivenViews.{cause_views}
use Rattle.numbering.specs.inner.CausesAt.{entry_causes, feature_causes}
use Rattle.numbering.specs.inner.KnownProblem.{problem}
use Rattle.numbering.proofs.SameCauses.{rest_more}
use Rattle.numbering.proofs.causes.put_rows.Goals as goal

abbrev IsRow : Table → List ℕ × List model.Entry → Type 0
IsRow t row = entries_at row.0 t ≡ Some row.1

all_rows : (t : Table) → IsInOrder t → All (IsRow t) t
all_rows t order = λ k d within. entries_at-row t k _ order (slice_get-get_or t k d within)

pub rows-init : goal.rows-init
rows-init c =
    let all : rows_of c.into_iter-feature-iterator.result ≡ c.args.table.now = search rules in
    record {
      can = tt;
      finite = tt;
      known = subst (All (IsRow c.args.table.now)) (sym all)
          (all_rows c.args.table.now c.iter-feature-items.ensures.order);
      told = search rules;
    }

pub rows-preserved : goal.rows-preserved
rows-preserved c =
    let q = problem c.args.known.now in
    let name = c.args.name.now in
    let v = parts_of c.args.version.now in
    let table = c.args.table.now in
    let row : List ℕ × Vec Entry Global = (c.in-Some.feature.now, c.in-Some.entries.now) in
    let rest : List (List ℕ × Vec Entry Global) = c.next.new.self in
    let steps : c.rows.feature-iterator ≡ row ∷ rest = search rules in
    let f : List ℕ × List model.Entry → List Cause = λ r. feature_causes q name v r.0 in
    let first : List ℕ × List model.Entry = (row.0, entry_views row.1.items) in
    let cs = cause_views c.rows.causes.items in
    let known : All (IsRow table) (first ∷ rows_of rest)
    = subst (λ es. All (IsRow table) (rows_of es)) steps c.rows.invariant.known in
    let entries = ap entry_views c.as_slice.ensures.value
    ∙ sym (ap entries_or_none (all_first (IsRow table) first (rows_of rest) known))
    ∙ ap (λ t. entries_or_none (entries_at row.0 t)) c.requires.table in
    let step : cause_views c.put_feature.new.causes.items ≡ cs ++ f first
    = c.in_ok-put_feature.ensures ∙ ap (λ es. cs ++ flat_map (entry_causes q name v row.0) es) entries in
    record {
      can = tt;
      finite = tt;
      known = all_rest (IsRow table) first (rows_of rest) known;
      told = rest_more f cs (cause_views c.put_feature.new.causes.items)
          (cause_views c.args.causes.now.items ++ flat_map f table) first (rows_of rest)
          (ap (λ es. cs ++ flat_map f (rows_of es)) (sym steps) ∙ c.rows.invariant.told) step;
    }
