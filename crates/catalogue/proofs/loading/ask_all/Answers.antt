use Rattle.std.proofs.Common.{◌≡◌, ℕ, ◌<◌, List, [], length, get_or, slice_get, Some, map, option_map, arith, sym, ap}
use Rattle.std.proofs.Common.{ap₂, ◌∙◌, subst}
use Rattle.std.proofs.lemmas.Option.{slice_get-get_or}
use Rattle.std.proofs.lemmas.Result.{err_from_is_err_and}
use Rattle.catalogue.specs.inner.Names.{insert_all}
use Rattle.classes.specs.Classes.{rust_version_view}
use Rattle.features.specs.Views.{dependency_views}
use Rattle.index_reader.specs.Files.{skip_view}
use Rattle.model.specs.Summary.{same_text}
use Rattle.catalogue.specs.Loads.{packages_of_old, needs_of, IsLoaded}
use Rattle.catalogue.specs.inner.Views.{candidates_view, rows_view}
use Rattle.catalogue.specs.Runs.{meant_by}
use Rattle.catalogue.proofs.SoFar.{begun, asked_more, all_asked, too_many, stopped, cut_after}
use Rattle.catalogue.proofs.loading.ask_all.Goals as goal

pub names-init : goal.names-init
names-init g c =
    let root = dependency_views c.args.dependencies.now in
    rw (c.new-candidates.ensures.items, c.new-skips.ensures.items)
    (begun (packages_of_old c.args.run.now.old) c.args.run.now.source.now (option_map rust_version_view
    c.args.run.now.rust_version) root g.F.Folder.calls c.args.folder.now c.add_names.new.names.keys
    (c.in_ok-add_names.ensures ∙ ap (λ ks. insert_all same_text ks (meant_by root)) c.new-names.ensures.empty))

pub returns-then-len-ge-MAX_NAMES : goal.returns-then-len-ge-MAX_NAMES
returns-then-len-ge-MAX_NAMES g c =
    let root = dependency_views c.args.dependencies.now in
    let test = c.names-test.true in
    let len = c.len.ensures in
    let wide = c.len-in-names.ensures.len in
    let len-2 = c.len-in-names-2.ensures in
    let most = c.if-len-ge-MAX_NAMES.true in
    let less : length c.names.candidates.items < length c.names.names.keys = omega (arith, test, len, wide) in
    too_many (packages_of_old c.args.run.now.old) c.args.run.now.source.now
    (option_map rust_version_view c.args.run.now.rust_version) root g.F.Folder.calls c.args.folder.now
    c.names.names.keys c.names.candidates.items (map skip_view c.names.skips.items) c.names.folder _ c.names.invariant
    (slice_get-get_or c.names.names.keys (length c.names.candidates.items) [] less) (omega (arith, most, len-2))

pub returns-in_err-found : goal.returns-in_err-found
returns-in_err-found g c =
    let root = dependency_views c.args.dependencies.now in
    let test = c.names-test.true in
    let len = c.len.ensures in
    let wide = c.len-in-names.ensures.len in
    let len-2 = c.len-in-names-2.ensures in
    let few = c.if-len-ge-MAX_NAMES.false in
    let less : length c.names.candidates.items < length c.names.names.keys = omega (arith, test, len, wide) in
    let len-3 = c.len-in-names-3.ensures in
    let name = c.index-as_slice-len.result in
    let even : c.len-in-names-3.result ≡ length c.names.candidates.items = omega (arith, len-3) in
    let at : slice_get c.names.names.keys (length c.names.candidates.items) ≡ Some name
    = slice_get-get_or c.names.names.keys (length c.names.candidates.items) name less
    ∙ ap Some (sym (c.index-as_slice-len.is ∙ ap₂ (λ xs n. get_or xs n name) c.as_slice.ensures.keys even)) in
    let p = err_from_is_err_and c.from_residual-in_err-found.result c.from_residual-in_err-found.ensures.1 in
    rw (p.1, p.2)
    (stopped (packages_of_old c.args.run.now.old) c.args.run.now.source.now (option_map rust_version_view
    c.args.run.now.rust_version) root g.F.Folder.calls g.F.Folder.failed c.args.folder.now
    c.names.names.keys c.names.candidates.items (map skip_view c.names.skips.items) c.names.folder c.ask.new.folder name
    c.in_err-found.field-0.0 c.names.invariant at (omega (arith, few, len-2)) c.in_err-found.ensures)

pub returns-in_err-add_needed : goal.returns-in_err-add_needed
returns-in_err-add_needed g c =
    let root = dependency_views c.args.dependencies.now in
    let test = c.names-test.true in
    let len = c.len.ensures in
    let wide = c.len-in-names.ensures.len in
    let len-2 = c.len-in-names-2.ensures in
    let few = c.if-len-ge-MAX_NAMES.false in
    let less : length c.names.candidates.items < length c.names.names.keys = omega (arith, test, len, wide) in
    let len-3 = c.len-in-names-3.ensures in
    let name = c.index-as_slice-len.result in
    let even : c.len-in-names-3.result ≡ length c.names.candidates.items = omega (arith, len-3) in
    let at : slice_get c.names.names.keys (length c.names.candidates.items) ≡ Some name
    = slice_get-get_or c.names.names.keys (length c.names.candidates.items) name less
    ∙ ap Some (sym (c.index-as_slice-len.is ∙ ap₂ (λ xs n. get_or xs n name) c.as_slice.ensures.keys even)) in
    let p = err_from_is_err_and c.from_residual-in_err-add_needed.result c.from_residual-in_err-add_needed.ensures.1 in
    rw (p.1, p.2)
    (cut_after (packages_of_old c.args.run.now.old) c.args.run.now.source.now (option_map rust_version_view
    c.args.run.now.rust_version) root g.F.Folder.calls g.F.Folder.failed c.args.folder.now
    c.names.names.keys c.names.candidates.items (map skip_view c.names.skips.items)
    (map skip_view c.ask.new.skips.items) c.names.folder c.ask.new.folder name
    (candidates_view c.in_ok-found.found) c.names.invariant
    at (omega (arith, few, len-2)) c.in_ok-found.ensures)

pub returns-in_err-push : goal.returns-in_err-push
returns-in_err-push g c =
    let root = dependency_views c.args.dependencies.now in
    let test = c.names-test.true in
    let len = c.len.ensures in
    let wide = c.len-in-names.ensures.len in
    let len-2 = c.len-in-names-2.ensures in
    let few = c.if-len-ge-MAX_NAMES.false in
    let less : length c.names.candidates.items < length c.names.names.keys = omega (arith, test, len, wide) in
    let len-3 = c.len-in-names-3.ensures in
    let name = c.index-as_slice-len.result in
    let even : c.len-in-names-3.result ≡ length c.names.candidates.items = omega (arith, len-3) in
    let at : slice_get c.names.names.keys (length c.names.candidates.items) ≡ Some name
    = slice_get-get_or c.names.names.keys (length c.names.candidates.items) name less
    ∙ ap Some (sym (c.index-as_slice-len.is ∙ ap₂ (λ xs n. get_or xs n name) c.as_slice.ensures.keys even)) in
    let p = err_from_is_err_and c.from_residual-in_err-push.result c.from_residual-in_err-push.ensures.1 in
    rw (p.1, p.2)
    (cut_after (packages_of_old c.args.run.now.old) c.args.run.now.source.now (option_map rust_version_view
    c.args.run.now.rust_version) root g.F.Folder.calls g.F.Folder.failed c.args.folder.now
    c.names.names.keys c.names.candidates.items (map skip_view c.names.skips.items)
    (map skip_view c.ask.new.skips.items) c.names.folder c.ask.new.folder name
    (candidates_view c.in_ok-found.found) c.names.invariant
    at (omega (arith, few, len-2)) c.in_ok-found.ensures)

pub names-preserved : goal.names-preserved
names-preserved g c =
    let root = dependency_views c.args.dependencies.now in
    let test = c.names-test.true in
    let len = c.len.ensures in
    let wide = c.len-in-names.ensures.len in
    let len-2 = c.len-in-names-2.ensures in
    let few = c.if-len-ge-MAX_NAMES.false in
    let less : length c.names.candidates.items < length c.names.names.keys = omega (arith, test, len, wide) in
    let len-3 = c.len-in-names-3.ensures in
    let name = c.index-as_slice-len.result in
    let even : c.len-in-names-3.result ≡ length c.names.candidates.items = omega (arith, len-3) in
    let at : slice_get c.names.names.keys (length c.names.candidates.items) ≡ Some name
    = slice_get-get_or c.names.names.keys (length c.names.candidates.items) name less
    ∙ ap Some (sym (c.index-as_slice-len.is ∙ ap₂ (λ xs n. get_or xs n name) c.as_slice.ensures.keys even)) in
    rw c.in_ok-push.ensures.items
    (asked_more (packages_of_old c.args.run.now.old) c.args.run.now.source.now
    (option_map rust_version_view c.args.run.now.rust_version) root g.F.Folder.calls c.args.folder.now
    c.names.names.keys c.add_needed.new.names.keys c.names.candidates.items c.in_ok-found.found
    (map skip_view c.names.skips.items)
    (map skip_view c.ask.new.skips.items) c.names.folder c.ask.new.folder name c.names.invariant
    at (omega (arith, few, len-2)) c.in_ok-found.ensures
    (c.in_ok-add_needed.ensures
    ∙ ap (λ rs. insert_all same_text c.names.names.keys (needs_of rs)) c.as_slice-in-names.ensures.value))

pub invariant_of-result : goal.invariant_of-result
invariant_of-result g c =
    let root = dependency_views c.args.dependencies.now in
    let test = c.names-test.false in
    let len = c.len.ensures in
    let wide = c.len-in-names.ensures.len in (
      (all_asked (packages_of_old c.args.run.now.old) c.args.run.now.source.now
          (option_map rust_version_view c.args.run.now.rust_version) root g.F.Folder.calls c.args.folder.now
          c.names.names.keys c.names.candidates.items
          (map skip_view c.names.skips.items) c.names.folder c.names.invariant (omega (arith, test, len, wide))).0,
      c.len-in-names.ensures.unique,
      c.len-in-names.ensures.valid,
    )

pub returns : goal.returns
returns g c =
    let root = dependency_views c.args.dependencies.now in
    let test = c.names-test.false in
    let len = c.len.ensures in
    let wide = c.len-in-names.ensures.len in
    let same = c.in_ok-source.ensures.ok ∙ c.as_str.ensures.text in
    subst (λ (source : List ℕ). IsLoaded (packages_of_old c.args.run.now.old) c.args.run.now.source.now
    (option_map rust_version_view c.args.run.now.rust_version) root g.F.Folder.calls c.args.folder.now
    (record {
      rows = rows_view c.names.names.keys c.names.candidates.items;
      skips =
          map skip_view c.names.skips.items;
      source = source;
    }) c.names.folder) (sym same)
    (all_asked (packages_of_old c.args.run.now.old) c.args.run.now.source.now
    (option_map rust_version_view c.args.run.now.rust_version) root g.F.Folder.calls c.args.folder.now
    c.names.names.keys c.names.candidates.items (map skip_view c.names.skips.items) c.names.folder c.names.invariant
    (omega (arith, test, len, wide))).1
