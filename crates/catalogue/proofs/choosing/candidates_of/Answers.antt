use Rattle.std.proofs.Common.{◌≡◌, IfOk, option_map, rules, subst}
use Rattle.std.specs.Ordering.{is_lt}
use Rattle.std.proofs.lemmas.List.Sorted.{answers_always, ranks_by, IsPermutation-map}
use Rattle.semver.specs.Eval.{precedence_cmp}
use Rattle.semver.specs.OrderLaws.{precedence_total}
use Rattle.classes.specs.Classes.{rust_version_view}
use Rattle.model.specs.Candidates.{is_locked, may_be_locked}
use Rattle.index_lines.specs.Views.{record_view}
use Rattle.catalogue.specs.Loads.{packages_of_old, with_ranks}
use Rattle.catalogue.specs.Runs.{as_record}
use Rattle.catalogue.specs.inner.Views.{candidates_view}
use Rattle.catalogue.proofs.Chosen.{Brings, Knows, moved-all, sorted-rise, sorted-chosen, sorted-views}
use Rattle.catalogue.proofs.choosing.candidates_of.Goals as goal

pub kept-requires-clause-rising : goal.kept-requires-clause-rising
kept-requires-clause-rising c =
    let sorted = c.in_ok-sort_by.ensures.sorted (λ x y. is_lt (precedence_cmp x.version y.version))
    (ranks_by precedence_total (λ r. r.version)) (answers_always _ _ _ (λ f a r g called. search rules)) in
    let moved = IsPermutation-map (λ r. as_record (record_view r)) _ _ c.sort_by.ensures.permutation in
    sorted-rise _ _ c.requires.apart moved (sorted-views _ sorted)

pub kept-requires-clause-known : goal.kept-requires-clause-known
kept-requires-clause-known c = moved-all Knows _ _
    (IsPermutation-map (λ r. as_record (record_view r)) _ _ c.sort_by.ensures.permutation) c.requires.known

pub kept-requires-clause-valid : goal.kept-requires-clause-valid
kept-requires-clause-valid c = moved-all Brings _ _
    (IsPermutation-map (λ r. as_record (record_view r)) _ _ c.sort_by.ensures.permutation) c.requires.valid

pub returns : goal.returns
returns c =
    let locked = is_locked (packages_of_old c.args.run.now.old) c.args.run.now.source.now c.args.name.now in
    let rust = option_map rust_version_view c.args.run.now.rust_version in
    let sorted = c.in_ok-sort_by.ensures.sorted (λ x y. is_lt (precedence_cmp x.version y.version))
    (ranks_by precedence_total (λ r. r.version)) (answers_always _ _ _ (λ f a r g called. search rules)) in
    let moved = IsPermutation-map (λ r. as_record (record_view r)) _ _ c.sort_by.ensures.permutation in
    subst (λ rs. IfOk c.kept.result (λ x. candidates_view x ≡ with_ranks locked rust rs))
    (sorted-chosen _ _ c.requires.apart moved (sorted-views _ sorted) (may_be_locked locked)) c.kept.ensures
