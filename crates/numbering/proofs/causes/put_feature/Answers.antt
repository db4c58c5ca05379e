use Rattle.std.proofs.Common.{◌≡◌, ◌∙◌, ◌+◌, ◌++◌, ◌∷◌, List, drop, ap, sym}
use Rattle.std.specs.List.{flat_map}
use Rattle.std.proofs.lemmas.List.{append_assoc, drop_more}
use Rattle.semver.specs.Identifiers.{parts_of}
use Rattle.features.specs.EntryViews.{entry_view, entry_views}
use Rattle.model.specs.Summary as model
use Rattle.model.specs.Causes.{Cause}
use Rattle.numbering.specs.GivenViews.{cause_views}
use Rattle.numbering.specs.inner.CausesAt.{entry_causes}
use Rattle.numbering.specs.inner.KnownProblem.{problem}
use Rattle.numbering.proofs.causes.put_feature.Goals as goal

pub entries-preserved : goal.entries-preserved
entries-preserved c =
    let f : model.Entry → List Cause = entry_causes (problem c.args.known.now) c.args.own.name.now
    (parts_of c.args.own.version.now) c.args.own.feature.now in
    let xs = c.args.entries.now in
    let i = c.entries.entry-index in
    let e = c.entry-item.result in
    let left = drop (i + 1) xs in
    let here : drop i xs ≡ e ∷ left = drop_more xs i e c.entries-test.true ∙ ap (λ y. y ∷ left) (sym c.entry-item.is) in
    let all = cause_views c.entries.causes.items in
    ap (λ l. l ++ flat_map f (entry_views left)) c.in_ok-put_entry.ensures
    ∙ append_assoc all (f (entry_view e)) (flat_map f (entry_views left))
    ∙ ap (λ l. all ++ flat_map f (entry_views l)) (sym here)
    ∙ c.entries.invariant
