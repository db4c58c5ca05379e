use Rattle.std.proofs.Common.{◌≡◌, Some, rules, ap, sym, ◌∙◌}
use Rattle.std.specs.Option.{is_none}
use Rattle.features.specs.inner.Places.{place_of}
use Rattle.features.specs.inner.Tables.{rows_of}
use Rattle.features.proofs.PlaceLemmas.{none-lacking}
use Rattle.features.proofs.table.FeatureTable.place_near.Goals as goal

pub returns-then-is_at-clause-lacking : goal.returns-then-is_at-clause-lacking
returns-then-is_at-clause-lacking c =
    let same : c.as_slice.result.now ≡ c.self.inside.features.value.items = search rules in
    let seen : rows_of c.as_slice.result.now ≡ c.args.self.now = ap rows_of same ∙ c.self.view_is in
    let at : place_of c.args.name.now c.args.self.now ≡ Some c.args.near
    = ap (place_of c.args.name.now) (sym seen) ∙ c.is_at.ensures c.if-is_at.true in
    ap is_none (sym at) ∙ none-lacking c.args.name.now c.args.self.now

pub returns-else-is_at-clause-lacking : goal.returns-else-is_at-clause-lacking
returns-else-is_at-clause-lacking c =
    ap is_none (c.place_of.ensures ∙ ap (λ n. place_of n c.args.self.now) c.as_str.ensures.text)
    ∙ none-lacking c.args.name.now c.args.self.now
