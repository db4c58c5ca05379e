use Rattle.std.proofs.Common.{◌≡◌, ◌∙◌, Bool, ap, length, map, option_map, subst, subst₂, sym}
use Rattle.std.proofs.lemmas.Result.{IfOk-weaker}
use Rattle.semver.specs.Identifiers.{parts_of}
use Rattle.facts.specs.inner.Chains.{AreBelow}
use Rattle.model.specs.Content.{Package}
use Rattle.changes.specs.inner.OnWays.{AreBetween, AreOnWays, all_pairs, rules_ahead, rules_back}
use Rattle.changes.specs.inner.Ways.{is_meant, is_own}
use Rattle.changes.proofs.BothWays.{ahead_below, back_below, on_ways_by}
use Rattle.changes.proofs.on_ways.dependencies_to.Goals as goal

pub pairs_between-requires-clause-ahead : goal.pairs_between-requires-clause-ahead
pairs_between-requires-clause-ahead c =
    let content = c.args.content.now in
    let starts : Package → Bool = is_own c.args.manifest.now in
    let same = c.packages-packages.ensures.views in
    let pairs : c.deref.result.now ≡ all_pairs content
    = c.deref.ensures.value ∙ c.in_ok-pairs.ensures ∙ ap all_pairs same in
    let ahead : c.deref_mut.result.now ≡ map starts content
    = c.deref_mut.ensures.value ∙ c.in_ok-ahead.ensures ∙ ap (map starts) same in
    subst₂ (λ marks ps. AreBelow (length marks) (rules_ahead ps)) (sym ahead) (sym pairs)
    (ahead_below content c.packages-packages.ensures.content starts)

pub pairs_between-requires-clause-back : goal.pairs_between-requires-clause-back
pairs_between-requires-clause-back c =
    let content = c.args.content.now in
    let ends : Package → Bool = is_meant c.args.name.now (option_map (λ v. parts_of v.now) c.args.version) in
    let same = c.packages-packages.ensures.views in
    let pairs : c.deref.result.now ≡ all_pairs content
    = c.deref.ensures.value ∙ c.in_ok-pairs.ensures ∙ ap all_pairs same in
    let back : c.deref_mut-2.result.now ≡ map ends content
    = c.deref_mut-2.ensures.value ∙ c.in_ok-back.ensures ∙ ap (map ends) same in
    subst₂ (λ marks ps. AreBelow (length marks) (rules_back ps)) (sym back) (sym pairs)
    (back_below content c.packages-packages.ensures.content ends)

pub returns : goal.returns
returns c =
    let content = c.args.content.now in
    let starts : Package → Bool = is_own c.args.manifest.now in
    let ends : Package → Bool = is_meant c.args.name.now (option_map (λ v. parts_of v.now) c.args.version) in
    let same = c.packages-packages.ensures.views in
    let pairs : c.deref.result.now ≡ all_pairs content
    = c.deref.ensures.value ∙ c.in_ok-pairs.ensures ∙ ap all_pairs same in
    let ahead : c.deref_mut.result.now ≡ map starts content
    = c.deref_mut.ensures.value ∙ c.in_ok-ahead.ensures ∙ ap (map starts) same in
    let back : c.deref_mut-2.result.now ≡ map ends content
    = c.deref_mut-2.ensures.value ∙ c.in_ok-back.ensures ∙ ap (map ends) same in
    IfOk-weaker c.pairs_between.result
    (λ v. AreBetween c.deref.result.now c.deref_mut.result.now c.deref_mut-2.result.now v.items)
    (λ v. AreOnWays content starts ends v.items)
    (λ v. on_ways_by content starts ends c.deref.result.now c.deref_mut.result.now c.deref_mut-2.result.now v.items
    pairs ahead back) c.pairs_between.ensures
