use Rattle.std.proofs.Common.{◌≡◌, ◌<◌, [], ◌∷◌, List, length, refl, rules, arith, vec_len}
use Rattle.lookups.specs.declared.cause.Cause.{Cause}
use Rattle.numbering.specs.GivenViews.{cause_views}
use Rattle.numbering.specs.inner.CausesAt.{with_causes}
use Rattle.numbering.proofs.causes.each_once.Goals as goal

few : (xs : List Cause) → length xs < 2 → cause_views xs ≡ with_causes [] (cause_views xs)
few [] lt = refl
few (x ∷ []) lt = refl
few (x ∷ y ∷ xs) lt = absurd (omega (arith, lt))

pub returns-then-len-lt2 : goal.returns-then-len-lt2
returns-then-len-lt2 c =
    let counted : vec_len c.args.causes ≡ length c.args.causes.items = search rules in
    few c.args.causes.items (omega (arith, c.if-len-lt2.true, c.len.ensures, counted))
