-- Requirements that are equal say the same.
use Rattle.std.proofs.Common.{◌≡◌, ℕ, true, List, [], ◌∷◌, Option, Some, None, map, nat_eq, refl}
use Rattle.std.proofs.Common.{sym, ap, ap₂, true≢false}
use Rattle.std.proofs.lemmas.Bool.{eqb-true}
use Rattle.std.specs.Cmp.Lexicographic.{pointwise}
use Rattle.std.specs.Option.{option_eq}
use Rattle.semver.specs.Identifiers.{comparator_view, pre_text}
use Rattle.semver.specs.contracts.ComparatorPartialEq.TheImpl as comparators
use Rattle.semver.specs.contracts.OpPartialEq.TheImpl as ops
use Rattle.semver.specs.contracts.VersionReqPartialEq.TheImpl as requirements
use Rattle.semver.specs.declared.Comparator.{Comparator}
use Rattle.semver.specs.declared.Op.{Op}
use Rattle.semver.specs.declared.Op.TheVariants as op
use Rattle.semver.specs.declared.VersionReq.{VersionReq}
use Rattle.features.specs.Views.{requirement_view}
use Rattle.model.proofs.Same.{both, text-same}

op-same : (a b : Op) → (ops.eq-value).it a b ≡ true → a ≡ b
op-same op.Exact op.Exact e = refl
op-same op.Greater op.Greater e = refl
op-same op.GreaterEq op.GreaterEq e = refl
op-same op.Less op.Less e = refl
op-same op.LessEq op.LessEq e = refl
op-same op.Tilde op.Tilde e = refl
op-same op.Caret op.Caret e = refl
op-same op.Wildcard op.Wildcard e = refl
op-same a b e = absurd (true≢false (sym e))

number-same : (a b : Option ℕ) → option_eq nat_eq a b ≡ true → a ≡ b
number-same None None e = refl
number-same (Some n) (Some m) e = ap Some (eqb-true n m e)
number-same a b e = absurd (true≢false (sym e))

comparator-same : (c d : Comparator) → (comparators.eq-value).it c d ≡ true → comparator_view c ≡ comparator_view d
comparator-same c d e =
    let o = both ((ops.eq-value).it c.op d.op) _ e in
    let a = both (nat_eq c.major d.major) _ o.1 in
    let b = both (option_eq nat_eq c.minor d.minor) _ a.1 in
    let p = both (option_eq nat_eq c.patch d.patch) _ b.1 in
    let op_is = op-same c.op d.op o.0 in
    let major_is = eqb-true c.major d.major a.0 in
    let minor_is = number-same c.minor d.minor b.0 in
    let patch_is = number-same c.patch d.patch p.0 in
    let pre_is = text-same (pre_text c.pre) (pre_text d.pre) p.1 in
    λ i. (op_is i, major_is i, minor_is i, patch_is i, pre_is i)

comparators-same : (cs ds : List Comparator) → pointwise (comparators.eq-value).it cs ds ≡ true
    → map comparator_view cs ≡ map comparator_view ds
comparators-same [] [] e = refl
comparators-same (c ∷ cs) (d ∷ ds) e =
    let p = both ((comparators.eq-value).it c d) _ e in
    ap₂ (λ x l. x ∷ l) (comparator-same c d p.0) (comparators-same cs ds p.1)
comparators-same cs ds e = absurd (true≢false (sym e))

pub requirement-same : (r s : VersionReq) → (requirements.eq-value).it r s ≡ true
    → requirement_view r ≡ requirement_view s
requirement-same r s e = comparators-same r.comparators.items s.comparators.items e
