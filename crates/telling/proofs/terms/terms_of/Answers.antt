use Rattle.std.proofs.Common.{◌≡◌, IfOk, sym, ap, subst, ◌∙◌}
use Rattle.derivations.specs.inner.Derivations.{IsDerivation}
use Rattle.derivations.specs.inner.Tables.{terms_at}
use Rattle.lookups.specs.inner.TermViews.{term_views}
use Rattle.derivations.proofs.TableLaws.{lent}
use Rattle.telling.proofs.OrderedTerms.{none-lent, none-there, ordered-at, terms-there}
use Rattle.telling.proofs.terms.terms_of.Goals as goal

pub terms_in-requires : goal.terms_in-requires
terms_in-requires c =
    let ss = c.parts.result.1.now in
    let there = lent ss c.args.number c.get.result c.in-Some.step c.get.ensures.lookup c.in-Some.is in
    let steps = subst IsDerivation (sym c.parts.ensures.steps) c.parts.ensures.derivation in
    rw c.deref.ensures.value
    (ordered-at c.parts.result.0.now 0 ss c.args.number c.in-Some.step.now c.parts.ensures.within steps there)

pub returns-in-Some : goal.returns-in-Some
returns-in-Some c =
    let t = c.parts.result.0.now in
    let ss = c.parts.result.1.now in
    let there = lent ss c.args.number c.get.result c.in-Some.step c.get.ensures.lookup c.in-Some.is in
    let same = ap (terms_at t) c.deref.ensures.value
    ∙ terms-there t ss c.args.derivation.now c.args.number c.in-Some.step.now c.parts.ensures.steps there in
    subst (λ x. IfOk c.terms_in.result (λ v. term_views v.items ≡ x)) same c.terms_in.ensures

pub returns-in-None : goal.returns-in-None
returns-in-None c =
    let ss = c.parts.result.1.now in
    let none = none-lent ss c.args.number c.get.result c.get.ensures.lookup c.in-None.is in
    ap term_views c.new.ensures.items
    ∙ sym (none-there c.parts.result.0.now ss c.args.derivation.now c.args.number c.parts.ensures.steps none)
