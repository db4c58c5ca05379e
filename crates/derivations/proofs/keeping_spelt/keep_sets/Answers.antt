use Rattle.std.proofs.Common.{◌≡◌, ◌+◌, ◌∷◌, length, arith, ap}
use Rattle.std.specs.Vec.Iter.{into_iter_items, into_iter_len}
use Rattle.derivations.specs.inner.Named.{set_in_order_view, set_in_order_views}
use Rattle.derivations.proofs.EarlierLaws.{earlier-kept}
use Rattle.derivations.proofs.TableLaws.{grown-trans, more-terms}
use Rattle.derivations.proofs.keeping_spelt.keep_sets.Goals as goal

pub terms-preserved : goal.terms-preserved
terms-preserved c =
    let here : into_iter_items c.terms.term-iterator ≡ c.in-Some.term ∷ into_iter_items c.next.new.self =
    c.in-Some.ensures.steps.0 in
    let left : into_iter_len c.next.new.self + 1 ≡ into_iter_len c.terms.term-iterator = c.in-Some.ensures.steps.1 in
    let count = ap length here in
    let more = more-terms c.terms.tables c.found_or_new.new.tables c.terms.kept.items c.in_ok-found_or_new.field-0
    (set_in_order_view c.in-Some.term) (set_in_order_views (into_iter_items c.next.new.self))
    (set_in_order_views c.args.terms.items)
    c.in_ok-found_or_new.ensures.grown c.terms.invariant.within c.in_ok-found_or_new.ensures.within
    c.in_ok-found_or_new.ensures.term (rw here at c.terms.invariant.told) in
    record {
      can = tt;
      finite = tt;
      counted = let before = c.terms.invariant.counted in omega arith;
      grown = grown-trans c.args.tables.now c.terms.tables c.found_or_new.new.tables c.terms.invariant.grown
          c.in_ok-found_or_new.ensures.grown;
      within = rw c.in_ok-push.ensures.items more.0;
      told = rw c.in_ok-push.ensures.items more.1;
    }

pub returns-in_err-push-clause-grown : goal.returns-in_err-push-clause-grown
returns-in_err-push-clause-grown c = grown-trans c.args.tables.now c.terms.tables c.found_or_new.new.tables
    c.terms.invariant.grown c.found_or_new.ensures.grown

pub found_or_new-requires : goal.found_or_new-requires
found_or_new-requires c =
    earlier-kept c.args.tables.now c.terms.tables c.terms.invariant.grown c.args.earlier c.requires
