use Rattle.std.proofs.Common.{Some, None, IsSome, refl, sym, ap, ◌∙◌, subst}
use Rattle.std.specs.BTreeMap.{Updates}
use Rattle.std.specs.BTreeSet.{insert_key}
use Rattle.axioms.proofs.PairLemmas.{put_pair}
use Rattle.features.specs.inner.Texts.{borrowed_cmp}
use Rattle.axioms.proofs.pairs.Pairs.put.Goals as goal

pub returns-in-Some : goal.returns-in-Some
returns-in-Some c =
    put_pair c.args.self.now.features (c.get_mut.follows.lender c.insert.new.self) c.args.name c.args.feature
    (Some c.in-Some.features.now) c.insert.new.self
    (sym c.in-Some.ensures.value) ((c.get_mut.follows.holds c.insert.new.self).3
    (subst IsSome c.in-Some.ensures.value refl)) c.in_ok-insert.ensures.keys

pub returns : goal.returns
returns c = put_pair c.args.self.now.features c.insert-3.new.self c.args.name c.args.feature None c.insert-2.new.self
    (sym c.in_default.ensures.value) (subst (λ m. Updates borrowed_cmp m c.insert-3.new.self c.args.name
    (Some c.insert-2.new.self)) c.get_mut.follows.holds-at-none c.in_ok-insert-3.ensures.updates)
    (c.in_ok-insert-2.ensures.keys ∙ ap (λ ks. insert_key borrowed_cmp ks c.args.feature) c.new-features.ensures.empty)
