use Rattle.std.specs.Prelude.{nat_eq, [], ◌<◌, length}
use Rattle.std.specs.Cmp.Lexicographic.{pointwise}
use Rattle.std.specs.List.{AllByRecursion}
use Rattle.std.specs.Ordering.{on}
use Rattle.std.proofs.Common.{subst, sym}
use Rattle.model.proofs.Same.{text-same}
use Rattle.derivations.specs.inner.Tables.{AreStatesOf}
use Rattle.derivations.proofs.TableLaws.{each-key, found-key, grown-sets}
use Rattle.derivations.proofs.tables.Tables.add_set.Goals as goal

pub invariant_of-self-2 : goal.invariant_of-self-2
invariant_of-self-2 c =
    let own = subst (λ t. AreStatesOf t c.args.states.items) (sym c.self.view_is) c.requires in
    rw c.in_ok-number.ensures.keys
    (each-key (on (λ v. v.items) (pointwise nat_eq)) (λ v. v.items) (λ ns. AllByRecursion
    (λ n. n < length c.self.inside.states.keys) ns) c.self.inside.sets.keys c.args.states c.self.invariant own)

pub returns-clause-grown : goal.returns-clause-grown
returns-clause-grown c = grown-sets (on (λ v. v.items) (pointwise nat_eq))
    (λ v. v.items) c.self.inside.sets.keys c.args.states _ _ _ _ c.in_ok-number.ensures.keys c.self.view_is

pub returns-clause-number : goal.returns-clause-number
returns-clause-number c =
    let s = c.in_ok-number.ensures.stored in
    found-key (λ v. v.items) c.insert_full.new.self.keys c.in_ok-number.number s.0 c.args.states.items [] s.1
    (sym (text-same c.args.states.items s.0.items s.2))
