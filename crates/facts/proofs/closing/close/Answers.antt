use Rattle.std.proofs.Common.{rules, ◌≡◌, [], sym, ap, ◌∙◌, length, refl, subst, subst₂, arith}
use Rattle.facts.specs.inner.Chains.{AreBelow}
use Rattle.facts.specs.inner.Lists.{rule_lists, rules_at, index_of}
use Rattle.facts.specs.inner.Worklists.{Follows, IsSound, Worked}
use Rattle.facts.specs.inner.Chains.IsGiven.{begins}
use Rattle.facts.proofs.ListLemmas.{index_within}
use Rattle.facts.proofs.WorklistLemmas.{all_given, begun, followers_below, sound_again, sound_by_more, waits_below}
use Rattle.facts.proofs.WorklistLemmas.{worked_on}
use Rattle.facts.proofs.closing.close.Goals as goal

pub facts-init : goal.facts-init
facts-init c = record {
  length = refl;
  worked =
      begun c.args.rules.now c.args.marked.now c.in_ok-waiting.waiting.items c.in_ok-waiting.ensures;
}

pub rules_at-requires : goal.rules_at-requires
rules_at-requires c =
    let worked = subst (λ w. Worked c.args.rules.now c.args.marked.now c.facts.marked w) c.in-Some.ensures.items
    c.facts.invariant.worked in
    let below =
    waits_below c.args.rules.now c.args.marked.now c.facts.marked c.pop.new.self.items c.in-Some.fact worked in
    let same = c.facts.invariant.length in
    let long = c.in_ok-lists.ensures.length in
    record { below = rw c.as_slice.ensures.value (omega (arith, below, same, long)) }

pub follow-requires : goal.follow-requires
follow-requires c =
    let at : c.rules_at.result.now ≡ rules_at (index_of (length c.args.marked.now) c.args.rules.now) c.in-Some.fact
    = c.rules_at.ensures ∙ ap (λ l. rules_at (rule_lists l) c.in-Some.fact) c.as_slice.ensures.value
    ∙ ap (λ l. rules_at l c.in-Some.fact) c.in_ok-lists.ensures.lists in
    let below = followers_below c.args.rules.now (length c.args.marked.now) c.in-Some.fact c.requires.below in
    record { below = subst₂ (λ n rs. AreBelow n rs) (sym c.facts.invariant.length) (sym at) below }

pub facts-preserved : goal.facts-preserved
facts-preserved c =
    let at : c.rules_at.result.now ≡ rules_at (index_of (length c.args.marked.now) c.args.rules.now) c.in-Some.fact
    = c.rules_at.ensures ∙ ap (λ l. rules_at (rule_lists l) c.in-Some.fact) c.as_slice.ensures.value
    ∙ ap (λ l. rules_at l c.in-Some.fact) c.in_ok-lists.ensures.lists in
    let worked = subst (λ w. Worked c.args.rules.now c.args.marked.now c.facts.marked w) c.in-Some.ensures.items
    c.facts.invariant.worked in
    let followed =
    subst (λ rs. Follows rs c.facts.marked c.pop.new.self.items c.follow.new.marked c.follow.new.waiting.items) at
    c.in_ok-follow.ensures.follows in
    record {
      length = c.in_ok-follow.ensures.length ∙ c.facts.invariant.length;
      worked = worked_on c.args.rules.now c.args.marked.now c.facts.marked c.pop.new.self.items c.in-Some.fact
          c.follow.new.marked c.follow.new.waiting.items worked followed c.requires.below;
    }

pub returns-clause-given : goal.returns-clause-given
returns-clause-given c =
    let none : c.facts.waiting.items ≡ [] = search rules in
    all_given c.args.rules.now c.args.marked.now c.facts.marked
    (subst (λ w. Worked c.args.rules.now c.args.marked.now c.facts.marked w) none c.facts.invariant.worked)

pub returns-clause-grows : goal.returns-clause-grows
returns-clause-grows c = c.facts.invariant.worked.grows

pub returns-clause-sound : goal.returns-clause-sound
returns-clause-sound c = c.facts.invariant.worked.sound

-- ---- where memory is wanting

pub returns-in_err-lists-clause-sound : goal.returns-in_err-lists-clause-sound
returns-in_err-lists-clause-sound c = λ i h. begins i h

pub returns-in_err-waiting-clause-sound : goal.returns-in_err-waiting-clause-sound
returns-in_err-waiting-clause-sound c = λ i h. begins i h

pub returns-in_err-follow-clause-grows : goal.returns-in_err-follow-clause-grows
returns-in_err-follow-clause-grows c = λ i h. c.in_err-follow.ensures.grows i (c.facts.invariant.worked.grows i h)

pub returns-in_err-follow-clause-sound : goal.returns-in_err-follow-clause-sound
returns-in_err-follow-clause-sound c =
    let rules = c.args.rules.now in
    let start = c.args.marked.now in
    let few = rules_at (index_of (length start) rules) c.in-Some.fact in
    let at : c.rules_at.result.now ≡ few
    = c.rules_at.ensures ∙ ap (λ l. rules_at (rule_lists l) c.in-Some.fact) c.as_slice.ensures.value
    ∙ ap (λ l. rules_at l c.in-Some.fact) c.in_ok-lists.ensures.lists in
    let sound = subst (λ rs. IsSound rs c.facts.marked c.follow.new.marked) at c.in_err-follow.ensures.sound in
    sound_again rules start c.facts.marked c.follow.new.marked c.facts.invariant.worked.sound
    (sound_by_more few rules c.facts.marked c.follow.new.marked
    (λ r in_few. index_within (length start) rules c.in-Some.fact r in_few) sound)
