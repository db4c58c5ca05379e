use Rattle.std.proofs.Common.{◌+◌, ◌++◌, ◌∷◌, [], ◌∙◌, cond, get_or, take, refl}
use Rattle.std.proofs.lemmas.List.{take_more}
use Rattle.facts.specs.declared.rule.Rule.{Rule}
use Rattle.facts.specs.inner.Worklists.{Follows, is_ready}
use Rattle.facts.proofs.ListLemmas.{take_within}
use Rattle.facts.proofs.WorklistLemmas.{none_followed, one_followed, sound_by_more}
use Rattle.facts.proofs.closing.follow.Goals as goal

pub rules-init : goal.rules-init
rules-init c = record { length = refl; follows = none_followed c.args.marked.now c.args.waiting.now.items }

pub rules-preserved : goal.rules-preserved
rules-preserved c =
    let rules = c.args.rules.now in
    let at = c.rules.rule-index in
    let none : Rule = record { first = 0; second = 0; gives = 0 } in
    let same = c.rules.invariant.length in
    record {
      length = c.in_ok-mark.ensures.length ∙ same;
      follows = rw (take_more rules at none c.rules-test.true)
          (one_followed (take at rules) c.args.marked.now c.args.waiting.now.items c.rules.marked c.rules.waiting.items
          (get_or rules at none) c.mark.new.marked c.mark.new.waiting.items
          c.rules.invariant.follows (rw same (c.requires.below at none c.rules-test.true)) c.in_ok-mark.ensures.marks);
    }

pub returns-clause-grows : goal.returns-clause-grows
returns-clause-grows c = c.rules.invariant.follows.grows

pub returns-clause-sound : goal.returns-clause-sound
returns-clause-sound c =
    let few = take c.rules.rule-index c.args.rules.now in
    sound_by_more few c.args.rules.now c.args.marked.now c.rules.marked
    (take_within c.rules.rule-index c.args.rules.now) c.rules.invariant.follows.sound

-- where memory is wanting, what the rule gives is marked, and only doesn't wait
pub returns-in_err-mark-clause-grows : goal.returns-in_err-mark-clause-grows
returns-in_err-mark-clause-grows c =
    let none : Rule = record { first = 0; second = 0; gives = 0 } in
    let rule = get_or c.args.rules.now c.rules.rule-index none in
    let some = c.rules.waiting.items in
    (one_followed (take c.rules.rule-index c.args.rules.now) c.args.marked.now c.args.waiting.now.items c.rules.marked
    some rule c.mark.new.marked (cond (is_ready c.rules.marked rule) (some ++ rule.gives ∷ []) some)
    c.rules.invariant.follows (rw c.rules.invariant.length (c.requires.below c.rules.rule-index none c.rules-test.true))
    (c.in_err-mark.ensures.marked, refl)).grows

pub returns-in_err-mark-clause-sound : goal.returns-in_err-mark-clause-sound
returns-in_err-mark-clause-sound c =
    let rules = c.args.rules.now in
    let at = c.rules.rule-index in
    let none : Rule = record { first = 0; second = 0; gives = 0 } in
    let rule = get_or rules at none in
    let some = c.rules.waiting.items in
    let more = cond (is_ready c.rules.marked rule) (some ++ rule.gives ∷ []) some in
    let followed : Follows (take (at + 1) rules) c.args.marked.now c.args.waiting.now.items c.mark.new.marked more
    = rw (take_more rules at none c.rules-test.true)
    (one_followed (take at rules) c.args.marked.now c.args.waiting.now.items c.rules.marked some
    rule c.mark.new.marked more
    c.rules.invariant.follows (rw c.rules.invariant.length (c.requires.below at none c.rules-test.true))
    (c.in_err-mark.ensures.marked, refl)) in
    sound_by_more (take (at + 1) rules) rules c.args.marked.now c.mark.new.marked
    (take_within (at + 1) rules) followed.sound
