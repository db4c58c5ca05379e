use Rattle.std.proofs.Common.{◌∙◌, ap, sym}
use Rattle.std.proofs.lemmas.Bool.{false≢true}
use Rattle.version_sets.specs.Sets.{inside}
use Rattle.version_sets.proofs.Pairs.{both_inside, inside_itself, lone_same}
use Rattle.version_sets.proofs.words.WordStatesStates.same.Goals as goal

pub returns-in-Some : goal.returns-in-Some
returns-in-Some c = lone_same c.args.self.now c.args.other.now c.in-Some.a c.in-Some.b c.in-Some.ensures.one.0
    c.in-Some.ensures.one.1 c.requires

pub returns-then-subset : goal.returns-then-subset
returns-then-subset c = (
  (λ t. both_inside c.args.self.now c.args.other.now c.requires (sym c.subset.ensures ∙ c.if-subset.true)
      (sym c.subset-then-subset.ensures ∙ t)),
  (λ e. c.subset-then-subset.ensures ∙ ap (inside c.args.other.now) e ∙ inside_itself c.args.other.now),
)

pub returns-else-subset : goal.returns-else-subset
returns-else-subset c = (
  (λ t. absurd (false≢true (sym c.if-subset.false ∙ t))),
  (λ e. c.subset.ensures ∙ ap (λ s. inside s c.args.other.now) e ∙ inside_itself c.args.other.now),
)
