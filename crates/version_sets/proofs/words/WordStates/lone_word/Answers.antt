use Rattle.version_sets.proofs.Pairs.{many_large, one_words}
use Rattle.version_sets.proofs.words.WordStates.lone_word.Goals as goal

pub returns-in-One-clause-one : goal.returns-in-One-clause-one
returns-in-One-clause-one c = one_words c.self.inside.form c.args.self.now c.self.invariant c.self.view_is
    c.in-One.universe c.in-One.word c.in-One.is

pub returns-in-Many-clause-many : goal.returns-in-Many-clause-many
returns-in-Many-clause-many c = λ none. many_large c.self.inside.form c.args.self.now c.self.invariant c.self.view_is
    c.in-Many.wide c.in-Many.is
