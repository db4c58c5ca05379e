use Rattle.std.proofs.Common.{◌∙◌, ap, sym}
use Rattle.version_sets.specs.inner.Forms.{universe_in, universe_of}
use Rattle.version_sets.proofs.Pairs.{form_small, form_universe}
use Rattle.version_sets.proofs.words.WordStatesStates.universe.Goals as goal

pub returns-in-One-clause-universe : goal.returns-in-One-clause-universe
returns-in-One-clause-universe c =
    ap universe_in (sym c.in-One.is) ∙ form_universe c.self.inside.form c.args.self.now c.self.invariant c.self.view_is

pub returns-in-One-clause-small : goal.returns-in-One-clause-small
returns-in-One-clause-small c = form_small c.self.inside.form c.args.self.now c.self.invariant c.self.view_is

pub returns-in-Many-clause-universe : goal.returns-in-Many-clause-universe
returns-in-Many-clause-universe c =
    c.universe.ensures ∙ ap universe_of c.deref.ensures ∙ ap universe_in (sym c.in-Many.is)
    ∙ form_universe c.self.inside.form c.args.self.now c.self.invariant c.self.view_is

pub returns-in-Many-clause-small : goal.returns-in-Many-clause-small
returns-in-Many-clause-small c = form_small c.self.inside.form c.args.self.now c.self.invariant c.self.view_is
