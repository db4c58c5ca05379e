use Rattle.std.proofs.Common.{◌∙◌, ap, sym, option_map}
use Rattle.std.proofs.lemmas.Result.{IfOk-weaker}
use Rattle.semver.specs.Identifiers.{parts_of}
use Rattle.model.specs.inner.Instances.{enabled_unmatched, number_read}
use Rattle.lookups.specs.inner.NumbersViews.{problem_of}
use Rattle.lookups.specs.inner.NamedByTerms.{dep_seen}
use Rattle.lookups.specs.inner.TermViews.{term_views}
use Rattle.lookups.proofs.Places.{or_found}
use Rattle.lookups.proofs.feature_on_dependency.enabled_number.Goals as goal

pub returns-in-None-clause-number : goal.returns-in-None-clause-number
returns-in-None-clause-number c =
    IfOk-weaker c.enabled_unmatched.result _ _
    (λ n e. e ∙ or_found (number_read (term_views c.args.terms.now)) (enabled_unmatched
    (problem_of c.args.numbers.now) c.args.name.now (parts_of c.args.version.now) c.args.on.now)
    (ap (option_map (λ p. p.1)) (sym c.first_dependency.ensures ∙ ap (option_map dep_seen) c.in-None.is)))
    c.enabled_unmatched.ensures.number
