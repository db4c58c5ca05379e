use Rattle.std.proofs.Common.{◌∙◌, ap}
use Rattle.axioms.specs.inner.Pairs.{keys_if}
use Rattle.features.specs.inner.Texts.{has_text}
use Rattle.features.proofs.DraftLemmas.{contains-has}
use Rattle.features.proofs.TextMaps.{at_text-get}
use Rattle.axioms.proofs.pairs.Pairs.has.Goals as goal

pub returns-in-Some : goal.returns-in-Some
returns-in-Some c =
    c.contains.ensures ∙ contains-has c.args.feature.now c.in-Some.features.now.keys
    ∙ ap (λ s. has_text (keys_if s) c.args.feature.now)
    (c.in-Some.ensures.value ∙ at_text-get c.args.name.now c.args.self.now.features.entries)

pub returns-in-None : goal.returns-in-None
returns-in-None c = ap (λ s. has_text (keys_if s) c.args.feature.now)
    (c.in-None.ensures.value ∙ at_text-get c.args.name.now c.args.self.now.features.entries)
