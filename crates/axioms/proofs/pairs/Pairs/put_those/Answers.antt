use Rattle.std.proofs.Common.{◌∙◌, ◌&&◌, ap}
use Rattle.model.specs.Summary.{same_text}
use Rattle.features.specs.inner.Texts.{has_text}
use Rattle.axioms.specs.inner.Pairs.{keys_if}
use Rattle.axioms.proofs.GatherLemmas.{adds_none, adds_ok, and-none, named_keys}
use Rattle.features.proofs.TextMaps.{at_text-get}
use Rattle.axioms.proofs.pairs.Pairs.put_those.Goals as goal

pub returns-in-Some : goal.returns-in-Some
returns-in-Some c =
    adds_ok c.put_each.result c.args.self.now c.put_each.new.self _ _
    (λ n f. named_keys n f c.args.name.now c.in-Some.features.now.keys
    ∙ ap (λ s. same_text n c.args.name.now && has_text (keys_if s) f)
    (c.in-Some.ensures.value ∙ at_text-get c.args.called.now c.args.others.now.features.entries))
    c.put_each.ensures

pub returns-in-None : goal.returns-in-None
returns-in-None c =
    adds_none c.args.self.now _ (λ n f. and-none (same_text n c.args.name.now) _
    (ap (λ s. has_text (keys_if s) f)
    (c.in-None.ensures.value ∙ at_text-get c.args.called.now c.args.others.now.features.entries)))
