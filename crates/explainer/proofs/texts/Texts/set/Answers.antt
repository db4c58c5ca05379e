use Rattle.std.proofs.Common.{◌≡◌, map, string_bytes, subst, ◌∙◌}
use Rattle.explainer.specs.inner.Texts.{sets_words}
use Rattle.explainer.proofs.TextLaws.{found-set}
use Rattle.explainer.proofs.texts.Texts.set.Goals as goal

pub returns : goal.returns
returns c =
    let texts =
    subst (λ t. map string_bytes c.self.inside.sets.items ≡ sets_words t t.sets) c.self.view_is c.self.invariant in
    c.as_str.ensures.value ∙ found-set string_bytes c.self.inside.sets.items c.args.self.now c.args.number
    c.index.result.now texts c.requires c.index.ensures
