use Rattle.std.proofs.Common.{◌∙◌, ap}
use Rattle.features.specs.inner.Texts.{has_text}
use Rattle.features.proofs.DraftLemmas.{has_text-insert_key}
use Rattle.axioms.proofs.instances.features_had.put_feature.Goals as goal

pub returns : goal.returns
returns c =
    λ f. ap (λ ks. has_text ks f) c.in_ok-insert.ensures.keys
    ∙ has_text-insert_key f c.args.feature c.args.had.now.keys
