use Rattle.std.proofs.Common.{◌≡◌, rules}
use Rattle.features.specs.inner.NameTexts.{text_bytes}
use Rattle.features.proofs.NameLemmas.{feature_name-package}
use Rattle.features.proofs.feature_name.FeatureName.of_package.Goals as goal

pub invariant_of-result : goal.invariant_of-result
invariant_of-result c =
    let same : text_bytes c.in_ok-of.field-0 ≡ c.args.name.now = search rules in
    rw same (feature_name-package c.args.name.now (search rules))
