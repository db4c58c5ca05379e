use Rattle.std.proofs.Common.{◌∙◌, ap, sym}
use Rattle.std.specs.List.{list_all}
use Rattle.semver.specs.Identifiers.{comparator_view}
use Rattle.lookups.specs.inner.Matching.{is_whole}
use Rattle.lookups.proofs.Versions.{all-map}
use Rattle.lookups.proofs.narrowing.is_whole.Goals as goal

pub returns : goal.returns
returns c =
    c.are_whole.ensures ∙ ap (list_all (λ c. is_whole (comparator_view c))) c.deref.ensures.value
    ∙ sym (all-map is_whole comparator_view c.args.requirement.now.comparators.items)
