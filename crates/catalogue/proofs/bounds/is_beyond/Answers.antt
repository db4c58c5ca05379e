use Rattle.std.proofs.Common.{sym, ap, ◌∙◌}
use Rattle.std.specs.List.{list_any}
use Rattle.semver.specs.Identifiers.{comparator_view, parts_of}
use Rattle.model.proofs.Mapped.{any-map}
use Rattle.catalogue.specs.inner.Bounds.{is_above}
use Rattle.catalogue.proofs.bounds.is_beyond.Goals as goal

pub returns : goal.returns
returns c =
    let v = parts_of c.args.version.now in
    c.some_above.ensures
    ∙ ap (list_any (λ k. is_above (comparator_view k) v)) c.as_slice.ensures.value
    ∙ sym (any-map (λ k. is_above k v) comparator_view c.args.requirement.now.comparators.items)
