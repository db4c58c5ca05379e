use Rattle.std.proofs.Common.{◌≡◌, drop, map, slice_get}
use Rattle.std.specs.List.{find}
use Rattle.semver.specs.Identifiers.{parts_of}
use Rattle.features.specs.Views.{requirement_view}
use Rattle.selection.specs.inner.Met.{is_matched}
use Rattle.selection.proofs.picking.first_matched.Given as goal

-- the first among the places that are left is the first of all
abbrev pub invariant-order : goal.invariant-order
invariant-order l = find (λ n. is_matched (requirement_view l.requirement) (slice_get (map parts_of l.versions) n))
    (drop l.place-index l.order)
    ≡ find (λ n. is_matched (requirement_view l.requirement) (slice_get (map parts_of l.versions) n)) l.order
