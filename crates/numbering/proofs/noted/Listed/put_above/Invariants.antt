use Rattle.std.proofs.Common.{◌≡◌, ◌++◌, drop, map}
use Rattle.std.specs.List.{flat_map}
use Rattle.classes.specs.Classes.{class_view}
use Rattle.numbering.specs.inner.AskedFor.{listed_if, noted_views}
use Rattle.vertices.specs.inner.RefViews.{owner_ref_view}
use Rattle.numbering.proofs.noted.Listed.put_above.Given as goal

-- what was found so far, with that for the classes that are left, is all
abbrev pub invariant-classes : goal.invariant-classes
invariant-classes l =
    let f = listed_if l.self (owner_ref_view l.owner) l.name (class_view l.class) in
    noted_views l.found.items ++ flat_map f (map class_view (drop l.higher-index l.classes))
    ≡ noted_views l.fn.found.items ++ flat_map f (map class_view l.classes)
