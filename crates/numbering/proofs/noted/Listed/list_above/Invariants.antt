use Rattle.std.proofs.Common.{◌≡◌, ◌⊎◌, true, Contains, drop, map}
use Rattle.classes.specs.Classes.{class_view}
use Rattle.model.specs.Axioms.{is_lower}
use Rattle.model.specs.Selection.{Class}
use Rattle.numbering.specs.inner.AskedFor.{KeepsListed, listed_at}
use Rattle.vertices.specs.inner.RefViews.{owner_ref_view}
use Rattle.numbering.proofs.noted.Listed.list_above.Given as goal

-- what was listed is so still, and the dependency is listed for each higher class that isn't left
abbrev pub invariant-classes : goal.invariant-classes
invariant-classes l = record {
  kept : KeepsListed l.fn.self l.self;
  listed : (m : Class) → Contains (map class_view l.classes) m → is_lower (class_view l.lead.class) m ≡ true
      → Contains (listed_at l.self (owner_ref_view l.lead.owner) l.name m) (l.lead.number, class_view l.lead.class)
      ⊎ Contains (map class_view (drop l.higher-index l.classes)) m;
}
