use Rattle.std.proofs.Common.{◌≡◌, drop, map}
use Rattle.trees.specs.Trees.{trees_view}
use Rattle.derivations.specs.Steps.{terms_in}
use Rattle.derivations.specs.inner.StepViews.{written_term, written_views}
use Rattle.derivations.specs.inner.Tables.{AreTermsOf, IsGrown}
use Rattle.model.proofs.Fronts.{with_front}
use Rattle.derivations.proofs.line.terms_in.Given as goal

-- the terms so far and those of what is left are those of all
abbrev pub invariant-items : goal.invariant-items
invariant-items l =
    record {
      grown : IsGrown l.fn.tables l.tables;
      within : AreTermsOf l.tables (map written_term l.found.items);
      told : with_front (written_views l.tables l.found.items)
          (terms_in (trees_view (drop l.value-index l.values.items))) ≡ terms_in (trees_view l.values.items);
    }
