use Rattle.std.proofs.Common.{drop}
use Rattle.trees.specs.Trees.{trees_view}
use Rattle.derivations.specs.inner.Earlier.{HaveTexts}
use Rattle.derivations.specs.inner.Tables.{states_at}
use Rattle.derivations.proofs.earlier.have_texts.Given as goal

-- what is left has its texts just where all has
abbrev pub invariant-values : goal.invariant-values
invariant-values l = HaveTexts (trees_view (drop l.index l.values.items)) (states_at l.tables (drop l.index l.numbers))
    → HaveTexts (trees_view l.values.items) (states_at l.tables l.numbers)
