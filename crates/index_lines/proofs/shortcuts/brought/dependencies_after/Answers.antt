use Rattle.std.proofs.Common.{rules, ◌≡◌, Ok, sym, ap, ap₂, ◌∙◌}
use Rattle.features.specs.inner.Tables.{dep_names_view}
use Rattle.features.specs.Views.{dependency_views}
use Rattle.index_lines.specs.inner.ByParts.{dependencies_of_bytes}
use Rattle.index_lines.specs.inner.Items.{item_names, those_taking_part}
use Rattle.index_lines.proofs.ItemsLemmas.{list-of_items}
use Rattle.index_lines.proofs.shortcuts.brought.dependencies_after.Goals as goal

pub invariant_of-result : goal.invariant_of-result
invariant_of-result c =
    let items = c.in_ok-items.items.items in
    let named : dep_names_view c.in_ok-names.names.items ≡ item_names items = search rules in
    let taken : dependency_views c.in_ok-dependencies.dependencies.items ≡ those_taking_part items = search rules in
    record {
      read = ap dependencies_of_bytes c.in_ok-items.ensures ∙ list-of_items items
          ∙ ap₂ (λ names ds. Ok (names, ds)) (sym named) (sym taken);
    }
