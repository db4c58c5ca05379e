-- Dependencies in the order of the names that they are called by.
use Rattle.std.specs.Prelude.{ℕ, List}
use Rattle.std.specs.List.Sorted.{IsSortedByKey}
use Rattle.model.specs.Order.{text_cmp}
use Rattle.facts.specs.declared.fact_numbers.Link.{Link}

abbrev pub name_of : Link → List ℕ
name_of l = l.dependency.now.name

abbrev pub AreByName : List Link → Type 0
AreByName ls = IsSortedByKey name_of text_cmp ls
