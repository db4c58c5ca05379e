-- What dependencies that are read one by one are together.
use Rattle.std.specs.Prelude.{ℕ, List, [], ◌∷◌, map, Option, Some, None, option_map}
use Rattle.model.specs.Summary as model
use Rattle.model.specs.Tables.{DepName}
use Rattle.features.specs.inner.Tables.{dep_name_view}
use Rattle.features.specs.Views.{dependency_view}
use Rattle.index_lines.specs.declared.shortcuts.item.ItemRead.{ItemRead}

-- the bytes that they were read off
abbrev pub item_texts : List ItemRead → List (List ℕ)
item_texts items = map (λ i. i.bytes.now) items

-- what they are called
abbrev pub item_names : List ItemRead → List DepName
item_names items = map (λ i. dep_name_view i.name) items

-- one more, if there is one
abbrev pub with_any : Option model.Dependency → List model.Dependency → List model.Dependency
with_any None ds = ds
with_any (Some d) ds = d ∷ ds

-- those that take part
abbrev pub those_taking_part : List ItemRead → List model.Dependency
those_taking_part [] = []
those_taking_part (i ∷ items) = with_any (option_map dependency_view i.dependency) (those_taking_part items)
