-- The JSON value that tokens begin with, and the items or members.
use Rattle.std.specs.Prelude.{length, Bool, List, Option, is_some, option_map, unwrap_or}
use Rattle.json.specs.Token.{Token}
use Rattle.json.specs.Json.{Json, null, Items, no_items, items, Members, no_members, members, value}

-- the value that tokens begin with, if they do, and the tokens behind it: none nests deeper than it has tokens
abbrev pub first_value : List Token → Option (Json × List Token)
first_value ts = value (length ts) ts

abbrev pub begins : List Token → Bool
begins ts = is_some (first_value ts)

abbrev pub json_from : List Token → Json
json_from ts = unwrap_or (option_map (λ p. p.0) (first_value ts)) null

-- the items that tokens begin with, up to the end of their array
abbrev pub first_items : List Token → Option (Items × List Token)
first_items ts = items (value (length ts)) (length ts) ts

abbrev pub has_items : List Token → Bool
has_items ts = is_some (first_items ts)

abbrev pub items_from : List Token → Items
items_from ts = unwrap_or (option_map (λ p. p.0) (first_items ts)) no_items

-- the members that tokens begin with, up to the end of their object
abbrev pub first_members : List Token → Option (Members × List Token)
first_members ts = members (value (length ts)) (length ts) ts

abbrev pub has_members : List Token → Bool
has_members ts = is_some (first_members ts)

abbrev pub members_from : List Token → Members
members_from ts = unwrap_or (option_map (λ p. p.0) (first_members ts)) no_members
