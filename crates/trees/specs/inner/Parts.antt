-- A line of the index by its parts: the line as Cargo's registry spells it, and what a part is read as that is a text
-- of its own; and a list by its items, an object by its members.
use Rattle.std.specs.Prelude.{ℕ, Bool, true, not, nat_le, ◌==◌, ◌&&◌, List, [], ◌∷◌, ◌++◌, map, Option, option_and_then}
use Rattle.std.specs.Prelude.{codes}
use Rattle.std.specs.Cmp.Lexicographic.{slice_cmp}
use Rattle.std.specs.List.{list_all}
use Rattle.std.specs.Ordering.{is_lt, nat_cmp}
use Rattle.json.specs.Json as json
use Rattle.json.specs.Lex.{tokens}
use Rattle.serde_json.specs.Data.{Data, string, Items, no_items, item, Members, no_members, member, put}
use Rattle.serde_json.specs.Read.{of_json}
use Rattle.model.specs.Content.{of_utf8}

-- a byte of ASCII that stands for itself in a string of JSON
abbrev pub is_plain_byte : ℕ → Bool
is_plain_byte b = nat_le 32 b && nat_le b 126 && not (b == 34) && not (b == 92)

abbrev pub is_plain : List ℕ → Bool
is_plain text = list_all is_plain_byte text

-- the JSON that a text is, whatever its numbers are, if arrays and objects nest no deeper than this
abbrev pub json_within : ℕ → List ℕ → Option json.Json
json_within depth text = option_and_then (λ p. json.if_last p.0 p.1) (json.value depth (tokens text))

-- what `serde_json` reads off such a text, and off bytes
abbrev pub read_within : ℕ → List ℕ → Option Data
read_within depth text = option_and_then of_json (json_within depth text)

abbrev pub data_within : ℕ → List ℕ → Option Data
data_within depth bytes = of_utf8 (read_within depth) bytes

-- how deep what a line has at a key may nest: one level less than the line
abbrev pub part_depth : ℕ
part_depth = 126

-- the line of a name, a version, dependencies, a checksum and features, and what follows these up to the line's end
abbrev pub line_of : List ℕ → List ℕ → List ℕ → List ℕ → List ℕ → List ℕ → List ℕ
line_of name version deps checksum features rest =
    codes "{\"name\":\"" ++ (name ++ (codes "\",\"vers\":\"" ++ (version ++ (codes "\",\"deps\":" ++ (deps
    ++ (codes ",\"cksum\":\"" ++ (checksum ++ (codes "\",\"features\":" ++ (features ++ (codes "," ++ rest))))))))))

-- the members that a line has of its name, version, dependencies, checksum and features
abbrev pub first_members : List ℕ → List ℕ → Data → List ℕ → Data → Members
first_members name version deps checksum features =
    put (codes "features") features (put (codes "cksum") (string checksum) (put (codes "deps") deps
    (put (codes "vers") (string version) (put (codes "name") (string name) no_members))))

-- the texts of a list's items with commas (44) between
abbrev pub between_commas : List (List ℕ) → List ℕ
between_commas [] = []
between_commas (text ∷ []) = text
between_commas (text ∷ next ∷ texts) = text ++ (44 ∷ between_commas (next ∷ texts))

-- the list of such items
abbrev pub list_of : List (List ℕ) → List ℕ
list_of texts = codes "[" ++ (between_commas texts ++ codes "]")

-- values as the items of a list
abbrev pub items_of_data : List Data → Items
items_of_data [] = no_items
items_of_data (d ∷ ds) = item d (items_of_data ds)

-- a member of an object: its key, a plain text, and what stands there
abbrev pub member_text : List ℕ × List ℕ → List ℕ
member_text m = codes "\"" ++ (m.0 ++ (codes "\":" ++ m.1))

-- the texts of an object's members with commas between
abbrev pub members_text : List (List ℕ × List ℕ) → List ℕ
members_text ms = between_commas (map member_text ms)

-- the object of such members
abbrev pub object_text : List (List ℕ × List ℕ) → List ℕ
object_text ms = codes "{" ++ (members_text ms ++ codes "}")

-- members put in turn to those that are there: of a key that comes twice the last stays
abbrev pub members_put : List (List ℕ × Data) → Members → Members
members_put [] found = found
members_put (m ∷ ms) found = members_put ms (put m.0 m.1 found)

-- members in this order
abbrev pub members_in_order : List (List ℕ × Data) → Members
members_in_order [] = no_members
members_in_order (m ∷ ms) = member m.0 m.1 (members_in_order ms)

-- each key comes after the one before it, and the first after this one
abbrev pub keys_rise : {A : Type 0} → List ℕ → List (List ℕ × A) → Bool
keys_rise key [] = true
keys_rise key (m ∷ ms) = is_lt (slice_cmp nat_cmp key m.0) && keys_rise m.0 ms
