-- What a value in a text of JSON stands for: the value that `serde_json` reads there, where of a key that comes twice
-- the last stays.
use Rattle.std.specs.Prelude.{ℕ, Bool, ◌==◌, ◌||◌, List, ◌≡◌, true, false, ◌&&◌, negsuc, [], ◌∷◌, Option, Some, None}
use Rattle.std.specs.Prelude.{is_some, unwrap_or, map, string_bytes}
use Rattle.std.specs.List.{list_all}
use Rattle.std.specs.Borrow.{Bor}
use Rattle.std.specs.Slice.Iter.{iter_rest}
use Rattle.std.specs.Ordering.{is_lt, nat_cmp}
use Rattle.std.specs.Cmp.Lexicographic.{slice_cmp}
use Rattle.json.specs.Token.{Token}
use Rattle.serde_json.specs.Data.{Num, negative, Data, null, boolean, number, string, array, object, Items, no_items}
use Rattle.serde_json.specs.Data.{item, Members, no_members, member, put}
use Rattle.serde_json.specs.Read.{number_of, read}
use Rattle.serde_json.specs.View.{view, items_view}
use Rattle.model.specs.Content.{of_utf8}
use Rattle.trees.specs.inner.Tokens.{json_from, items_from, members_from}
use Rattle.trees.specs.declared.fault.TreeFault.{TreeFault}
use Rattle.trees.specs.declared.fault.TreeFault.TheVariants.{OutOfMemory, NotJson}
use Rattle.trees.specs.declared.reading.TextRead.{TextRead}
use Rattle.trees.specs.declared.reading.TextRead.TheVariants.{Tape, Long}
use Rattle.trees.specs.declared.tree.Tree.{Tree}
use Rattle.trees.specs.declared.tree.Elements.{Elements}
use Rattle.trees.specs.declared.tree.Entries.{Entries}
use Rattle.json.specs.Json as json
use Rattle.trees.specs.declared.tree.Tree.TheVariants as tree
use Rattle.trees.specs.declared.tree.Elements.TheVariants as elements
use Rattle.trees.specs.declared.tree.Entries.TheVariants as entries

-- ---- Where lines of JSON end, and which of them say nothing.

-- a line ends with `\n`
abbrev pub is_line_end : ℕ → Bool
is_line_end b = b == 10

-- a space, a tab or `\r`
abbrev pub is_blank_byte : ℕ → Bool
is_blank_byte b = b == 32 || (b == 9 || b == 13)

abbrev pub is_blank : List ℕ → Bool
is_blank line = list_all is_blank_byte line

-- ---- The value that a text stands for.

-- the fault that says only that memory was wanting
abbrev pub wants_memory : TreeFault → Bool
wants_memory OutOfMemory = true
wants_memory NotJson = false

-- the value that `serde_json` reads off bytes
abbrev pub data_of_bytes : List ℕ → Option Data
data_of_bytes bytes = of_utf8 read bytes

-- each number is one that can be kept: none is beyond the floats
abbrev mutual
  pub numbers_fit : json.Json → Bool
  numbers_fit json.null = true
  numbers_fit (json.boolean b) = true
  numbers_fit (json.number s) = is_some (number_of s)
  numbers_fit (json.string s) = true
  numbers_fit (json.array js) = items_fit js
  numbers_fit (json.object ms) = members_fit ms

  pub items_fit : json.Items → Bool
  items_fit json.no_items = true
  items_fit (json.item j js) = numbers_fit j && items_fit js

  pub members_fit : json.Members → Bool
  members_fit json.no_members = true
  members_fit (json.member k j ms) = numbers_fit j && members_fit ms

-- a number: one that can't be kept stands for one that isn't whole
abbrev pub num_of : List ℕ → Num
num_of s = unwrap_or (number_of s) (negative (negsuc 0))

-- the value that JSON is, and with these members put to those
abbrev mutual
  pub data_of : json.Json → Data
  data_of json.null = null
  data_of (json.boolean b) = boolean b
  data_of (json.number s) = number (num_of s)
  data_of (json.string s) = string s
  data_of (json.array js) = array (items_of js)
  data_of (json.object ms) = object (members_of ms no_members)

  pub items_of : json.Items → Items
  items_of json.no_items = no_items
  items_of (json.item j js) = item (data_of j) (items_of js)

  pub members_of : json.Members → Members → Members
  members_of json.no_members found = found
  members_of (json.member k j ms) found = members_of ms (put k (data_of j) found)

abbrev pub is_null : Data → Bool
is_null null = true
is_null (boolean b) = false
is_null (number n) = false
is_null (string s) = false
is_null (array ds) = false
is_null (object ms) = false

-- the value that a text's tokens are
abbrev pub tokens_view : List Token → Data
tokens_view ts = data_of (json_from ts)

abbrev pub text_view : TextRead → Data
text_view (Tape tokens) = tokens_view tokens
text_view (Long value) = view value.now

abbrev pub tree_view : Tree → Data
tree_view (tree.Tokens tokens) = tokens_view tokens.element
tree_view (tree.Value value) = view value.now

-- the items that are left, and the first of them with those behind it
abbrev pub left_items : Elements → Items
left_items (elements.Tokens tokens) = items_of (items_from tokens.items)
left_items (elements.Values values) = items_view (iter_rest values)

abbrev pub IsNextItem : Items → Option Data → Items → Type 0
IsNextItem old None new = old ≡ no_items
IsNextItem old (Some d) new = old ≡ item d new

-- the members that are left, and the first of them with those behind it
abbrev pub listed : json.Members → List (List ℕ × Data)
listed json.no_members = []
listed (json.member k j ms) = (k, data_of j) ∷ listed ms

abbrev pub left : Entries → List (List ℕ × Data)
left (entries.Tokens tokens) = listed (members_from tokens.members)
left (entries.Values values) = map (λ m. (string_bytes m.0, view m.1)) values

abbrev pub IsNext : List (List ℕ × Data) → Option (List ℕ × Data) → List (List ℕ × Data) → Type 0
IsNext old None new = old ≡ []
IsNext old (Some m) new = old ≡ m ∷ new

abbrev pub trees_view : List Tree → Items
trees_view [] = no_items
trees_view (t ∷ ts) = item (tree_view t) (trees_view ts)

-- members as they are listed, put to those
abbrev pub put_all : List (Bor (List ℕ) × Tree) → Members → Members
put_all [] found = found
put_all (m ∷ ms) found = put_all ms (put m.0.now (tree_view m.1) found)

abbrev pub entries_view : List (Bor (List ℕ) × Tree) → Members
entries_view entries = put_all entries no_members

-- members by their keys
abbrev pub sorted_view : List (Bor (List ℕ) × Bor Tree) → Members
sorted_view [] = no_members
sorted_view (e ∷ es) = member e.0.now (tree_view e.1.now) (sorted_view es)

-- members as they are listed
abbrev pub listed_view : List (Bor (List ℕ) × Tree) → Members
listed_view [] = no_members
listed_view (m ∷ ms) = member m.0.now (tree_view m.1) (listed_view ms)

-- each key comes after the one before it, and the first after this one
abbrev pub rise_after : List ℕ → List (Bor (List ℕ) × Tree) → Bool
rise_after key [] = true
rise_after key (m ∷ ms) = is_lt (slice_cmp nat_cmp key m.0.now) && rise_after m.0.now ms
