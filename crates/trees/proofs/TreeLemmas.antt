-- What is looked up in a tree is what the value that it stands for has there.
use Rattle.std.proofs.Common.{◌≡◌, ℕ, zero, suc, List, [], ◌∷◌, Bool, true, false, cond, ◌&&◌, Option, Some, None}
use Rattle.std.proofs.Common.{◌++◌, is_some, unwrap_or, option_map, option_and_then, Ordering, Less, Equal}
use Rattle.std.proofs.Common.{Greater, bytes_eq, Bor, refl, sym, ap, ◌∙◌, true≢false, subst, append_assoc, append-nil}
use Rattle.std.proofs.Common.{Global, String, map, string_bytes, string_cmp}
use Rattle.std.specs.List.Sorted.{IsStrictlySortedBy}
use Rattle.std.specs.Map.{keys_of}
use Rattle.std.proofs.lemmas.Slice.Eq.{bytes_eq-Decides}
use Rattle.std.specs.Option.{option_or}
use Rattle.std.specs.BTreeMap.{insert_entry}
use Rattle.std.specs.Ordering.{nat_cmp, match_ordering}
use Rattle.std.specs.Cmp.Lexicographic.{slice_cmp}
use Rattle.json.specs.Token.{Token}
use Rattle.json.specs.Json as json
use Rattle.json.specs.Find as find
use Rattle.serde_json.specs.Data.{Num, Data, number, array, object, Items, no_items, item, Members, no_members, put}
use Rattle.serde_json.specs.Find.{get, get_member, get_item, at, as_str, as_bool, as_array, as_object, as_number}
use Rattle.serde_json.specs.Find.{as_u64}
use Rattle.serde_json.specs.Read.{number_of, of_json, of_items, of_members}
use Rattle.serde_json.specs.View.{view, members_view}
use Rattle.serde_json.specs.declared.value.Value.{Value}
use Rattle.serde_json.proofs.Views.{get_member-put, get_member-put_other, put_last}
use Rattle.trees.specs.inner.Parts.{members_put}
use Rattle.trees.specs.Trees.{numbers_fit, items_fit, members_fit, data_of, items_of, listed, members_of}
use Rattle.trees.specs.Trees.{num_of, is_null, tokens_view, tree_view, trees_view, put_all, sorted_view}
use Rattle.trees.specs.inner.Tokens.{begins}
use Rattle.trees.specs.declared.tree.Tree.{Tree}
use Rattle.trees.proofs.TokenLemmas.{begins-read, json_from-read}

-- ---- reading

abbrev pub if_fits : {A : Type 0} → Bool → A → Option A
if_fits b a = cond b (Some a) None

a_number : (o : Option Num) (other : Num) → option_map number o ≡ if_fits (is_some o) (number (unwrap_or o other))
a_number None other = refl
a_number (Some n) other = refl

one_level : {A B : Type 0} (f : A → B) (b : Bool) (a : A) → option_map f (if_fits b a) ≡ if_fits b (f a)
one_level f true a = refl
one_level f false a = refl

an_item : (a b : Bool) (d : Data) (ds : Items)
    → option_and_then (λ d. option_map (item d) (if_fits b ds)) (if_fits a d) ≡ if_fits (a && b) (item d ds)
an_item true true d ds = refl
an_item true false d ds = refl
an_item false b d ds = refl

a_member : (a b : Bool) (d : Data) (more : Data → Option Members) (ms : Members) → more d ≡ if_fits b ms
    → option_and_then more (if_fits a d) ≡ if_fits (a && b) ms
a_member true b d more ms is = is
a_member false b d more ms is = refl

mutual
  pub of_json-fits : (j : json.Json) → of_json j ≡ if_fits (numbers_fit j) (data_of j)
  of_json-fits json.null = refl
  of_json-fits (json.boolean b) = refl
  of_json-fits (json.number s) = a_number (number_of s) _
  of_json-fits (json.string s) = refl
  of_json-fits (json.array js) = ap (option_map array) (of_items-fits js) ∙ one_level array (items_fit js) (items_of js)
  of_json-fits (json.object ms) = ap (option_map object) (of_members-fits ms no_members)
      ∙ one_level object (members_fit ms) (members_of ms no_members)

  of_items-fits : (js : json.Items) → of_items js ≡ if_fits (items_fit js) (items_of js)
  of_items-fits json.no_items = refl
  of_items-fits (json.item j js) =
      rw (of_json-fits j, of_items-fits js) (an_item (numbers_fit j) (items_fit js) (data_of j) (items_of js))

  of_members-fits : (ms : json.Members) (found : Members)
      → of_members ms found ≡ if_fits (members_fit ms) (members_of ms found)
  of_members-fits json.no_members found = refl
  of_members-fits (json.member k j ms) found =
      ap (λ o. option_and_then (λ d. of_members ms (put k d found)) o) (of_json-fits j)
      ∙ a_member (numbers_fit j) (members_fit ms) (data_of j) (λ d. of_members ms (put k d found))
      (members_of ms (put k (data_of j) found)) (of_members-fits ms (put k (data_of j) found))

-- ---- looking up

last_put : (b : Bool) (key k : List ℕ) (j : json.Json) (found : Members) → bytes_eq k key ≡ b
    → get_member key (put k (data_of j) found)
    ≡ option_or (option_map data_of (cond b (Some j) None)) (get_member key found)
last_put true key k j found same = subst (λ q. get_member q (put k (data_of j) found) ≡ Some (data_of j))
    ((bytes_eq-Decides k key).0 same) (get_member-put k (data_of j) found)
last_put false key k j found other = get_member-put_other key k (data_of j) found
    (λ same. true≢false (sym ((bytes_eq-Decides k key).1 (sym same)) ∙ other))

later : (o : Option json.Json) (key k : List ℕ) (j : json.Json) (found : Members)
    → option_or (option_map data_of o) (get_member key (put k (data_of j) found))
    ≡ option_or (option_map data_of (find.later_or o (cond (bytes_eq k key) (Some j) None))) (get_member key found)
later None key k j found = last_put (bytes_eq k key) key k j found refl
later (Some x) key k j found = refl

pub get_member-of : (key : List ℕ) (ms : json.Members) (found : Members) → get_member key (members_of ms found)
    ≡ option_or (option_map data_of (find.get_member key ms)) (get_member key found)
get_member-of key json.no_members found = refl
get_member-of key (json.member k j ms) found =
    get_member-of key ms (put k (data_of j) found) ∙ later (find.get_member key ms) key k j found

pub or_none : (o : Option Data) → option_or o None ≡ o
or_none None = refl
or_none (Some d) = refl

pub get-data_of : (key : List ℕ) (j : json.Json) → get key (data_of j) ≡ option_map data_of (find.get key j)
get-data_of key json.null = refl
get-data_of key (json.boolean b) = refl
get-data_of key (json.number s) = refl
get-data_of key (json.string s) = refl
get-data_of key (json.array js) = refl
get-data_of key (json.object ms) = get_member-of key ms no_members ∙ or_none _

items-at : (n : ℕ) (js : json.Items) → get_item n (items_of js) ≡ option_map data_of (find.get_item n js)
items-at n json.no_items = refl
items-at zero (json.item j js) = refl
items-at (suc n) (json.item j js) = items-at n js

pub at-data_of : (n : ℕ) (j : json.Json) → at n (data_of j) ≡ option_map data_of (find.at n j)
at-data_of n json.null = refl
at-data_of n (json.boolean b) = refl
at-data_of n (json.number s) = refl
at-data_of n (json.string s) = refl
at-data_of n (json.array js) = items-at n js
at-data_of n (json.object ms) = refl

pub as_str-data_of : (j : json.Json) → find.as_str j ≡ as_str (data_of j)
as_str-data_of json.null = refl
as_str-data_of (json.boolean b) = refl
as_str-data_of (json.number s) = refl
as_str-data_of (json.string s) = refl
as_str-data_of (json.array js) = refl
as_str-data_of (json.object ms) = refl

pub as_bool-data_of : (j : json.Json) → find.as_bool j ≡ as_bool (data_of j)
as_bool-data_of json.null = refl
as_bool-data_of (json.boolean b) = refl
as_bool-data_of (json.number s) = refl
as_bool-data_of (json.string s) = refl
as_bool-data_of (json.array js) = refl
as_bool-data_of (json.object ms) = refl

pub is_null-data_of : (j : json.Json) → find.is_null j ≡ is_null (data_of j)
is_null-data_of json.null = refl
is_null-data_of (json.boolean b) = refl
is_null-data_of (json.number s) = refl
is_null-data_of (json.string s) = refl
is_null-data_of (json.array js) = refl
is_null-data_of (json.object ms) = refl

pub as_number-data_of : (j : json.Json) → as_number (data_of j) ≡ option_map num_of (find.as_number j)
as_number-data_of json.null = refl
as_number-data_of (json.boolean b) = refl
as_number-data_of (json.number s) = refl
as_number-data_of (json.string s) = refl
as_number-data_of (json.array js) = refl
as_number-data_of (json.object ms) = refl

pub whole-data_of : (j : json.Json) (s : List ℕ) → Some s ≡ find.as_number j
    → option_and_then as_u64 (as_number (data_of j)) ≡ as_u64 (num_of s)
whole-data_of j s is = ap (option_and_then as_u64) (as_number-data_of j ∙ ap (option_map num_of) (sym is))

pub as_array-data_of : (j : json.Json) → as_array (data_of j) ≡ option_map items_of (find.as_array j)
as_array-data_of json.null = refl
as_array-data_of (json.boolean b) = refl
as_array-data_of (json.number s) = refl
as_array-data_of (json.string s) = refl
as_array-data_of (json.array js) = refl
as_array-data_of (json.object ms) = refl

pub as_object-data_of : (j : json.Json)
    → as_object (data_of j) ≡ option_map (λ ms. members_of ms no_members) (find.as_object j)
as_object-data_of json.null = refl
as_object-data_of (json.boolean b) = refl
as_object-data_of (json.number s) = refl
as_object-data_of (json.string s) = refl
as_object-data_of (json.array js) = refl
as_object-data_of (json.object ms) = refl

-- ---- what is found in a tree is a tree

pub some-found : (ts : List Token) (o : Option json.Json) → find.Finds (Some ts) o
    → Some (tokens_view ts) ≡ option_map data_of o
some-found ts o (j, is, here) =
    ap (λ i. Some (data_of i)) (json_from-read ts j here) ∙ sym (ap (option_map data_of) is)

pub found-begins : (ts : List Token) (o : Option json.Json) → find.Finds (Some ts) o → begins ts ≡ true
found-begins ts o (j, is, here) = begins-read ts j here

-- ---- trees one after another

abbrev pub before : List Tree → Items → Items
before [] rest = rest
before (t ∷ ts) rest = item (tree_view t) (before ts rest)

pub before-push : (ts : List Tree) (t : Tree) (rest : Items)
    → before (ts ++ t ∷ []) rest ≡ before ts (item (tree_view t) rest)
before-push [] t rest = refl
before-push (u ∷ ts) t rest = ap (item (tree_view u)) (before-push ts t rest)

pub before-none : (ts : List Tree) → before ts no_items ≡ trees_view ts
before-none [] = refl
before-none (t ∷ ts) = ap (item (tree_view t)) (before-none ts)

abbrev Listed : Type 0
Listed = Bor (List ℕ) × Tree

pub put_all-push : (ms : List Listed) (m : Listed) (found : Members)
    → put_all (ms ++ m ∷ []) found ≡ put m.0.now (tree_view m.1) (put_all ms found)
put_all-push [] m found = refl
put_all-push (n ∷ ms) m found = put_all-push ms m (put n.0.now (tree_view n.1) found)

-- ---- the members that are left

pub put-listed : (ms : json.Members) (found : Members) → members_put (listed ms) found ≡ members_of ms found
put-listed json.no_members found = refl
put-listed (json.member k j ms) found = put-listed ms (put k (data_of j) found)

abbrev Entry : Type 0
Entry = String Global × Value

entries_put : (done left : List Entry) → IsStrictlySortedBy string_cmp (keys_of (done ++ left))
    → members_put (map (λ m. (string_bytes m.0, view m.1)) left) (members_view done) ≡ members_view (done ++ left)
entries_put done [] sorted = ap members_view (sym (append-nil done))
entries_put done (e ∷ left) sorted =
    let all = append_assoc done (e ∷ []) left in
    ap (members_put (map (λ m. (string_bytes m.0, view m.1)) left)) (put_last done e left sorted)
    ∙ entries_put (done ++ e ∷ []) left (subst (λ es. IsStrictlySortedBy string_cmp (keys_of es)) (sym all) sorted)
    ∙ ap members_view all

-- the entries of a map are sorted, so that they stay when they are put in turn
pub put-entries : (es : List Entry) → IsStrictlySortedBy string_cmp (keys_of es)
    → members_put (map (λ m. (string_bytes m.0, view m.1)) es) no_members ≡ members_view es
put-entries es sorted = entries_put [] es sorted

-- ---- members by their keys

abbrev Keyed : Type 0
Keyed = Bor (List ℕ) × Bor Tree

abbrev str_cmp : Bor (List ℕ) → Bor (List ℕ) → Ordering
str_cmp x y = slice_cmp nat_cmp x.now y.now

by_order : (o : Ordering) (a b c : List Keyed)
    → sorted_view (match_ordering o a b c) ≡ match_ordering o (sorted_view a) (sorted_view b) (sorted_view c)
by_order Less a b c = refl
by_order Equal a b c = refl
by_order Greater a b c = refl

pub sorted_view-insert_entry : (es : List Keyed) (k : Bor (List ℕ)) (v : Bor Tree)
    → sorted_view (insert_entry str_cmp es k v) ≡ put k.now (tree_view v.now) (sorted_view es)
sorted_view-insert_entry [] k v = refl
sorted_view-insert_entry (e ∷ es) k v = by_order (str_cmp k e.0) _ _ _ ∙ rw (sorted_view-insert_entry es k v) refl
