-- The tables in a text have few members together: at most 162 for each byte. A pair adds itself and a table for each
-- part
-- of its key and of the header that it stands under, and these have at most 81 parts each.
use Rattle.std.proofs.Common.{◌≡◌, ℕ, zero, suc, ◌+◌, ◌*◌, ◌<◌, ◌≤◌, Bool, true, false, cond, ◌==◌, ◌&&◌, List, [], ◌∷◌}
use Rattle.std.proofs.Common.{◌++◌, length, drop, slice_index, Option, Some, None, option_map, option_and_then, refl}
use Rattle.std.proofs.Common.{sym}
use Rattle.std.proofs.Common.{ap, subst, arith, eqb-true, length-append, Ordering, Less, Equal, Greater, nat_cmp}
use Rattle.std.proofs.lemmas.List.{length-drop}
use Rattle.std.proofs.lemmas.Option.{none-some, same_Some}
use Rattle.std.specs.Cmp.Lexicographic.{slice_cmp}
use Rattle.std.specs.Ordering.{match_ordering}
use Rattle.toml_parser.specs.Lexical.{Read, comma, equals, left_bracket, right_bracket, left_brace, right_brace, first}
use Rattle.toml_parser.specs.Lexical.{skip_ws, skip_blank}
use Rattle.toml_parser.specs.Strings.{Key, key, quoted, starts_string, recursion_limit}
use Rattle.toml_parser.specs.Numbers.{unquoted}
use Rattle.toml_parser.specs.declared.scalar.Scalar.{Scalar}
use Rattle.toml_parser.specs.declared.scalar.Scalar.TheVariants.{Boolean, Integer, Float, Datetime}
use Rattle.toml_parser.proofs.LexicalLemmas.{within_from_byte}
use Rattle.toml.specs.Data.{Data, string, integer, float, boolean, datetime, array, table, Items, no_items, item}
use Rattle.toml.specs.Data.{Members, no_members, member, same_key, push_item}
use Rattle.toml.specs.Tables.{Origin, implicit, dotted, header, Node, value, open_table, open_array, Nodes, no_nodes}
use Rattle.toml.specs.Tables.{node, get_node, insert, replace, close_node, close, Edit, header_node, dot_node}
use Rattle.toml.specs.Tables.{by_header}
use Rattle.toml.specs.Tables.{by_dot, along_header, along_dots, Definition, key_value, std_table, array_table}
use Rattle.toml.specs.Tables.{Expression}
use Rattle.toml.specs.Tables.{new_node, redefine, at_found, at_key, put, Document, define}
use Rattle.toml.specs.Parse.{read_map, after_byte, after_element, key_equals, keyval, items, members, scalar_data, atom}
use Rattle.toml.specs.Parse.{val, header_key, expression, ends_line, line, lines, skip_bom, parse_document}
use Rattle.tables.proofs.Shorter.{If, if_then, if_map, if_weaker, IsLeft, drop-short, ws-short, skip-short, quoted-left}
use Rattle.tables.proofs.Shorter.{unquoted-left, IsKeyLeft, key-left}

-- ---- how many members

-- the members of all tables in a value
abbrev mutual
  pub size : Data → ℕ
  size (string s) = 0
  size (integer z) = 0
  size (float x) = 0
  size (boolean b) = 0
  size (datetime dt) = 0
  size (array ds) = items_size ds
  size (table ms) = members_size ms

  pub items_size : Items → ℕ
  items_size no_items = 0
  items_size (item d ds) = size d + items_size ds

  pub members_size : Members → ℕ
  members_size no_members = 0
  members_size (member k d ms) = suc (size d + members_size ms)

-- the same while a text is read
abbrev mutual
  node_size : Node → ℕ
  node_size (value d) = size d
  node_size (open_table origin ns) = nodes_size ns
  node_size (open_array done ns) = items_size done + nodes_size ns

  nodes_size : Nodes → ℕ
  nodes_size no_nodes = 0
  nodes_size (node k x ns) = suc (node_size x + nodes_size ns)

push-size : (ds : Items) (e : Data) → items_size (push_item ds e) ≡ items_size ds + size e
push-size no_items e = omega arith
push-size (item d ds) e = omega (arith, push-size ds e)

mutual
  close_node-size : (x : Node) → size (close_node x) ≡ node_size x
  close_node-size (value d) = refl
  close_node-size (open_table origin ns) = close-size ns
  close_node-size (open_array done ns) = omega (arith, push-size done (table (close ns)), close-size ns)

  close-size : (ns : Nodes) → members_size (close ns) ≡ nodes_size ns
  close-size no_nodes = refl
  close-size (node k x ns) = omega (arith, close_node-size x, close-size ns)

insert-size : (k : List ℕ) (x : Node) (ns : Nodes) → nodes_size (insert k x ns) ≤ suc (node_size x + nodes_size ns)
insert-size k x no_nodes = omega arith
insert-size k x (node l y ns) = by (slice_cmp nat_cmp k l) (insert-size k x ns)
  where
    by : (o : Ordering) → nodes_size (insert k x ns) ≤ suc (node_size x + nodes_size ns)
        → nodes_size (match_ordering o (node k x (node l y ns)) (node l x ns) (node l y (insert k x ns)))
        ≤ suc (node_size x + suc (node_size y + nodes_size ns))
    by Less h = omega arith
    by Equal h = omega arith
    by Greater h = omega (arith, h)

replace-size : (k : List ℕ) (x y : Node) (ns : Nodes) → get_node k ns ≡ Some x
    → nodes_size (replace k y ns) + node_size x ≡ nodes_size ns + node_size y
replace-size k x y no_nodes found = absurd (none-some x found)
replace-size k x y (node l z ns) found = by (same_key k l) found (replace-size k x y ns)
  where
    by : (b : Bool) → cond b (Some z) (get_node k ns) ≡ Some x
        → (get_node k ns ≡ Some x → nodes_size (replace k y ns) + node_size x ≡ nodes_size ns + node_size y)
        → nodes_size (cond b (node l y ns) (node l z (replace k y ns))) + node_size x
        ≡ suc (node_size z + nodes_size ns) + node_size y
    by true is h = omega (arith, ap node_size (same_Some z x is))
    by false is h = omega (arith, h is)

-- ---- what edits add

abbrev IsGrown : ℕ → Nodes → Nodes → Type 0
IsGrown n ns new = nodes_size new ≤ n + nodes_size ns

-- an edit adds at most so many
abbrev Adds : ℕ → Edit → Type 0
Adds n edit = (ns : Nodes) → If (IsGrown n ns) (edit ns)

abbrev IsGrownNode : ℕ → Node → Node → Type 0
IsGrownNode n x y = node_size y ≤ n + node_size x

replaced : (n : ℕ) (k : List ℕ) (ns : Nodes) (x : Node) (o : Option Node) → get_node k ns ≡ Some x
    → If (IsGrownNode n x) o → If (IsGrown n ns) (option_map (λ new. replace k new ns) o)
replaced n k ns x o found h = if_map (IsGrownNode n x) (IsGrown n ns) (λ new. replace k new ns) o h
    (λ y g. omega (arith, g, replace-size k x y ns found))

grown_more : (n m : ℕ) (ns : Nodes) (o : Option Nodes) → n ≤ m → If (IsGrown n ns) o → If (IsGrown m ns) o
grown_more n m ns o le h = if_weaker (IsGrown n ns) (IsGrown m ns) o h (λ new g. omega (arith, le, g))

module _ (n : ℕ) (edit : Edit) (adds : Adds n edit) where
  header-grown : (x : Node) → If (IsGrownNode n x) (header_node edit x)
  header-grown (value d) = tt
  header-grown (open_table origin ns) =
      if_map (IsGrown n ns) (IsGrownNode n (open_table origin ns)) (open_table origin) (edit ns) (adds ns) (λ y h. h)
  header-grown (open_array done ns) =
      if_map (IsGrown n ns) (IsGrownNode n (open_array done ns)) (open_array done) (edit ns) (adds ns)
      (λ y h. omega (arith, h))

  dot-grown : (x : Node) → If (IsGrownNode n x) (dot_node edit x)
  dot-grown (value d) = tt
  dot-grown (open_table header ns) = tt
  dot-grown (open_table implicit ns) =
      if_map (IsGrown n ns) (IsGrownNode n (open_table implicit ns)) (open_table dotted) (edit ns) (adds ns) (λ y h. h)
  dot-grown (open_table dotted ns) =
      if_map (IsGrown n ns) (IsGrownNode n (open_table dotted ns)) (open_table dotted) (edit ns) (adds ns) (λ y h. h)
  dot-grown (open_array done ns) = tt

  new-grown : (k : List ℕ) (origin : Origin) (ns : Nodes)
      → If (IsGrown (suc n) ns) (option_map (λ new. insert k (open_table origin new) ns) (edit no_nodes))
  new-grown k origin ns =
      if_map (IsGrown n no_nodes) (IsGrown (suc n) ns) (λ new. insert k (open_table origin new) ns) (edit no_nodes)
      (adds no_nodes) (λ new h. omega (arith, h, insert-size k (open_table origin new) ns))

  by_header-grown : (k : List ℕ) (ns : Nodes) (o : Option Node) → get_node k ns ≡ o
      → If (IsGrown (suc n) ns) (by_header k edit ns o)
  by_header-grown k ns None found = new-grown k implicit ns
  by_header-grown k ns (Some x) found =
      grown_more n (suc n) ns (option_map (λ new. replace k new ns) (header_node edit x))
      (omega arith) (replaced n k ns x (header_node edit x) found (header-grown x))

  by_dot-grown : (k : List ℕ) (ns : Nodes) (o : Option Node) → get_node k ns ≡ o
      → If (IsGrown (suc n) ns) (by_dot k edit ns o)
  by_dot-grown k ns None found = new-grown k dotted ns
  by_dot-grown k ns (Some x) found = grown_more n (suc n) ns (option_map (λ new. replace k new ns) (dot_node edit x))
      (omega arith) (replaced n k ns x (dot_node edit x) found (dot-grown x))

along_header-adds : (path : List (List ℕ)) (n : ℕ) (edit : Edit) → Adds n edit
    → Adds (length path + n) (along_header path edit)
unfolding along_header
along_header-adds [] n edit adds ns = grown_more n (0 + n) ns (edit ns) (omega arith) (adds ns)
along_header-adds (k ∷ path) n edit adds ns =
    grown_more (suc (length path + n)) (suc (length path) + n) ns
    (by_header k (along_header path edit) ns (get_node k ns))
    (omega arith) (by_header-grown (length path + n) (along_header path edit) (along_header-adds path n edit adds) k ns
    (get_node k ns) refl)

along_dots-adds : (path : List (List ℕ)) (n : ℕ) (edit : Edit) → Adds n edit
    → Adds (length path + n) (along_dots path edit)
unfolding along_dots
along_dots-adds [] n edit adds ns = grown_more n (0 + n) ns (edit ns) (omega arith) (adds ns)
along_dots-adds (k ∷ path) n edit adds ns =
    grown_more (suc (length path + n)) (suc (length path) + n) ns (by_dot k (along_dots path edit) ns (get_node k ns))
    (omega arith) (by_dot-grown (length path + n) (along_dots path edit) (along_dots-adds path n edit adds) k ns
    (get_node k ns) refl)

definition_size : Definition → ℕ
definition_size (key_value d) = size d
definition_size std_table = 0
definition_size array_table = 0

redefined : (what : Definition) (x : Node) → If (IsGrownNode 0 x) (redefine what x)
redefined (key_value d) x = tt
redefined std_table (value d) = tt
redefined std_table (open_table implicit ns) = omega arith
redefined std_table (open_table dotted ns) = tt
redefined std_table (open_table header ns) = tt
redefined std_table (open_array done ns) = tt
redefined array_table (value d) = tt
redefined array_table (open_table origin ns) = tt
redefined array_table (open_array done ns) = omega (arith, push-size done (table (close ns)), close-size ns)

new_node-size : (what : Definition) → node_size (new_node what) ≡ definition_size what
unfolding definition_size
new_node-size (key_value d) = refl
new_node-size std_table = refl
new_node-size array_table = refl

at_key-adds : (k : List ℕ) (what : Definition) → Adds (suc (definition_size what)) (at_key k what)
unfolding at_key
at_key-adds k what ns = by (get_node k ns) refl
  where
    by : (o : Option Node) → get_node k ns ≡ o → If (IsGrown (suc (definition_size what)) ns) (at_found k what ns o)
    by None found = omega (arith, insert-size k (new_node what) ns, new_node-size what)
    by (Some x) found =
        grown_more 0 (suc (definition_size what)) ns (option_map (λ y. replace k y ns) (redefine what x)) (omega arith)
        (replaced 0 k ns x (redefine what x) found (redefined what x))

put-adds : (k : Key) (d : Data) → Adds (length k.0 + suc (size d)) (put k d)
unfolding definition_size
put-adds k d = along_dots-adds k.0 (suc (size d)) (at_key k.1 (key_value d)) (at_key-adds k.1 (key_value d))

-- ---- what is read of a text

-- each byte that was read makes room for 162 members beside those that there were
pub record Weighs {A : Type 0} (of : A → ℕ) (n : ℕ) (text : List ℕ) (p : A × List ℕ) : Type 0 where
  pub weight : of p.0 + 162 * length p.1 ≤ n + 162 * length text
  pub short : length p.1 ≤ length text

-- a key and what stands with it, which took a byte at least
record IsPair {A : Type 0} (of : A → ℕ) (text : List ℕ) (p : (Key × A) × List ℕ) : Type 0 where
  few : length p.0.0.0 ≤ 80
  weight : of p.0.1 + 162 + 162 * length p.1 ≤ 162 * length text
  short : length p.1 < length text

byte-shorter : (b : ℕ) (text : List ℕ) → 0 < b → If (λ rest. length rest < length text) (after_byte b text)
byte-shorter b text some = by (first text == b) refl
  where
    by : (c : Bool) → (first text == b) ≡ c → If (λ rest. length rest < length text) (cond c (Some (drop 1 text)) None)
    by true is =
        let same : first text ≡ b = eqb-true (first text) b is in
        omega (arith, length-drop 1 text, within_from_byte text 0 (subst (λ x. 0 < x) (sym same) some))
    by false is = tt

element-short : (closing : ℕ) (text : List ℕ) → If (λ rest. length rest ≤ length text) (after_element closing text)
unfolding after_element
element-short closing text = by (first (skip_blank text) == comma) (first (skip_blank text) == closing)
  where
    by : (b c : Bool) → If (λ rest. length rest ≤ length text)
        (cond b (Some (drop 1 (skip_blank text))) (cond c (Some (skip_blank text)) None))
    by true c = omega (arith, drop-short 1 (skip_blank text), skip-short true false text)
    by false true = skip-short true false text
    by false false = tt

-- a key, and a byte behind it
record IsKeyBehind (text : List ℕ) (p : Key × List ℕ) : Type 0 where
  few : length p.0.0 ≤ 80
  short : length p.1 < length text

key_equals-left : (text : List ℕ) → If (IsKeyBehind text) (key_equals text)
unfolding key_equals
key_equals-left text = if_then (IsKeyLeft 80 text) (IsKeyBehind text)
    (λ k. option_map (λ rest. (k.0, skip_ws rest)) (after_byte equals k.1)) (key text) (key-left text)
    (λ k left. if_map (λ rest. length rest < length k.1) (IsKeyBehind text) (λ rest. (k.0, skip_ws rest))
    (after_byte equals k.1) (byte-shorter equals k.1 (omega arith))
    (λ rest h. record { few = left.few; short = omega (arith, h, left.short, ws-short rest) }))

header_key-left : (text : List ℕ) → If (IsKeyBehind text) (header_key text)
unfolding header_key
header_key-left text = if_then (IsKeyLeft 80 (skip_ws text)) (IsKeyBehind text)
    (λ k. option_map (λ rest. (k.0, rest)) (after_byte right_bracket k.1)) (key (skip_ws text))
    (key-left (skip_ws text))
    (λ k left. if_map (λ rest. length rest < length k.1) (IsKeyBehind text) (λ rest. (k.0, rest))
    (after_byte right_bracket k.1) (byte-shorter right_bracket k.1 (omega arith))
    (λ rest h. record { few = left.few; short = omega (arith, h, left.short, ws-short text) }))

module _ (read : List ℕ → Read Data) (weighs : (text : List ℕ) → If (Weighs size 0 text) (read text)) where
  keyval-weighs : (text : List ℕ) → If (IsPair size text) (keyval read text)
  keyval-weighs text = if_then (IsKeyBehind text) (IsPair size text) (λ k. read_map (λ d. (k.0, d)) (read k.1))
      (key_equals text) (key_equals-left text)
      (λ k left. if_map (Weighs size 0 k.1) (IsPair size text) (λ p. ((k.0, p.0), p.1)) (read k.1) (weighs k.1)
      (λ p h. record {
        few = left.few;
        weight = omega (arith, h.weight, left.short);
        short = omega (arith, h.short, left.short);
      }))

  items-weigh : (n : ℕ) (found : Items) (text : List ℕ)
      → If (Weighs items_size (items_size found) text) (items read n found text)
  unfolding items
  items-weigh zero found text = tt
  items-weigh (suc n) found text = by (λ d rest. items-weigh n (push_item found d) rest)
      (first (skip_blank text) == right_bracket)
    where
      by : ((d : Data) (rest : List ℕ)
          → If (Weighs items_size (items_size (push_item found d)) rest) (items read n (push_item found d) rest))
          → (b : Bool) → If (Weighs items_size (items_size found) text) (cond b (Some (found, drop 1 (skip_blank text)))
          (option_and_then (λ v. option_and_then (items read n (push_item found v.0)) (after_element right_bracket v.1))
          (read (skip_blank text))))
      by more true = record {
        weight = omega (arith, drop-short 1 (skip_blank text), skip-short true false text);
        short = omega (arith, drop-short 1 (skip_blank text), skip-short true false text);
      }
      by more false = if_then (Weighs size 0 (skip_blank text)) (Weighs items_size (items_size found) text)
          (λ v. option_and_then (items read n (push_item found v.0)) (after_element right_bracket v.1))
          (read (skip_blank text)) (weighs (skip_blank text))
          (λ v h. if_then (λ rest. length rest ≤ length v.1) (Weighs items_size (items_size found) text)
          (items read n (push_item found v.0)) (after_element right_bracket v.1) (element-short right_bracket v.1)
          (λ rest le. if_weaker (Weighs items_size (items_size (push_item found v.0)) rest)
          (Weighs items_size (items_size found) text) (items read n (push_item found v.0) rest) (more v.0 rest)
          (λ p g. record {
            weight = omega (arith, g.weight, le, h.weight, push-size found v.0, skip-short true false text);
            short = omega (arith, g.short, le, h.short, skip-short true false text);
          })))

  members-weigh : (n : ℕ) (found : Nodes) (text : List ℕ)
      → If (Weighs members_size (nodes_size found) text) (members read n found text)
  unfolding members
  members-weigh zero found text = tt
  members-weigh (suc n) found text = by (λ new rest. members-weigh n new rest)
      (first (skip_blank text) == right_brace)
    where
      by : ((new : Nodes) (rest : List ℕ) → If (Weighs members_size (nodes_size new) rest) (members read n new rest))
          → (b : Bool) → If (Weighs members_size (nodes_size found) text)
          (cond b (Some (close found, drop 1 (skip_blank text)))
          (option_and_then (λ e. option_and_then (λ more. option_and_then (members read n more)
          (after_element right_brace e.1)) (put e.0.0 e.0.1 found)) (keyval read (skip_blank text))))
      by more true = record {
        weight = omega (arith, drop-short 1 (skip_blank text), skip-short true false text, close-size found);
        short = omega (arith, drop-short 1 (skip_blank text), skip-short true false text);
      }
      by more false = if_then (IsPair size (skip_blank text)) (Weighs members_size (nodes_size found) text)
          (λ e. option_and_then (λ more. option_and_then (members read n more) (after_element right_brace e.1))
          (put e.0.0 e.0.1 found)) (keyval read (skip_blank text)) (keyval-weighs (skip_blank text))
          (λ e h. if_then (IsGrown (length e.0.0.0 + suc (size e.0.1)) found)
          (Weighs members_size (nodes_size found) text)
          (λ new. option_and_then (members read n new) (after_element right_brace e.1)) (put e.0.0 e.0.1 found)
          (put-adds e.0.0 e.0.1 found)
          (λ new grown. if_then (λ rest. length rest ≤ length e.1) (Weighs members_size (nodes_size found) text)
          (members read n new) (after_element right_brace e.1) (element-short right_brace e.1)
          (λ rest le. if_weaker (Weighs members_size (nodes_size new) rest)
          (Weighs members_size (nodes_size found) text) (members read n new rest) (more new rest)
          (λ p g. record {
            weight = omega (arith, g.weight, le, h.weight, h.few, grown, skip-short true false text);
            short = omega (arith, g.short, le, h.short, skip-short true false text);
          }))))

scalar-size : (x : Scalar) → size (scalar_data x) ≡ 0
scalar-size (Boolean b) = refl
scalar-size (Integer z) = refl
scalar-size (Float x) = refl
scalar-size (Datetime dt) = refl

atom-weighs : (text : List ℕ) → If (Weighs size 0 text) (atom text)
unfolding atom
atom-weighs text = by (starts_string text)
  where
    by : (b : Bool) → If (Weighs size 0 text)
        (cond b (read_map string (quoted text)) (read_map scalar_data (unquoted text)))
    by true = if_map (IsLeft text) (Weighs size 0 text) (λ p. (string p.0, p.1)) (quoted text) (quoted-left text)
        (λ p h. record { weight = omega (arith, h); short = h })
    by false =
        if_map (IsLeft text) (Weighs size 0 text) (λ p. (scalar_data p.0, p.1)) (unquoted text) (unquoted-left text)
        (λ p h. record { weight = omega (arith, h, scalar-size p.0); short = h })

val-weighs : (depth : ℕ) (text : List ℕ) → If (Weighs size 0 text) (val depth text)
unfolding val
val-weighs zero text = atom-weighs text
val-weighs (suc depth) text = by (val-weighs depth) (first text == left_bracket) (first text == left_brace)
  where
    by : ((s : List ℕ) → If (Weighs size 0 s) (val depth s)) → (b c : Bool) → If (Weighs size 0 text)
        (cond b (read_map array (items (val depth) (length text) no_items (drop 1 text)))
        (cond c (read_map table (members (val depth) (length text) no_nodes (drop 1 text))) (atom text)))
    by more true c = if_map (Weighs items_size 0 (drop 1 text)) (Weighs size 0 text) (λ p. (array p.0, p.1))
        (items (val depth) (length text) no_items (drop 1 text))
        (items-weigh (val depth) more (length text) no_items (drop 1 text))
        (λ p h. record {
          weight = omega (arith, h.weight, drop-short 1 text);
          short = omega (arith, h.short, drop-short 1 text);
        })
    by more false true = if_map (Weighs members_size 0 (drop 1 text)) (Weighs size 0 text) (λ p. (table p.0, p.1))
        (members (val depth) (length text) no_nodes (drop 1 text))
        (members-weigh (val depth) more (length text) no_nodes (drop 1 text))
        (λ p h. record {
          weight = omega (arith, h.weight, drop-short 1 text);
          short = omega (arith, h.short, drop-short 1 text);
        })
    by more false false = atom-weighs text

-- ---- documents

header-pair : (n : ℕ) (text : List ℕ) → If (IsKeyBehind text) (header_key (drop n text))
header-pair n text = if_weaker (IsKeyBehind (drop n text)) (IsKeyBehind text) (header_key (drop n text))
    (header_key-left (drop n text))
    (λ p h. record { few = h.few; short = omega (arith, h.short, drop-short n text) })

expression-weighs : (text : List ℕ) → If (IsPair definition_size text) (expression text)
unfolding expression definition_size
expression-weighs text = by (first text == left_bracket && slice_index text 1 == left_bracket)
    (first text == left_bracket)
  where
    by : (b c : Bool) → If (IsPair definition_size text) (cond b
        (option_and_then (λ k. option_map (λ rest. ((k.0, array_table), rest)) (after_byte right_bracket k.1))
        (header_key (drop 2 text)))
        (cond c (read_map (λ k. (k, std_table)) (header_key (drop 1 text)))
        (read_map (λ p. (p.0, key_value p.1)) (keyval (val recursion_limit) text))))
    by true c = if_then (IsKeyBehind text) (IsPair definition_size text)
        (λ k. option_map (λ rest. ((k.0, array_table), rest)) (after_byte right_bracket k.1)) (header_key (drop 2 text))
        (header-pair 2 text)
        (λ k h. if_map (λ rest. length rest < length k.1) (IsPair definition_size text)
        (λ rest. ((k.0, array_table), rest)) (after_byte right_bracket k.1)
        (byte-shorter right_bracket k.1 (omega arith))
        (λ rest le. record {
          few = h.few;
          weight = omega (arith, h.short, le);
          short = omega (arith, h.short, le);
        }))
    by false true = if_map (IsKeyBehind text) (IsPair definition_size text) (λ p. ((p.0, std_table), p.1))
        (header_key (drop 1 text)) (header-pair 1 text)
        (λ p h. record { few = h.few; weight = omega (arith, h.short); short = h.short })
    by false false = if_map (IsPair size text) (IsPair definition_size text) (λ p. ((p.0.0, key_value p.0.1), p.1))
        (keyval (val recursion_limit) text)
        (keyval-weighs (val recursion_limit) (val-weighs recursion_limit) text)
        (λ p h. record { few = h.few; weight = h.weight; short = h.short })

line-weighs : (text : List ℕ) → If (IsPair definition_size text) (line text)
unfolding line
line-weighs text = if_then (IsPair definition_size text) (IsPair definition_size text)
    (λ e. cond (ends_line (skip_ws e.1)) (Some e) None) (expression text) (expression-weighs text)
    (λ e h. by e h (ends_line (skip_ws e.1)))
  where
    by : (e : Expression × List ℕ) → IsPair definition_size text e → (b : Bool)
        → If (IsPair definition_size text) (cond b (Some e) None)
    by e h true = h
    by e h false = tt

-- the root with at most so many more, and the parts of a header
record IsDefined (n : ℕ) (old new : Document) : Type 0 where
  grown : nodes_size new.0 ≤ n + nodes_size old.0
  few : length new.1 ≤ 81

table-defined : (doc : Document) (k : Key) (what : Definition) → length k.0 ≤ 80 → definition_size what ≡ 0
    → If (IsDefined 162 doc)
    (option_map (λ root. (root, k.0 ++ k.1 ∷ [])) (along_header k.0 (at_key k.1 what) doc.0))
table-defined doc k what few none =
    if_map (IsGrown (length k.0 + suc (definition_size what)) doc.0) (IsDefined 162 doc)
    (λ root. (root, k.0 ++ k.1 ∷ [])) (along_header k.0 (at_key k.1 what) doc.0)
    (along_header-adds k.0 (suc (definition_size what)) (at_key k.1 what) (at_key-adds k.1 what) doc.0)
    (λ root h. record {
      grown = omega (arith, h, few, none);
      few = omega (arith, few, length-append k.0 (k.1 ∷ []));
    })

defined : (doc : Document) (e : Expression) → length doc.1 ≤ 81 → length e.0.0 ≤ 80
    → If (IsDefined (162 + definition_size e.1) doc) (define doc e)
unfolding define definition_size
defined doc (k, key_value d) under few =
    if_map (IsGrown (length doc.1 + (length k.0 + suc (size d))) doc.0) (IsDefined (162 + size d) doc)
    (λ root. (root, doc.1)) (along_header doc.1 (put k d) doc.0)
    (along_header-adds doc.1 (length k.0 + suc (size d)) (put k d) (put-adds k d) doc.0)
    (λ root h. record { grown = omega (arith, h, under, few); few = under })
defined doc (k, std_table) under few = table-defined doc k std_table few refl
defined doc (k, array_table) under few = table-defined doc k array_table few refl

abbrev Ends : Document → List ℕ → Document → Type 0
Ends doc text end = nodes_size end.0 ≤ nodes_size doc.0 + 162 * length text

lines-few : (n : ℕ) (doc : Document) (text : List ℕ) → length doc.1 ≤ 81
    → If (Ends doc text) (lines n doc text)
unfolding lines
lines-few zero doc text few = tt
lines-few (suc n) doc text few = by (λ next rest. lines-few n next rest) (length (skip_blank text) == 0)
  where
    by : ((next : Document) (rest : List ℕ) → length next.1 ≤ 81
        → If (Ends next rest) (lines n next rest))
        → (b : Bool) → If (Ends doc text)
        (cond b (Some doc)
        (option_and_then (λ e. option_and_then (λ next. lines n next e.1) (define doc e.0)) (line (skip_blank text))))
    by more true = omega arith
    by more false = if_then (IsPair definition_size (skip_blank text))
        (Ends doc text)
        (λ e. option_and_then (λ next. lines n next e.1) (define doc e.0)) (line (skip_blank text))
        (line-weighs (skip_blank text))
        (λ e h. if_then (IsDefined (162 + definition_size e.0.1) doc)
        (Ends doc text) (λ next. lines n next e.1)
        (define doc e.0) (defined doc e.0 few h.few)
        (λ next d. if_weaker (Ends next e.1)
        (Ends doc text) (lines n next e.1)
        (more next e.1 d.few) (λ end g. omega (arith, g, d.grown, h.weight, skip-short true false text))))

bom-short : (text : List ℕ) → length (skip_bom text) ≤ length text
unfolding skip_bom
bom-short text = by ((first text == 0xEF && slice_index text 1 == 0xBB) && slice_index text 2 == 0xBF)
  where
    by : (b : Bool) → length (cond b (drop 3 text) text) ≤ length text
    by true = drop-short 3 text
    by false = omega arith

-- a document has at most 162 members for each byte
pub document-few : (text : List ℕ) → If (λ t. members_size t ≤ 162 * length text) (parse_document text)
unfolding parse_document
document-few text =
    if_map (Ends (no_nodes, []) (skip_bom text))
    (λ t. members_size t ≤ 162 * length text) (λ (end : Document). close end.0)
    (lines (suc (length text)) (no_nodes, []) (skip_bom text))
    (lines-few (suc (length text)) (no_nodes, []) (skip_bom text) (omega arith))
    (λ end h. omega (arith, h, close-size end.0, bom-short text))
