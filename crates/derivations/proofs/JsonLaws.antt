-- The compact text of JSON values without floats and inner objects reads as the value.
use Rattle.std.proofs.Common.{◌≡◌, ℕ, suc, ◌<◌, ◌≤◌, ◌^◌, max, List, [], Option, Some, option_map, option_and_then}
use Rattle.std.proofs.Common.{refl, sym, ap, ap₂, ◌∙◌, arith, append-nil}
use Rattle.json.specs.Lex.{tokens}
use Rattle.json.specs.Json as json
use Rattle.json.specs.Tree as tree
use Rattle.json.proofs.Printed.Decimals.{IsNumber-decimal}
use Rattle.json.proofs.Printed.Tokens.{tokens-print}
use Rattle.json.proofs.Printed.Trees.{ArePrintable-json_tokens, value-json_tokens}
use Rattle.serde_json.specs.Data.{unsigned, negative, float, Data, null, boolean, number, string, array, object, Items}
use Rattle.serde_json.specs.Data.{no_items, item, no_members, member, put, depth, items_depth}
use Rattle.serde_json.specs.Read.{read, max_depth, of_json, of_items, of_members}
use Rattle.serde_json.specs.Written.{outline, items_outline, compact_text}
use Rattle.serde_json.proofs.Numbers.{number_of-decimal}
use Rattle.serde_json.proofs.Texts.{print-outline}

-- texts, whole numbers of 64 bits and arrays of them
abbrev mutual
  pub IsSimple : Data → Type 0
  IsSimple null = ⊥
  IsSimple (boolean b) = ⊥
  IsSimple (number (unsigned n)) = n < 2 ^ 64
  IsSimple (number (negative z)) = ⊥
  IsSimple (number (float x)) = ⊥
  IsSimple (string s) = Unit {0}
  IsSimple (array ds) = AreSimple ds
  IsSimple (object ms) = ⊥

  pub AreSimple : Items → Type 0
  AreSimple no_items = Unit {0}
  AreSimple (item d ds) = IsSimple d × AreSimple ds

both_some : (d : Data) (ds : Items) (o : Option Data) (p : Option Items) → o ≡ Some d → p ≡ Some ds
    → option_and_then (λ e. option_map (item e) p) o ≡ Some (item d ds)
both_some d ds o p h k = rw (h, k) refl

mutual
  reads : (d : Data) → IsSimple d → of_json (outline d) ≡ Some d
  reads null h = absurd h
  reads (boolean b) h = absurd h
  reads (number (unsigned n)) h = ap (option_map number) (number_of-decimal n h)
  reads (number (negative z)) h = absurd h
  reads (number (float x)) h = absurd h
  reads (string s) h = refl
  reads (array ds) h = ap (option_map array) (items-read ds h)
  reads (object ms) h = absurd h

  items-read : (ds : Items) → AreSimple ds → of_items (items_outline ds) ≡ Some ds
  items-read no_items h = refl
  items-read (item d ds) h = both_some d ds _ _ (reads d h.0) (items-read ds h.1)

mutual
  numbers : (d : Data) → IsSimple d → tree.HasNumbers (outline d)
  numbers null h = absurd h
  numbers (boolean b) h = absurd h
  numbers (number (unsigned n)) h = IsNumber-decimal n h
  numbers (number (negative z)) h = absurd h
  numbers (number (float x)) h = absurd h
  numbers (string s) h = tt
  numbers (array ds) h = all-numbers ds h
  numbers (object ms) h = absurd h

  all-numbers : (ds : Items) → AreSimple ds → tree.ItemsHaveNumbers (items_outline ds)
  all-numbers no_items h = tt
  all-numbers (item d ds) h = (numbers d h.0, all-numbers ds h.1)

mutual
  same-depth : (d : Data) → IsSimple d → tree.depth (outline d) ≡ depth d
  same-depth null h = absurd h
  same-depth (boolean b) h = absurd h
  same-depth (number (unsigned n)) h = refl
  same-depth (number (negative z)) h = absurd h
  same-depth (number (float x)) h = absurd h
  same-depth (string s) h = refl
  same-depth (array ds) h = ap suc (same-depths ds h)
  same-depth (object ms) h = absurd h

  same-depths : (ds : Items) → AreSimple ds → tree.items_depth (items_outline ds) ≡ items_depth ds
  same-depths no_items h = refl
  same-depths (item d ds) h = ap₂ max (same-depth d h.0) (same-depths ds h.1)

-- an object of two members in order
pub two-read : (k l : List ℕ) (d e : Data) → IsSimple d → IsSimple e → depth d ≤ 4 → depth e ≤ 4
    → put l e (member k d no_members) ≡ member k d (member l e no_members)
    → read (compact_text (object (member k d (member l e no_members))))
    ≡ Some (object (member k d (member l e no_members)))
two-read k l d e simple other low below order =
    let whole : Data = object (member k d (member l e no_members)) in
    let tree_depth : tree.depth (outline whole) ≡ depth whole =
    ap₂ (λ m n. suc (max m (max n 0))) (same-depth d simple) (same-depth e other) in
    let first : of_json (outline whole)
    ≡ option_map object (of_members (json.member l (outline e) json.no_members) (member k d no_members))
    = ap (λ o. option_map object (option_and_then (λ x.
    of_members (json.member l (outline e) json.no_members) (put k x no_members)) o)) (reads d simple) in
    let second : option_map object (of_members (json.member l (outline e) json.no_members) (member k d no_members))
    ≡ Some (object (put l e (member k d no_members)))
    = ap (λ o. option_map object
    (option_and_then (λ x. of_members json.no_members (put l x (member k d no_members))) o)) (reads e other) in
    let data_of : of_json (outline whole) ≡ Some whole = first ∙ second ∙ ap (λ ms. Some (object ms)) order in
    let printable = ArePrintable-json_tokens (outline whole) (numbers d simple, (numbers e other, tt)) in
    let text : tokens (compact_text whole) ≡ tree.json_tokens (outline whole) =
    ap tokens (sym (print-outline whole)) ∙ tokens-print (tree.json_tokens (outline whole)) printable in
    let value : json.value max_depth (tokens (compact_text whole)) ≡ Some (outline whole, [])
    = ap (json.value max_depth) (text ∙ sym (append-nil (tree.json_tokens (outline whole))))
    ∙ value-json_tokens (outline whole) max_depth [] (omega (arith, tree_depth)) in
    ap (λ o. option_and_then of_json (option_and_then (λ p. json.if_last p.0 p.1) o)) value ∙ data_of
