-- What is read of tokens, and what the tokens of a value are.
use Rattle.std.proofs.Common.{◌≡◌, ℕ, zero, suc, ◌≤◌, List, [], ◌∷◌, ◌++◌, length, Bool, true, false, ◌&&◌, cond}
use Rattle.std.proofs.Common.{Option, Some, None, is_some, option_map, option_and_then, unwrap_or}
use Rattle.std.specs.Prelude.{IfNone}
use Rattle.std.proofs.Common.{Bor, refl, sym, ap, ◌∙◌, subst, arith, append_assoc, length-append}
use Rattle.std.proofs.Math.Bool.{and-true}
use Rattle.json.specs.Token.{Token}
use Rattle.json.specs.Json.{Json, null, boolean, number, string, array, object, Items, no_items, item, Members}
use Rattle.json.specs.Json.{no_members, member, Parse, parse_map, after_end_array, read_key, items_step, members_step}
use Rattle.json.specs.Json.{items, members, value_with, value}
use Rattle.json.specs.Find.{BeginsWith, InItems, InMembers, NextItem, NextMember}
use Rattle.json.specs.Tree.{json_tokens, items_tokens, members_tokens, depth, items_depth, members_depth}
use Rattle.json.proofs.Grammar.{closed_array, read_key_is}
use Rattle.json.proofs.Printed.Trees.{value-json_tokens}
use Rattle.serde_json.specs.Read.{number_of}
use Rattle.model.specs.Content.{passes}
use Rattle.trees.specs.inner.Tokens.{first_items, has_items, items_from, first_members, has_members, members_from}
use Rattle.trees.specs.inner.Tokens.{first_value, begins, json_from}
use Rattle.trees.specs.Trees.{numbers_fit, items_fit, members_fit}

-- ---- what is read is what the tokens spell

abbrev IsSpelt : {A : Type 0} → (A → List Token) → List Token → Option (A × List Token) → Type 0
IsSpelt spell ts None = Unit {0}
IsSpelt spell ts (Some p) = ts ≡ spell p.0 ++ p.1

abbrev Spells : {A : Type 0} → (A → List Token) → Parse A → Type 0
Spells spell p = (ts : List Token) → IsSpelt spell ts (p ts)

and_more : {B : Type 0} (spell : B → List Token) (h : Json → B → B) (ts : List Token)
    → ((j : Json) (b : B) → spell (h j b) ≡ json_tokens j ++ spell b) → (more : Parse B) → Spells spell more
    → (o : Option (Json × List Token)) → IsSpelt json_tokens ts o
    → IsSpelt spell ts (option_and_then (λ q. parse_map (h q.0) (more q.1)) o)
and_more spell h ts is more again None x = tt
and_more {B} spell h ts is more again (Some q) x = go (more q.1) (again q.1)
  where
    go : (o : Option (B × List Token)) → IsSpelt spell q.1 o → IsSpelt spell ts (parse_map (h q.0) o)
    go None y = tt
    go (Some r) y = x ∙ ap (λ l. json_tokens q.0 ++ l) y ∙ sym (append_assoc (json_tokens q.0) (spell r.0) r.1)
        ∙ ap (λ l. l ++ r.1) (sym (is q.0 r.0))

module _ (p : Parse Json) (spells : Spells json_tokens p) where
  item_turn : (more : Parse Items) → Spells items_tokens more → (ts : List Token) (o : Option (List Token))
      → after_end_array ts ≡ o → IsSpelt items_tokens ts (items_step p more ts o)
  item_turn more again ts (Some r) e = closed_array ts r e
  item_turn more again ts None e = and_more items_tokens item ts (λ j b. refl) more again (p ts) (spells ts)

  Spells-items : (n : ℕ) → Spells items_tokens (items p n)
  unfolding items
  Spells-items zero ts = tt
  Spells-items (suc n) ts = item_turn (items p n) (Spells-items n) ts (after_end_array ts) refl

  -- the members behind a key, with the key's token before them
  behind_key : (k : List ℕ) (s : List Token) (more : Parse Members) → Spells members_tokens more
      → (o : Option (Json × List Token)) → IsSpelt json_tokens s o
      → IsSpelt members_tokens (Token.key k ∷ s) (option_and_then (λ q. parse_map (member k q.0) (more q.1)) o)
  behind_key k s more again None x = tt
  behind_key k s more again (Some q) x = go (more q.1) (again q.1)
    where
      go : (o : Option (Members × List Token)) → IsSpelt members_tokens q.1 o
          → IsSpelt members_tokens (Token.key k ∷ s) (parse_map (member k q.0) o)
      go None y = tt
      go (Some r) y = ap (λ l. Token.key k ∷ l)
          (x ∙ ap (λ l. json_tokens q.0 ++ l) y ∙ sym (append_assoc (json_tokens q.0) (members_tokens r.0) r.1))

  member_turn : (more : Parse Members) → Spells members_tokens more → (ts : List Token)
      (o : Option (Option (List ℕ) × List Token)) → read_key ts ≡ o
      → IsSpelt members_tokens ts (option_and_then (λ q. members_step p more q.0 q.1) o)
  member_turn more again ts None e = tt
  member_turn more again ts (Some (None, s)) e = read_key_is ts None s e
  member_turn more again ts (Some (Some k, s)) e =
      subst (λ l. IsSpelt members_tokens l (members_step p more (Some k) s)) (sym (read_key_is ts (Some k) s e))
      (behind_key k s more again (p s) (spells s))

  Spells-members : (n : ℕ) → Spells members_tokens (members p n)
  unfolding members
  Spells-members zero ts = tt
  Spells-members (suc n) ts = member_turn (members p n) (Spells-members n) ts (read_key ts) refl

opened_array : (ts : List Token) (o : Option (Items × List Token)) → IsSpelt items_tokens ts o
    → IsSpelt json_tokens (Token.begin_array ∷ ts) (parse_map array o)
opened_array ts None x = tt
opened_array ts (Some p) x = ap (λ l. Token.begin_array ∷ l) x

opened_object : (ts : List Token) (o : Option (Members × List Token)) → IsSpelt members_tokens ts o
    → IsSpelt json_tokens (Token.begin_object ∷ ts) (parse_map object o)
opened_object ts None x = tt
opened_object ts (Some p) x = ap (λ l. Token.begin_object ∷ l) x

Spells-value_with : (a : Parse Items) (o : Parse Members) → Spells items_tokens a → Spells members_tokens o
    → Spells json_tokens (value_with a o)
Spells-value_with a o x y [] = tt
Spells-value_with a o x y (Token.begin_object ∷ ts) = opened_object ts (o ts) (y ts)
Spells-value_with a o x y (Token.end_object ∷ ts) = tt
Spells-value_with a o x y (Token.begin_array ∷ ts) = opened_array ts (a ts) (x ts)
Spells-value_with a o x y (Token.end_array ∷ ts) = tt
Spells-value_with a o x y (Token.key s ∷ ts) = tt
Spells-value_with a o x y (Token.string s ∷ ts) = refl
Spells-value_with a o x y (Token.number s ∷ ts) = refl
Spells-value_with a o x y (Token.boolean b ∷ ts) = refl
Spells-value_with a o x y (Token.null ∷ ts) = refl
Spells-value_with a o x y (Token.bad ∷ ts) = tt

Spells-value : (d : ℕ) → Spells json_tokens (value d)
unfolding value
Spells-value zero = Spells-value_with (λ ts. None) (λ ts. None) (λ ts. tt) (λ ts. tt)
Spells-value (suc d) =
    Spells-value_with (λ ts. items (value d) (length ts) ts) (λ ts. members (value d) (length ts) ts)
    (λ ts. Spells-items (value d) (Spells-value d) (length ts) ts)
    (λ ts. Spells-members (value d) (Spells-value d) (length ts) ts)

-- the tokens that a value is read off
pub value-spelt : (d : ℕ) (ts r : List Token) (j : Json) → value d ts ≡ Some (j, r) → ts ≡ json_tokens j ++ r
value-spelt d ts r j e = subst (IsSpelt json_tokens ts) e (Spells-value d ts)

-- ---- the value that tokens begin with

mutual
  depth-tokens : (j : Json) → depth j ≤ length (json_tokens j)
  depth-tokens null = omega arith
  depth-tokens (boolean b) = omega arith
  depth-tokens (number s) = omega arith
  depth-tokens (string s) = omega arith
  depth-tokens (array js) = omega (arith, depth-items js)
  depth-tokens (object ms) = omega (arith, depth-members ms)

  depth-items : (js : Items) → items_depth js ≤ length (items_tokens js)
  depth-items no_items = omega arith
  depth-items (item j js) =
      omega (arith, depth-tokens j, depth-items js, length-append (json_tokens j) (items_tokens js))

  depth-members : (ms : Members) → members_depth ms ≤ length (members_tokens ms)
  depth-members no_members = omega arith
  depth-members (member k j ms) =
      omega (arith, depth-tokens j, depth-members ms, length-append (json_tokens j) (members_tokens ms))

-- a value that is read at any depth is the one that the tokens begin with
pub first-read : (d : ℕ) (ts r : List Token) (j : Json) → value d ts ≡ Some (j, r) → first_value ts ≡ Some (j, r)
first-read d ts r j e =
    let spelt = value-spelt d ts r j e in
    ap (value (length ts)) spelt ∙ value-json_tokens j (length ts) r
    (omega (arith, depth-tokens j, ap length spelt, length-append (json_tokens j) r))

pub begins-read : (ts : List Token) (j : Json) → BeginsWith ts j → begins ts ≡ true
begins-read ts j (d, r, e) = ap is_some (first-read d ts r j e)

pub json_from-read : (ts : List Token) (j : Json) → BeginsWith ts j → json_from ts ≡ j
json_from-read ts j (d, r, e) = ap (λ o. unwrap_or (option_map (λ p. p.0) o) null) (first-read d ts r j e)

pub begun : (ts : List Token) → begins ts ≡ true → BeginsWith ts (json_from ts)
begun ts is = go (first_value ts) refl is
  where
    go : (o : Option (Json × List Token)) → first_value ts ≡ o → is_some o ≡ true
        → BeginsWith ts (unwrap_or (option_map (λ p. p.0) o) null)
    go None e b = cc
    go (Some p) e b = (length ts, p.1, e)

-- ---- the items and the members that tokens begin with

array_items : Json → Items
array_items null = no_items
array_items (boolean b) = no_items
array_items (number s) = no_items
array_items (string s) = no_items
array_items (array js) = js
array_items (object ms) = no_items

in_array : (o : Option (Items × List Token)) (js : Items) (r : List Token)
    → parse_map array o ≡ Some (array js, r) → o ≡ Some (js, r)
unfolding array_items
in_array None js r e = cc
in_array (Some p) js r e = ap (option_map (λ q. (array_items q.0, q.1))) e

-- items that are read at any depth, in any number of turns, are those that the tokens begin with
pub first-items : (ts : List Token) (js : Items) → InItems ts js
    → (r : List Token) × (first_items ts ≡ Some (js, r))
unfolding value
first-items ts js (d, n, r, e) =
    let spelt : ts ≡ items_tokens js ++ r =
    subst (IsSpelt items_tokens ts) e (Spells-items (value d) (Spells-value d) n ts) in
    let deep : depth (array js) ≤ suc (length ts) =
    omega (arith, depth-items js, ap length spelt, length-append (items_tokens js) r) in (
      r,
      in_array (first_items ts) js r (ap (λ l. value (suc (length ts)) (Token.begin_array ∷ l)) spelt
          ∙ value-json_tokens (array js) (suc (length ts)) r deep),
    )

pub has-items : (ts : List Token) (js : Items) → InItems ts js → has_items ts ≡ true
has-items ts js inside = ap is_some (first-items ts js inside).1

pub items_from-read : (ts : List Token) (js : Items) → InItems ts js → items_from ts ≡ js
items_from-read ts js inside =
    ap (λ o. unwrap_or (option_map (λ p. p.0) o) no_items) (first-items ts js inside).1

pub in_items : (ts : List Token) → has_items ts ≡ true → InItems ts (items_from ts)
in_items ts is = go (first_items ts) refl is
  where
    go : (o : Option (Items × List Token)) → first_items ts ≡ o → is_some o ≡ true
        → InItems ts (unwrap_or (option_map (λ p. p.0) o) no_items)
    go None e b = cc
    go (Some p) e b = (length ts, length ts, p.1, e)

-- there are items left behind the next one too
pub items-left : (old new : List Token) (r : Option (List Token)) → has_items old ≡ true
    → NextItem old r new → IfNone r (new ≡ old) → has_items new ≡ true
items-left old new None is next stays = ap has_items stays ∙ is
items-left old new (Some ts) is next stays =
    let behind = next (items_from old) (in_items old is) in
    has-items new behind.1 behind.4

object_members : Json → Members
object_members null = no_members
object_members (boolean b) = no_members
object_members (number s) = no_members
object_members (string s) = no_members
object_members (array js) = no_members
object_members (object ms) = ms

in_object : (o : Option (Members × List Token)) (ms : Members) (r : List Token)
    → parse_map object o ≡ Some (object ms, r) → o ≡ Some (ms, r)
unfolding object_members
in_object None ms r e = cc
in_object (Some p) ms r e = ap (option_map (λ q. (object_members q.0, q.1))) e

-- members that are read at any depth, in any number of turns, are those that the tokens begin with
pub first-members : (ts : List Token) (ms : Members) → InMembers ts ms
    → (r : List Token) × (first_members ts ≡ Some (ms, r))
unfolding value
first-members ts ms (d, n, r, e) =
    let spelt : ts ≡ members_tokens ms ++ r =
    subst (IsSpelt members_tokens ts) e (Spells-members (value d) (Spells-value d) n ts) in
    let deep : depth (object ms) ≤ suc (length ts) =
    omega (arith, depth-members ms, ap length spelt, length-append (members_tokens ms) r) in (
      r,
      in_object (first_members ts) ms r (ap (λ l. value (suc (length ts)) (Token.begin_object ∷ l)) spelt
          ∙ value-json_tokens (object ms) (suc (length ts)) r deep),
    )

pub has-members : (ts : List Token) (ms : Members) → InMembers ts ms → has_members ts ≡ true
has-members ts ms inside = ap is_some (first-members ts ms inside).1

pub members_from-read : (ts : List Token) (ms : Members) → InMembers ts ms → members_from ts ≡ ms
members_from-read ts ms inside =
    ap (λ o. unwrap_or (option_map (λ p. p.0) o) no_members) (first-members ts ms inside).1

pub in_members : (ts : List Token) → has_members ts ≡ true → InMembers ts (members_from ts)
in_members ts is = go (first_members ts) refl is
  where
    go : (o : Option (Members × List Token)) → first_members ts ≡ o → is_some o ≡ true
        → InMembers ts (unwrap_or (option_map (λ p. p.0) o) no_members)
    go None e b = cc
    go (Some p) e b = (length ts, length ts, p.1, e)

-- there are members left behind the next one too
pub members-left : (old new : List Token) (r : Option (Bor (List ℕ) × List Token)) → has_members old ≡ true
    → NextMember old (option_map (λ m. (m.0.now, m.1)) r) new → IfNone r (new ≡ old) → has_members new ≡ true
members-left old new None is next stays = ap has_members stays ∙ is
members-left old new (Some m) is next stays =
    let behind = next (members_from old) (in_members old is) in
    has-members new behind.1 behind.4

-- ---- how deep tokens nest, and which numbers are kept

-- how many more arrays and objects may open, after a token: none where one too many opens, or a number is beyond floats
abbrev one_less : ℕ → Option ℕ
one_less zero = None
one_less (suc n) = Some n

abbrev pub left_after : ℕ → Token → Option ℕ
left_after n Token.begin_object = one_less n
left_after n Token.end_object = Some (suc n)
left_after n Token.begin_array = one_less n
left_after n Token.end_array = Some (suc n)
left_after n (Token.key s) = Some n
left_after n (Token.string s) = Some n
left_after n (Token.number s) = cond (is_some (number_of s)) (Some n) None
left_after n (Token.boolean b) = Some n
left_after n Token.null = Some n
left_after n Token.bad = Some n

-- no more than this many arrays and objects are open at once, and each number is kept
unfoldable pub fit_within : ℕ → List Token → Bool
fit_within n [] = true
fit_within n (t ∷ ts) = passes (λ left. fit_within left ts) (left_after n t)

abbrev mutual
  fits : Json → ℕ → Bool
  fits null n = true
  fits (boolean b) n = true
  fits (number s) n = is_some (number_of s)
  fits (string s) n = true
  fits (array js) zero = false
  fits (array js) (suc n) = items_fit_in js n
  fits (object ms) zero = false
  fits (object ms) (suc n) = members_fit_in ms n

  items_fit_in : Items → ℕ → Bool
  items_fit_in no_items n = true
  items_fit_in (item j js) n = fits j n && items_fit_in js n

  members_fit_in : Members → ℕ → Bool
  members_fit_in no_members n = true
  members_fit_in (member k j ms) n = fits j n && members_fit_in ms n

and_assoc : (a b c : Bool) → (a && (b && c)) ≡ ((a && b) && c)
and_assoc true b c = refl
and_assoc false b c = refl

both : (a b : Bool) → (a && b) ≡ true → (a ≡ true) × (b ≡ true)
both true b e = (refl, e)
both false b e = cc

if_kept : (b : Bool) (n : ℕ) (ts : List Token)
    → passes (λ left. fit_within left ts) (cond b (Some n) None) ≡ (b && fit_within n ts)
if_kept true n ts = refl
if_kept false n ts = refl

mutual
  unfolding fit_within

  fit-json : (j : Json) (n : ℕ) (ts : List Token)
      → fit_within n (json_tokens j ++ ts) ≡ (fits j n && fit_within n ts)
  fit-json null n ts = refl
  fit-json (boolean b) n ts = refl
  fit-json (number s) n ts = if_kept (is_some (number_of s)) n ts
  fit-json (string s) n ts = refl
  fit-json (array js) zero ts = refl
  fit-json (array js) (suc n) ts = fit-items js n ts
  fit-json (object ms) zero ts = refl
  fit-json (object ms) (suc n) ts = fit-members ms n ts

  fit-items : (js : Items) (n : ℕ) (ts : List Token)
      → fit_within n (items_tokens js ++ ts) ≡ (items_fit_in js n && fit_within (suc n) ts)
  fit-items no_items n ts = refl
  fit-items (item j js) n ts =
      ap (fit_within n) (append_assoc (json_tokens j) (items_tokens js) ts)
      ∙ fit-json j n (items_tokens js ++ ts) ∙ ap (λ b. fits j n && b) (fit-items js n ts)
      ∙ and_assoc (fits j n) (items_fit_in js n) (fit_within (suc n) ts)

  fit-members : (ms : Members) (n : ℕ) (ts : List Token)
      → fit_within n (members_tokens ms ++ ts) ≡ (members_fit_in ms n && fit_within (suc n) ts)
  fit-members no_members n ts = refl
  fit-members (member k j ms) n ts =
      ap (fit_within n) (append_assoc (json_tokens j) (members_tokens ms) ts)
      ∙ fit-json j n (members_tokens ms ++ ts) ∙ ap (λ b. fits j n && b) (fit-members ms n ts)
      ∙ and_assoc (fits j n) (members_fit_in ms n) (fit_within (suc n) ts)

mutual
  fits-depth : (j : Json) (n : ℕ) → fits j n ≡ true → depth j ≤ n
  fits-depth null n h = omega arith
  fits-depth (boolean b) n h = omega arith
  fits-depth (number s) n h = omega arith
  fits-depth (string s) n h = omega arith
  fits-depth (array js) zero h = cc
  fits-depth (array js) (suc n) h = omega (arith, items_fit_in-depth js n h)
  fits-depth (object ms) zero h = cc
  fits-depth (object ms) (suc n) h = omega (arith, members_fit_in-depth ms n h)

  items_fit_in-depth : (js : Items) (n : ℕ) → items_fit_in js n ≡ true → items_depth js ≤ n
  items_fit_in-depth no_items n h = omega arith
  items_fit_in-depth (item j js) n h =
      let parts = both (fits j n) (items_fit_in js n) h in
      omega (arith, fits-depth j n parts.0, items_fit_in-depth js n parts.1)

  members_fit_in-depth : (ms : Members) (n : ℕ) → members_fit_in ms n ≡ true → members_depth ms ≤ n
  members_fit_in-depth no_members n h = omega arith
  members_fit_in-depth (member k j ms) n h =
      let parts = both (fits j n) (members_fit_in ms n) h in
      omega (arith, fits-depth j n parts.0, members_fit_in-depth ms n parts.1)

and_same : (a b c d : Bool) → a ≡ c → b ≡ d → (a && b) ≡ (c && d)
and_same a b c d x y = ap (λ b. a && b) y ∙ ap (λ a. a && d) x

mutual
  depth-fits : (j : Json) (n : ℕ) → depth j ≤ n → fits j n ≡ numbers_fit j
  depth-fits null n h = refl
  depth-fits (boolean b) n h = refl
  depth-fits (number s) n h = refl
  depth-fits (string s) n h = refl
  depth-fits (array js) zero h = absurd (omega (arith, h))
  depth-fits (array js) (suc n) h = depth-items_fit js n (omega (arith, h))
  depth-fits (object ms) zero h = absurd (omega (arith, h))
  depth-fits (object ms) (suc n) h = depth-members_fit ms n (omega (arith, h))

  depth-items_fit : (js : Items) (n : ℕ) → items_depth js ≤ n → items_fit_in js n ≡ items_fit js
  depth-items_fit no_items n h = refl
  depth-items_fit (item j js) n h = and_same (fits j n) (items_fit_in js n) (numbers_fit j) (items_fit js)
      (depth-fits j n (omega (arith, h))) (depth-items_fit js n (omega (arith, h)))

  depth-members_fit : (ms : Members) (n : ℕ) → members_depth ms ≤ n → members_fit_in ms n ≡ members_fit ms
  depth-members_fit no_members n h = refl
  depth-members_fit (member k j ms) n h = and_same (fits j n) (members_fit_in ms n) (numbers_fit j) (members_fit ms)
      (depth-fits j n (omega (arith, h))) (depth-members_fit ms n (omega (arith, h)))

fit-whole : (j : Json) (n : ℕ) → fit_within n (json_tokens j ++ []) ≡ fits j n
unfolding fit_within
fit-whole j n = fit-json j n [] ∙ and-true (fits j n)

-- a value whose tokens fit nests so deep at most, and where it does they fit just where its numbers do
pub fit-depth : (j : Json) (n : ℕ) → fit_within n (json_tokens j ++ []) ≡ true → depth j ≤ n
fit-depth j n h = fits-depth j n (sym (fit-whole j n) ∙ h)

pub depth-fit : (j : Json) (n : ℕ) → depth j ≤ n → fit_within n (json_tokens j ++ []) ≡ numbers_fit j
depth-fit j n h = fit-whole j n ∙ depth-fits j n h
