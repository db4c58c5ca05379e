-- A text has no more values in it than bytes, and one more.
use Rattle.std.proofs.Common.{ℕ, suc, ◌+◌, ◌≤◌, List, [], ◌∷◌, ◌++◌, length, Bool, true, false, cond, Option, Some}
use Rattle.std.proofs.Common.{None}
use Rattle.std.proofs.Common.{◌≡◌, option_map, option_and_then, refl, ap, arith, length-append, Ordering, Less, Equal}
use Rattle.std.proofs.Common.{Greater}
use Rattle.std.proofs.Common.{nat_cmp, subst}
use Rattle.std.specs.Cmp.Lexicographic.{slice_cmp}
use Rattle.std.specs.Ordering.{match_ordering}
use Rattle.std.specs.Str.{is_utf8}
use Rattle.json.specs.Token.{Token}
use Rattle.json.specs.Token as token
use Rattle.json.specs.Lex.{Lexeme, comma, colon, Class, quote, backslash, operator, space, other, class, Mode, between}
use Rattle.json.specs.Lex.{in_word, in_string, in_escape, lex_byte, lex, begins_colon, may_begin, may_close, if_allowed}
use Rattle.json.specs.Lex.{Place, fresh, after_value, after_comma, after_key, place_token, punctuate, tokens}
use Rattle.json.specs.Lex as lexeme
use Rattle.json.specs.Json as json
use Rattle.json.specs.Json.{value, if_last}
use Rattle.json.specs.Tree.{json_tokens, items_tokens, members_tokens}
use Rattle.serde_json.specs.Data.{Num, Data, null, boolean, number, string, array, object, Items, no_items, item}
use Rattle.serde_json.specs.Data.{Members, no_members, member, put}
use Rattle.serde_json.specs.Read.{number_of, of_json, of_items, of_members, max_depth, read}
use Rattle.trees.specs.Trees.{data_of_bytes}
use Rattle.trees.proofs.TokenLemmas.{value-spelt}

-- ---- tokens

abbrev Lexed : List ℕ → Type 0
Lexed xs = (m : Mode) → length (lex m xs) ≤ length xs

lexed-byte : (m : Mode) (c : Class) (x : ℕ) (xs : List ℕ) → Lexed xs
    → length (lex_byte m c x xs (λ next. lex next xs)) ≤ suc (length xs)
lexed-byte between quote x xs h = omega (arith, h in_string)
lexed-byte between backslash x xs h = omega (arith, h in_word)
lexed-byte between operator x xs h = omega (arith, h between)
lexed-byte between space x xs h = omega (arith, h between)
lexed-byte between other x xs h = omega (arith, h in_word)
lexed-byte in_word quote x xs h = omega (arith, h in_word)
lexed-byte in_word backslash x xs h = omega (arith, h in_word)
lexed-byte in_word operator x xs h = omega (arith, h between)
lexed-byte in_word space x xs h = omega (arith, h between)
lexed-byte in_word other x xs h = omega (arith, h in_word)
lexed-byte in_string quote x xs h = omega (arith, h between)
lexed-byte in_string backslash x xs h = omega (arith, h in_escape)
lexed-byte in_string operator x xs h = omega (arith, h in_string)
lexed-byte in_string space x xs h = omega (arith, h in_string)
lexed-byte in_string other x xs h = omega (arith, h in_string)
lexed-byte in_escape c x xs h = omega (arith, h in_string)

lexed : (xs : List ℕ) → Lexed xs
unfolding lex
lexed [] m = omega arith
lexed (x ∷ xs) m = lexed-byte m (class x) x xs (lexed xs)

abbrev Punctuated : List Lexeme → Type 0
Punctuated ls = (p : Place) → length (punctuate p ls) ≤ suc (length ls)

allowed : (b : Bool) (t : Token) (ls : List Lexeme) (next : Place) → Punctuated ls
    → length (if_allowed b t (λ p. punctuate p ls) next) ≤ suc (suc (length ls))
allowed true t ls next h = omega (arith, h next)
allowed false t ls next h = omega arith

placed : (p : Place) (t : Token) (b : Bool) (ls : List Lexeme) → Punctuated ls
    → length (place_token p t b (λ p. punctuate p ls)) ≤ suc (suc (length ls))
placed p token.begin_object b ls h = allowed (may_begin p) token.begin_object ls fresh h
placed p token.end_object b ls h = allowed (may_close p) token.end_object ls after_value h
placed p token.begin_array b ls h = allowed (may_begin p) token.begin_array ls fresh h
placed p token.end_array b ls h = allowed (may_close p) token.end_array ls after_value h
placed p (token.key s) b ls h = omega arith
placed p (token.string s) true ls h = allowed (may_begin p) (token.key s) ls after_key h
placed p (token.string s) false ls h = allowed (may_begin p) (token.string s) ls after_value h
placed p (token.number s) b ls h = allowed (may_begin p) (token.number s) ls after_value h
placed p (token.boolean c) b ls h = allowed (may_begin p) (token.boolean c) ls after_value h
placed p token.null b ls h = allowed (may_begin p) token.null ls after_value h
placed p token.bad b ls h = omega arith

punctuated : (ls : List Lexeme) → Punctuated ls
unfolding punctuate
punctuated [] fresh = omega arith
punctuated [] after_value = omega arith
punctuated [] after_comma = omega arith
punctuated [] after_key = omega arith
punctuated (lexeme.token t ∷ ls) fresh = placed fresh t (begins_colon ls) ls (punctuated ls)
punctuated (lexeme.token t ∷ ls) after_value = placed after_value t (begins_colon ls) ls (punctuated ls)
punctuated (lexeme.token t ∷ ls) after_comma = placed after_comma t (begins_colon ls) ls (punctuated ls)
punctuated (lexeme.token t ∷ ls) after_key = placed after_key t (begins_colon ls) ls (punctuated ls)
punctuated (comma ∷ ls) fresh = omega arith
punctuated (comma ∷ ls) after_value = omega (arith, punctuated ls after_comma)
punctuated (comma ∷ ls) after_comma = omega arith
punctuated (comma ∷ ls) after_key = omega arith
punctuated (colon ∷ ls) fresh = omega arith
punctuated (colon ∷ ls) after_value = omega arith
punctuated (colon ∷ ls) after_comma = omega arith
punctuated (colon ∷ ls) after_key = omega (arith, punctuated ls fresh)

tokens-few : (text : List ℕ) → length (tokens text) ≤ suc (length text)
tokens-few text = omega (arith, punctuated (lex between text) fresh, lexed text between)

-- ---- values

-- how many values a value has in it, with itself
abbrev mutual
  pub size : Data → ℕ
  size null = 1
  size (boolean b) = 1
  size (number n) = 1
  size (string s) = 1
  size (array ds) = suc (items_size ds)
  size (object ms) = suc (members_size ms)

  pub items_size : Items → ℕ
  items_size no_items = 0
  items_size (item d ds) = size d + items_size ds

  pub members_size : Members → ℕ
  members_size no_members = 0
  members_size (member k d ms) = size d + members_size ms

pub size-some : (d : Data) → 1 ≤ size d
size-some null = omega arith
size-some (boolean b) = omega arith
size-some (number n) = omega arith
size-some (string s) = omega arith
size-some (array ds) = omega arith
size-some (object ms) = omega arith

put-size : (k : List ℕ) (d : Data) (ms : Members) → members_size (put k d ms) ≤ size d + members_size ms
put-size k d no_members = omega arith
put-size k d (member l e ms) = by (slice_cmp nat_cmp k l) (put-size k d ms)
  where
    by : (o : Ordering) → members_size (put k d ms) ≤ size d + members_size ms
        → members_size (match_ordering o (member k d (member l e ms)) (member l d ms) (member l e (put k d ms)))
        ≤ size d + (size e + members_size ms)
    by Less h = omega arith
    by Equal h = omega arith
    by Greater h = omega (arith, h)

abbrev IsWithin : {A : Type 0} → (A → ℕ) → ℕ → Option A → Type 0
IsWithin of n None = Unit {0}
IsWithin of n (Some x) = of x ≤ n

number-within : (o : Option Num) → IsWithin size 1 (option_map number o)
number-within None = tt
number-within (Some n) = omega arith

array-within : (n : ℕ) (o : Option Items) → IsWithin items_size n o → IsWithin size (suc n) (option_map array o)
array-within n None h = tt
array-within n (Some ds) h = omega (arith, h)

object-within : (n : ℕ) (o : Option Members) → IsWithin members_size n o → IsWithin size (suc n) (option_map object o)
object-within n None h = tt
object-within n (Some ms) h = omega (arith, h)

item-within : (n m : ℕ) (o : Option Data) (more : Option Items) → IsWithin size n o → IsWithin items_size m more
    → IsWithin items_size (n + m) (option_and_then (λ d. option_map (item d) more) o)
item-within n m None more h rest = tt
item-within n m (Some d) None h rest = tt
item-within n m (Some d) (Some ds) h rest = omega (arith, h, rest)

wider : {A : Type 0} (of : A → ℕ) (n m : ℕ) (o : Option A) → n ≤ m → IsWithin of n o → IsWithin of m o
wider of n m None le h = tt
wider of n m (Some x) le h = omega (arith, le, h)

member-within : (n m : ℕ) (k : List ℕ) (ms : json.Members) (found : Members) (o : Option Data) → IsWithin size n o
    → ((next : Members) → IsWithin members_size (m + members_size next) (of_members ms next))
    → IsWithin members_size (suc (n + m) + members_size found) (option_and_then (λ d. of_members ms (put k d found)) o)
member-within n m k ms found None h more = tt
member-within n m k ms found (Some d) h more =
    wider members_size (m + members_size (put k d found)) (suc (n + m) + members_size found)
    (of_members ms (put k d found)) (omega (arith, h, put-size k d found)) (more (put k d found))

mutual
  json-within : (j : json.Json) → IsWithin size (length (json_tokens j)) (of_json j)
  json-within json.null = omega arith
  json-within (json.boolean b) = omega arith
  json-within (json.number s) = number-within (number_of s)
  json-within (json.string s) = omega arith
  json-within (json.array js) = array-within (length (items_tokens js)) (of_items js) (items-within js)
  json-within (json.object ms) =
      object-within (length (members_tokens ms)) (of_members ms no_members)
      (wider members_size (length (members_tokens ms) + 0) (length (members_tokens ms)) (of_members ms no_members)
      (omega arith) (members-within ms no_members))

  items-within : (js : json.Items) → IsWithin items_size (length (items_tokens js)) (of_items js)
  items-within json.no_items = omega arith
  items-within (json.item j js) =
      wider items_size (length (json_tokens j) + length (items_tokens js)) (length (json_tokens j ++ items_tokens js))
      (of_items (json.item j js)) (omega (arith, length-append (json_tokens j) (items_tokens js)))
      (item-within (length (json_tokens j)) (length (items_tokens js)) (of_json j) (of_items js) (json-within j)
      (items-within js))

  members-within : (ms : json.Members) (found : Members)
      → IsWithin members_size (length (members_tokens ms) + members_size found) (of_members ms found)
  members-within json.no_members found = omega arith
  members-within (json.member k j ms) found =
      wider members_size (suc (length (json_tokens j) + length (members_tokens ms)) + members_size found)
      (length (members_tokens (json.member k j ms)) + members_size found) (of_members (json.member k j ms) found)
      (omega (arith, length-append (json_tokens j) (members_tokens ms)))
      (member-within (length (json_tokens j)) (length (members_tokens ms)) k ms found (of_json j) (json-within j)
      (members-within ms))

whole-within : (n : ℕ) (ts : List Token) → length ts ≤ n
    → (o : Option (json.Json × List Token)) → value max_depth ts ≡ o
    → IsWithin size n (option_and_then of_json (option_and_then (λ p. if_last p.0 p.1) o))
whole-within n ts le None e = tt
whole-within n ts le (Some (j, [])) e =
    wider size (length (json_tokens j)) n (of_json j)
    (omega (arith, le, ap length (value-spelt max_depth ts [] j e), length-append (json_tokens j) [])) (json-within j)
whole-within n ts le (Some (j, t ∷ rest)) e = tt

-- what bytes are has at most one value more in it than there are bytes
pub data-few : (bytes : List ℕ) (d : Data) → data_of_bytes bytes ≡ Some d → size d ≤ suc (length bytes)
data-few bytes d e = subst (IsWithin size (suc (length bytes))) e (by (is_utf8 bytes))
  where
    by : (b : Bool) → IsWithin size (suc (length bytes)) (cond b (read bytes) None)
    by true = whole-within (suc (length bytes)) (tokens bytes) (tokens-few bytes) (value max_depth (tokens bytes)) refl
    by false = tt
