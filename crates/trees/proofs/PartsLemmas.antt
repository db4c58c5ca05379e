-- A line of the index is read by its parts.
use Rattle.std.proofs.Common.{◌≡◌, ◌≢◌, ℕ, suc, ◌≤◌, Bool, true, false, not, cond, ◌&&◌, ◌==◌, nat_le}
use Rattle.std.proofs.Common.{List, [], ◌∷◌, ◌++◌, Option, Some, None, is_some, option_and_then, refl, sym, ap, ap₂}
use Rattle.std.proofs.Common.{◌∙◌, subst, arith, IsUtf8, append-nil}
use Rattle.std.specs.Prelude.{codes}
use Rattle.std.specs.Option.{option_or}
use Rattle.std.specs.Str.{is_utf8}
use Rattle.std.proofs.lemmas.Bool.{and_parts, eqb-false, false≢true, leb-true, lt-ltb, not-true}
use Rattle.std.proofs.lemmas.Str.{IsUtf8-append, IsUtf8-from_is_utf8, IsUtf8-past_char, encode_ascii}
use Rattle.json.specs.Token.{Token, begin_object, key, string}
use Rattle.json.specs.Text.{content, plain}
use Rattle.json.specs.Lex.{token, comma, colon, string_token, between, in_string, lex}
use Rattle.json.specs.Lex.{fresh, after_comma, punctuate, tokens}
use Rattle.json.specs.Json.{Json, value, if_last}
use Rattle.json.specs.Json as json
use Rattle.json.specs.Print.{escape}
use Rattle.json.specs.Tree.{json_tokens, members_tokens, depth, members_depth}
use Rattle.json.proofs.Nesting.{value-depth}
use Rattle.json.proofs.Printed.Strings.{content-escape, lex-escape, escape_byte_plain}
use Rattle.json.proofs.Printed.Trees.{value-json_tokens}
use Rattle.json.proofs.Printed.Utf8.{are_ascii, IsUtf8-are_ascii}
use Rattle.serde_json.specs.Data.{Data, object, Members, no_members}
use Rattle.serde_json.specs.Find.{get_member}
use Rattle.serde_json.specs.Read.{of_json, read, max_depth}
use Rattle.model.proofs.Utf8.{utf8-read}
use Rattle.trees.specs.inner.Parts.{is_plain_byte, is_plain, read_within, data_within, part_depth, line_of}
use Rattle.trees.specs.inner.Parts.{first_members}
use Rattle.trees.specs.inner.Tokens.{json_from}
use Rattle.trees.specs.Trees.{data_of_bytes, numbers_fit, data_of, members_of}
use Rattle.trees.proofs.LexLemmas.{outside}
use Rattle.trees.proofs.PunctuationLemmas.{good-json, lexemes_good, value-then, key-behind_comma, all_good}
use Rattle.trees.proofs.TokenLemmas.{value-spelt, json_from-read}
use Rattle.trees.proofs.TreeLemmas.{if_fits, of_json-fits, or_none, get_member-of}

-- ---- plain text

record Plain (x : ℕ) : Type 0 where
  from : 32 ≤ x
  to : x ≤ 126
  no_quote : (x == 34) ≡ false
  no_backslash : (x == 92) ≡ false

a_plain_byte : (x : ℕ) → is_plain_byte x ≡ true → Plain x
a_plain_byte x h =
    let p = and_parts (nat_le 32 x && nat_le x 126 && not (x == 34)) (not (x == 92)) h in
    let q = and_parts (nat_le 32 x && nat_le x 126) (not (x == 34)) p.0 in
    let r = and_parts (nat_le 32 x) (nat_le x 126) q.0 in
    record {
      from = leb-true 32 x r.0;
      to = leb-true x 126 r.1;
      no_quote = not-true (x == 34) q.1;
      no_backslash = not-true (x == 92) p.1;
    }

-- plain text is not escaped
escape_plain : (s : List ℕ) → is_plain s ≡ true → escape s ≡ s
escape_plain [] h = refl
escape_plain (x ∷ s) h =
    let both = and_parts (is_plain_byte x) (is_plain s) h in
    let p = a_plain_byte x both.0 in
    ap₂ (λ (a b : List ℕ). a ++ b)
    (escape_byte_plain x (eqb-false x 34 p.no_quote) (eqb-false x 92 p.no_backslash) p.from) (escape_plain s both.1)

pub ascii_plain : (s : List ℕ) → is_plain s ≡ true → are_ascii s ≡ true
ascii_plain [] h = refl
ascii_plain (x ∷ s) h =
    let both = and_parts (is_plain_byte x) (is_plain s) h in
    let p = a_plain_byte x both.0 in
    ap₂ (λ a b. a && b) (lt-ltb x 128 (omega (arith, p.to))) (ascii_plain s both.1)

pub lex-plain : (s r : List ℕ) → is_plain s ≡ true
    → lex between (34 ∷ (s ++ 34 ∷ r)) ≡ token (string s) ∷ lex between r
unfolding lex
lex-plain s r h =
    let same = ap (λ l. l ++ 34 ∷ r) (sym (escape_plain s h)) in
    ap₂ (λ o ls. token (string_token o) ∷ ls) (ap (content plain) same ∙ content-escape s r)
    (ap (lex in_string) same ∙ lex-escape s r)

-- ---- the tokens of a line

-- a value, and a comma behind it
value-before_comma : (text rest : List ℕ) (j : Json) → tokens text ≡ json_tokens j
    → punctuate fresh (lex between (text ++ 44 ∷ rest)) ≡ json_tokens j ++ punctuate after_comma (lex between rest)
unfolding lex punctuate
value-before_comma text rest j is =
    ap (punctuate fresh) (outside (44 ∷ rest) refl text
    (lexemes_good (lex between text) fresh (ap all_good is ∙ good-json j)))
    ∙ value-then (comma ∷ lex between rest) refl (lex between text) fresh j is

module _ (n v c : List ℕ) (n_plain : is_plain n ≡ true) (v_plain : is_plain v ≡ true)
    (c_plain : is_plain c ≡ true) where
  -- up to the dependencies
  before_deps : (r : List ℕ)
      → tokens (codes "{\"name\":\"" ++ (n ++ (codes "\",\"vers\":\"" ++ (v ++ (codes "\",\"deps\":" ++ r)))))
      ≡ begin_object ∷ key (codes "name") ∷ string n ∷ key (codes "vers") ∷ string v ∷ key (codes "deps")
      ∷ punctuate fresh (lex between r)
  unfolding lex content punctuate
  before_deps r =
      let behind = codes ",\"deps\":" ++ r in
      ap (λ ls. punctuate fresh (token begin_object ∷ token (string (codes "name")) ∷ colon ∷ ls))
      (lex-plain n (codes ",\"vers\":\"" ++ (v ++ 34 ∷ behind)) n_plain)
      ∙ ap (λ ls. punctuate fresh (token begin_object ∷ token (string (codes "name")) ∷ colon ∷ token (string n) ∷ comma
      ∷ token (string (codes "vers")) ∷ colon ∷ ls)) (lex-plain v behind v_plain)

  -- from behind the dependencies up to the features
  before_features : (r : List ℕ)
      → punctuate after_comma (lex between (codes "\"cksum\":\"" ++ (c ++ (codes "\",\"features\":" ++ r))))
      ≡ key (codes "cksum") ∷ string c ∷ key (codes "features") ∷ punctuate fresh (lex between r)
  unfolding lex content punctuate
  before_features r =
      ap (λ ls. punctuate after_comma (token (string (codes "cksum")) ∷ colon ∷ ls))
      (lex-plain c (codes ",\"features\":" ++ r) c_plain)

-- what stands behind the features, as members of the line's object
module _ (rest : List ℕ) (ms : json.Members) where
  rest-tokens : tokens (123 ∷ rest) ≡ json_tokens (json.object ms)
      → punctuate fresh (lex between rest) ≡ members_tokens ms
  unfolding lex punctuate
  rest-tokens is = cc

  rest-behind_comma : ms ≢ json.no_members → punctuate fresh (lex between rest) ≡ members_tokens ms
      → punctuate after_comma (lex between rest) ≡ members_tokens ms
  rest-behind_comma some is = go ms some is
    where
      go : (l : json.Members) → l ≢ json.no_members → punctuate fresh (lex between rest) ≡ members_tokens l
          → punctuate after_comma (lex between rest) ≡ members_tokens l
      go json.no_members h e = absurd (h refl)
      go (json.member k j l) h e = key-behind_comma (lex between rest) k (json_tokens j ++ members_tokens l) e

-- ---- what is read of a part

pub record ReadOf (deep : ℕ) (bytes : List ℕ) (d : Data) : Type 0 where
  pub part : Json
  begins : value deep (tokens bytes) ≡ Some (part, [])
  pub spelt : tokens bytes ≡ json_tokens part
  pub shallow : depth part ≤ deep
  pub fits : numbers_fit part ≡ true
  pub is : d ≡ data_of part
  pub text : IsUtf8 bytes

whole-is : (o : Option (Json × List Token)) (d : Data)
    → option_and_then of_json (option_and_then (λ p. if_last p.0 p.1) o) ≡ Some d
    → (j : Json) × (o ≡ Some (j, [])) × (of_json j ≡ Some d)
whole-is None d e = cc
whole-is (Some (j, [])) d e = (j, refl, e)
whole-is (Some (j, t ∷ ts)) d e = cc

fit-is : (b : Bool) (x d : Data) → if_fits b x ≡ Some d → (b ≡ true) × (d ≡ x)
fit-is true x d e = (refl, cc)
fit-is false x d e = cc

utf8-is : (b : Bool) (o : Option Data) (d : Data) → cond b o None ≡ Some d → (b ≡ true) × (o ≡ Some d)
utf8-is true o d e = (refl, e)
utf8-is false o d e = cc

pub read-of : (deep : ℕ) (bytes : List ℕ) (d : Data) → data_within deep bytes ≡ Some d → ReadOf deep bytes d
read-of deep bytes d e =
    let text = utf8-is (is_utf8 bytes) (read_within deep bytes) d e in
    let j = whole-is (value deep (tokens bytes)) d text.1 in
    let fit = fit-is (numbers_fit j.0) (data_of j.0) d (sym (of_json-fits j.0) ∙ j.2) in
    record {
      part = j.0;
      begins = j.1;
      spelt = value-spelt deep (tokens bytes) [] j.0 j.1 ∙ append-nil (json_tokens j.0);
      shallow = value-depth deep (tokens bytes) [] j.0 j.1;
      fits = fit.0;
      is = fit.1;
      text = IsUtf8-from_is_utf8 bytes text.0;
    }

-- ---- the line

module _ (n v deps c features rest : List ℕ) (d f t : Data) (ms : json.Members) (n_plain : is_plain n ≡ true)
    (v_plain : is_plain v ≡ true) (c_plain : is_plain c ≡ true) (deps_read : ReadOf part_depth deps d)
    (features_read : ReadOf part_depth features f) (rest_read : ReadOf max_depth (123 ∷ rest) t)
    (rest_is : rest_read.part ≡ json.object ms) (some : ms ≢ json.no_members) where
  line_json : Json
  line_json = json.object (json.member (codes "name") (json.string n) (json.member (codes "vers") (json.string v)
      (json.member (codes "deps") deps_read.part (json.member (codes "cksum") (json.string c)
      (json.member (codes "features") features_read.part ms)))))

  line-tokens : tokens (line_of n v deps c features rest) ≡ json_tokens line_json
  unfolding line_json
  line-tokens =
      let behind = features ++ (44 ∷ rest) in
      let third = codes "\"cksum\":\"" ++ (c ++ (codes "\",\"features\":" ++ behind)) in
      let last = rest-behind_comma rest ms some (rest-tokens rest ms (rest_read.spelt ∙ ap json_tokens rest_is)) in
      before_deps n v c n_plain v_plain c_plain (deps ++ 44 ∷ third)
      ∙ ap (λ ts. begin_object ∷ key (codes "name") ∷ string n ∷ key (codes "vers") ∷ string v ∷ key (codes "deps")
      ∷ ts)
      (value-before_comma deps third deps_read.part deps_read.spelt
      ∙ ap (λ ts. json_tokens deps_read.part ++ ts) (before_features n v c n_plain v_plain c_plain behind
      ∙ ap (λ ts. key (codes "cksum") ∷ string c ∷ key (codes "features") ∷ ts)
      (value-before_comma features rest features_read.part features_read.spelt
      ∙ ap (λ ts. json_tokens features_read.part ++ ts) last)))

  line-depth : depth line_json ≤ max_depth
  unfolding line_json
  line-depth =
      let rest_depth : suc (members_depth ms) ≤ max_depth =
      subst (λ j. depth j ≤ max_depth) rest_is rest_read.shallow in
      omega (arith, deps_read.shallow, features_read.shallow, rest_depth)

  line-fits : numbers_fit line_json ≡ true
  unfolding line_json
  line-fits = rw (deps_read.fits, features_read.fits) (sym (ap numbers_fit rest_is) ∙ rest_read.fits)

  line-data : data_of line_json ≡ object (members_of ms (first_members n v d c f))
  unfolding line_json
  line-data = ap₂ (λ d f. object (members_of ms (first_members n v d c f))) (sym deps_read.is) (sym features_read.is)

  line-read : read (line_of n v deps c features rest) ≡ Some (object (members_of ms (first_members n v d c f)))
  line-read =
      let found : value max_depth (tokens (line_of n v deps c features rest)) ≡ Some (line_json, []) =
      ap (value max_depth) (line-tokens ∙ sym (append-nil (json_tokens line_json)))
      ∙ value-json_tokens line_json max_depth [] line-depth in
      ap (λ o. option_and_then of_json (option_and_then (λ p. if_last p.0 p.1) o)) found
      ∙ of_json-fits line_json ∙ ap (λ b. if_fits b (data_of line_json)) line-fits ∙ ap Some line-data

  -- ---- its UTF-8

  rest-text : IsUtf8 rest
  rest-text = IsUtf8-past_char (123 ∷ rest) rest 123 rest_read.text
      (ap (λ l. l ++ rest) (sym (encode_ascii 123 (omega arith))))

  line-text : IsUtf8 (line_of n v deps c features rest)
  line-text =
      let word = λ (s : List ℕ) (h : are_ascii s ≡ true) (r : List ℕ). IsUtf8-append s r (IsUtf8-are_ascii s h) in
      word (codes "{\"name\":\"") refl _ (word n (ascii_plain n n_plain) _ (word (codes "\",\"vers\":\"") refl _
      (word v (ascii_plain v v_plain) _ (word (codes "\",\"deps\":") refl _ (IsUtf8-append deps _ deps_read.text
      (word (codes ",\"cksum\":\"") refl _ (word c (ascii_plain c c_plain) _ (word (codes "\",\"features\":") refl _
      (IsUtf8-append features _ features_read.text (word (codes ",") refl rest rest-text))))))))))

  line-is : data_of_bytes (line_of n v deps c features rest) ≡ Some (object (members_of ms (first_members n v d c f)))
  line-is = utf8-read read (line_of n v deps c features rest) _ line-text line-read

some-is : (o : Option Data) → is_some o ≡ true → (d : Data) × (o ≡ Some d)
some-is None h = absurd (false≢true h)
some-is (Some d) h = (d, refl)

-- a line is what its parts are, each read as a text of its own
pub line-by_parts : (n v deps c features rest : List ℕ) (d f : Data) (ms : json.Members) → is_plain n ≡ true
    → is_plain v ≡ true → is_plain c ≡ true → data_within part_depth deps ≡ Some d
    → data_within part_depth features ≡ Some f → is_some (data_of_bytes (123 ∷ rest)) ≡ true
    → json_from (tokens (123 ∷ rest)) ≡ json.object ms → ms ≢ json.no_members
    → data_of_bytes (line_of n v deps c features rest) ≡ Some (object (members_of ms (first_members n v d c f)))
line-by_parts n v deps c features rest d f ms n_plain v_plain c_plain deps_is features_is rest_is is some =
    let t = some-is (data_of_bytes (123 ∷ rest)) rest_is in
    let whole = read-of max_depth (123 ∷ rest) t.0 t.1 in
    line-is n v deps c features rest d f t.0 ms n_plain v_plain c_plain (read-of part_depth deps d deps_is)
    (read-of part_depth features f features_is) whole
    (sym (json_from-read (tokens (123 ∷ rest)) whole.part (max_depth, [], whole.begins)) ∙ is) some

-- ---- what a line has at a key

object_is : (j : Json) (t : Members) → object t ≡ data_of j
    → (ms : json.Members) × (j ≡ json.object ms) × (t ≡ members_of ms no_members)
object_is json.null t e = cc
object_is (json.boolean b) t e = cc
object_is (json.number s) t e = cc
object_is (json.string s) t e = cc
object_is (json.array js) t e = cc
object_is (json.object ms) t e = (ms, refl, cc)

-- at each key a line has what its rest has, and else what its parts are
pub line-members : (n v deps c features rest : List ℕ) (d f : Data) (t : Members) → is_plain n ≡ true
    → is_plain v ≡ true → is_plain c ≡ true → data_within part_depth deps ≡ Some d
    → data_within part_depth features ≡ Some f → data_of_bytes (123 ∷ rest) ≡ Some (object t) → t ≢ no_members
    → (found : Members) × (data_of_bytes (line_of n v deps c features rest) ≡ Some (object found))
    × ((k : List ℕ) → get_member k found ≡ option_or (get_member k t) (get_member k (first_members n v d c f)))
line-members n v deps c features rest d f t n_plain v_plain c_plain deps_is features_is rest_is some =
    let whole = read-of max_depth (123 ∷ rest) (object t) rest_is in
    let o = object_is whole.part t whole.is in
    let first = first_members n v d c f in (
      members_of o.0 first,
      line-is n v deps c features rest d f (object t) o.0 n_plain v_plain c_plain (read-of part_depth deps d deps_is)
          (read-of part_depth features f features_is) whole o.1
          (λ none. some (o.2 ∙ ap (λ ms. members_of ms no_members) none)),
      λ k. get_member-of k o.0 first ∙ ap (λ b. option_or b (get_member k first))
          (sym (or_none _) ∙ sym (get_member-of k o.0 no_members) ∙ ap (get_member k) (sym o.2)),
    )
