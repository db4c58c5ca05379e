-- The tokens of lexemes with others behind them: where the first are those of a value, what stands behind is read as
-- behind a value.
use Rattle.std.proofs.Common.{◌≡◌, ℕ, Bool, true, false, ◌&&◌, List, [], ◌∷◌, ◌++◌, fold, refl, sym, ap, ◌∙◌}
use Rattle.std.proofs.lemmas.Bool.{and_parts, false≢true}
use Rattle.json.specs.Token.{Token, begin_object, end_object, begin_array, end_array, key, string, number, boolean}
use Rattle.json.specs.Token.{null, bad}
use Rattle.json.specs.Lex.{Lexeme, token, comma, colon, Place, fresh, after_value, after_comma, after_key}
use Rattle.json.specs.Lex.{begins_colon, may_begin, may_close, if_allowed, place_token, punctuate}
use Rattle.json.specs.Align.{is_good}
use Rattle.json.specs.Print.{ends}
use Rattle.json.specs.Json as json
use Rattle.json.specs.Tree.{json_tokens, items_tokens, members_tokens}
use Rattle.trees.proofs.LexLemmas.{are_good}

-- no token is bad
abbrev pub all_good : List Token → Bool
all_good [] = true
all_good (t ∷ ts) = is_good t && all_good ts

-- whether the last token ends a value, or this if there is none
abbrev pub last_ends : Bool → List Token → Bool
last_ends first ts = fold (λ _ t. ends t) first ts

-- ---- no token of a value is bad, and the last one ends it

good-append : (ts us : List Token) → all_good ts ≡ true → all_good (ts ++ us) ≡ all_good us
good-append [] us h = refl
good-append (t ∷ ts) us h =
    let both = and_parts (is_good t) (all_good ts) h in
    ap (λ b. b && all_good (ts ++ us)) both.0 ∙ good-append ts us both.1

last-append : (b : Bool) (ts us : List Token) → last_ends b (ts ++ us) ≡ last_ends (last_ends b ts) us
last-append b [] us = refl
last-append b (t ∷ ts) us = last-append (ends t) ts us

mutual
  pub good-json : (j : json.Json) → all_good (json_tokens j) ≡ true
  good-json json.null = refl
  good-json (json.boolean b) = refl
  good-json (json.number s) = refl
  good-json (json.string s) = refl
  good-json (json.array js) = good-items js
  good-json (json.object ms) = good-members ms

  good-items : (js : json.Items) → all_good (items_tokens js) ≡ true
  good-items json.no_items = refl
  good-items (json.item j js) = good-append (json_tokens j) (items_tokens js) (good-json j) ∙ good-items js

  good-members : (ms : json.Members) → all_good (members_tokens ms) ≡ true
  good-members json.no_members = refl
  good-members (json.member k j ms) = good-append (json_tokens j) (members_tokens ms) (good-json j) ∙ good-members ms

mutual
  pub last-json : (b : Bool) (j : json.Json) → last_ends b (json_tokens j) ≡ true
  last-json b json.null = refl
  last-json b (json.boolean v) = refl
  last-json b (json.number s) = refl
  last-json b (json.string s) = refl
  last-json b (json.array js) = last-items false js
  last-json b (json.object ms) = last-members false ms

  last-items : (b : Bool) (js : json.Items) → last_ends b (items_tokens js) ≡ true
  last-items b json.no_items = refl
  last-items b (json.item j js) = last-append b (json_tokens j) (items_tokens js) ∙ last-items _ js

  last-members : (b : Bool) (ms : json.Members) → last_ends b (members_tokens ms) ≡ true
  last-members b json.no_members = refl
  last-members b (json.member k j ms) = last-append false (json_tokens j) (members_tokens ms) ∙ last-members _ ms

-- ---- where no token is bad, no lexeme is

allowed_good : (b : Bool) (t : Token) (k : Place → List Token) (next : Place)
    → all_good (if_allowed b t k next) ≡ true → all_good (k next) ≡ true
allowed_good true t k next h = (and_parts (is_good t) (all_good (k next)) h).1
allowed_good false t k next h = absurd (false≢true h)

placed_good : (p : Place) (t : Token) (b : Bool) (ls : List Lexeme) (k : Place → List Token)
    → ((next : Place) → all_good (k next) ≡ true → are_good ls ≡ true)
    → all_good (place_token p t b k) ≡ true → (is_good t && are_good ls) ≡ true
placed_good p begin_object b ls k f h = f fresh (allowed_good (may_begin p) begin_object k fresh h)
placed_good p end_object b ls k f h = f after_value (allowed_good (may_close p) end_object k after_value h)
placed_good p begin_array b ls k f h = f fresh (allowed_good (may_begin p) begin_array k fresh h)
placed_good p end_array b ls k f h = f after_value (allowed_good (may_close p) end_array k after_value h)
placed_good p (key s) b ls k f h = absurd (false≢true h)
placed_good p (string s) true ls k f h = f after_key (allowed_good (may_begin p) (key s) k after_key h)
placed_good p (string s) false ls k f h = f after_value (allowed_good (may_begin p) (string s) k after_value h)
placed_good p (number s) b ls k f h = f after_value (allowed_good (may_begin p) (number s) k after_value h)
placed_good p (boolean v) b ls k f h = f after_value (allowed_good (may_begin p) (boolean v) k after_value h)
placed_good p null b ls k f h = f after_value (allowed_good (may_begin p) null k after_value h)
placed_good p bad b ls k f h = absurd (false≢true h)

pub lexemes_good : (ls : List Lexeme) (p : Place) → all_good (punctuate p ls) ≡ true → are_good ls ≡ true
unfolding punctuate
lexemes_good [] p h = refl
lexemes_good (token t ∷ ls) p h =
    placed_good p t (begins_colon ls) ls (λ next. punctuate next ls) (λ next. lexemes_good ls next) h
lexemes_good (comma ∷ ls) fresh h = absurd (false≢true h)
lexemes_good (comma ∷ ls) after_value h = lexemes_good ls after_comma h
lexemes_good (comma ∷ ls) after_comma h = absurd (false≢true h)
lexemes_good (comma ∷ ls) after_key h = absurd (false≢true h)
lexemes_good (colon ∷ ls) fresh h = absurd (false≢true h)
lexemes_good (colon ∷ ls) after_value h = absurd (false≢true h)
lexemes_good (colon ∷ ls) after_comma h = absurd (false≢true h)
lexemes_good (colon ∷ ls) after_key h = lexemes_good ls fresh h

-- ---- lexemes one behind the other

-- whether a value has ended there, or one has to come
abbrev at_end : Place → Bool
at_end fresh = false
at_end after_value = true
at_end after_comma = true
at_end after_key = false

module _ (ms : List Lexeme) (apart : begins_colon ms ≡ false) where
  abbrev behind : List Token
  behind = punctuate after_value ms

  still_no_colon : (ls : List Lexeme) → begins_colon (ls ++ ms) ≡ begins_colon ls
  still_no_colon [] = apart
  still_no_colon (token t ∷ ls) = refl
  still_no_colon (comma ∷ ls) = refl
  still_no_colon (colon ∷ ls) = refl

  -- tokens of some lexemes, and of those with the others behind them, from a place
  abbrev Continues : Place → List Token → List Token → Type 0
  Continues p ts us = all_good ts ≡ true → last_ends (at_end p) ts ≡ true → us ≡ ts ++ behind

  allowed : (p : Place) (b : Bool) (t : Token) (k m : Place → List Token) (next : Place) → ends t ≡ at_end next
      → Continues next (k next) (m next) → Continues p (if_allowed b t k next) (if_allowed b t m next)
  allowed p true t k m next same more good last =
      ap (λ l. t ∷ l) (more (and_parts (is_good t) (all_good (k next)) good).1
      (ap (λ e. last_ends e (k next)) (sym same) ∙ last))
  allowed p false t k m next same more good last = absurd (false≢true good)

  placed : (p : Place) (t : Token) (b : Bool) (k m : Place → List Token)
      → ((next : Place) → Continues next (k next) (m next)) → Continues p (place_token p t b k) (place_token p t b m)
  placed p begin_object b k m f = allowed p (may_begin p) begin_object k m fresh refl (f fresh)
  placed p end_object b k m f = allowed p (may_close p) end_object k m after_value refl (f after_value)
  placed p begin_array b k m f = allowed p (may_begin p) begin_array k m fresh refl (f fresh)
  placed p end_array b k m f = allowed p (may_close p) end_array k m after_value refl (f after_value)
  placed p (key s) b k m f = λ good last. absurd (false≢true good)
  placed p (string s) true k m f = allowed p (may_begin p) (key s) k m after_key refl (f after_key)
  placed p (string s) false k m f = allowed p (may_begin p) (string s) k m after_value refl (f after_value)
  placed p (number s) b k m f = allowed p (may_begin p) (number s) k m after_value refl (f after_value)
  placed p (boolean v) b k m f = allowed p (may_begin p) (boolean v) k m after_value refl (f after_value)
  placed p null b k m f = allowed p (may_begin p) null k m after_value refl (f after_value)
  placed p bad b k m f = λ good last. absurd (false≢true good)

  continues : (ls : List Lexeme) (p : Place) → Continues p (punctuate p ls) (punctuate p (ls ++ ms))
  unfolding punctuate
  continues [] fresh good last = absurd (false≢true last)
  continues [] after_value good last = refl
  continues [] after_comma good last = absurd (false≢true good)
  continues [] after_key good last = absurd (false≢true good)
  continues (token t ∷ ls) p good last =
      ap (λ b. place_token p t b (λ next. punctuate next (ls ++ ms))) (still_no_colon ls)
      ∙ placed p t (begins_colon ls) (λ next. punctuate next ls) (λ next. punctuate next (ls ++ ms)) (continues ls)
      good last
  continues (comma ∷ ls) fresh good last = absurd (false≢true good)
  continues (comma ∷ ls) after_value good last = continues ls after_comma good last
  continues (comma ∷ ls) after_comma good last = absurd (false≢true good)
  continues (comma ∷ ls) after_key good last = absurd (false≢true good)
  continues (colon ∷ ls) fresh good last = absurd (false≢true good)
  continues (colon ∷ ls) after_value good last = absurd (false≢true good)
  continues (colon ∷ ls) after_comma good last = absurd (false≢true good)
  continues (colon ∷ ls) after_key good last = continues ls fresh good last

  -- behind a value
  pub value-then : (ls : List Lexeme) (p : Place) (j : json.Json) → punctuate p ls ≡ json_tokens j
      → punctuate p (ls ++ ms) ≡ json_tokens j ++ behind
  value-then ls p j is =
      continues ls p (ap all_good is ∙ good-json j) (ap (last_ends (at_end p)) is ∙ last-json (at_end p) j)
      ∙ ap (λ l. l ++ behind) is

-- ---- a key stands behind a comma as it stands at the beginning of an object

key_token : (t : Token) (b : Bool) (k : Place → List Token) (s : List ℕ) (ts : List Token)
    → place_token fresh t b k ≡ key s ∷ ts → place_token after_comma t b k ≡ key s ∷ ts
key_token begin_object b k s ts e = cc
key_token end_object b k s ts e = cc
key_token begin_array b k s ts e = cc
key_token end_array b k s ts e = cc
key_token (key l) b k s ts e = e
key_token (string l) true k s ts e = e
key_token (string l) false k s ts e = e
key_token (number l) b k s ts e = e
key_token (boolean v) b k s ts e = e
key_token null b k s ts e = e
key_token bad b k s ts e = e

pub key-behind_comma : (ls : List Lexeme) (s : List ℕ) (ts : List Token) → punctuate fresh ls ≡ key s ∷ ts
    → punctuate after_comma ls ≡ key s ∷ ts
unfolding punctuate
key-behind_comma [] s ts e = cc
key-behind_comma (token t ∷ ls) s ts e = key_token t (begins_colon ls) (λ next. punctuate next ls) s ts e
key-behind_comma (comma ∷ ls) s ts e = e
key-behind_comma (colon ∷ ls) s ts e = e
