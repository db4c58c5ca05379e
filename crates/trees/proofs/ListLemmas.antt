-- A list of JSON is read by its items.
use Rattle.std.proofs.Common.{◌≡◌, ◌≢◌, ℕ, suc, ◌≤◌, Bool, true, false, List, [], ◌∷◌, ◌++◌, map, Some}
use Rattle.std.proofs.Common.{option_and_then, refl, sym, ap, ap₂, ◌∙◌, subst, arith, append_assoc, append-nil, IsUtf8}
use Rattle.std.specs.Prelude.{codes}
use Rattle.std.proofs.lemmas.Bool.{false≢true}
use Rattle.std.proofs.lemmas.Str.{IsUtf8-append}
use Rattle.json.specs.Token.{Token, begin_object, end_object, begin_array, end_array, key, string, number, boolean}
use Rattle.json.specs.Token.{null, bad}
use Rattle.json.specs.Word.{ends_word}
use Rattle.json.specs.Lex.{Lexeme, token, comma, colon, between, lex, Place, fresh, after_value, after_comma, after_key}
use Rattle.json.specs.Lex.{begins_colon, may_begin, may_close, place_token, punctuate, tokens}
use Rattle.json.specs.Json.{Json, value, if_last}
use Rattle.json.specs.Json as json
use Rattle.json.specs.Tree.{json_tokens, items_tokens, items_depth}
use Rattle.json.proofs.Printed.Trees.{value-json_tokens}
use Rattle.json.proofs.Printed.Utf8.{IsUtf8-are_ascii}
use Rattle.serde_json.specs.Data.{Data, array, item}
use Rattle.serde_json.specs.Read.{of_json}
use Rattle.model.proofs.Utf8.{utf8-read}
use Rattle.trees.specs.inner.Parts.{read_within, data_within, between_commas, list_of, items_of_data}
use Rattle.trees.specs.Trees.{items_fit, items_of}
use Rattle.trees.proofs.LexLemmas.{outside}
use Rattle.trees.proofs.PunctuationLemmas.{good-json, lexemes_good, value-then, all_good}
use Rattle.trees.proofs.PartsLemmas.{ReadOf, read-of}
use Rattle.trees.proofs.TreeLemmas.{if_fits, of_json-fits}

-- ---- a value stands behind a comma as it stands at the beginning of a text

-- what closes an array or an object, or ends a text, begins no value
no_end_object : (j : Json) (ts : List Token) → (end_object ∷ ts) ≢ json_tokens j
no_end_object json.null ts e = cc
no_end_object (json.boolean b) ts e = cc
no_end_object (json.number s) ts e = cc
no_end_object (json.string s) ts e = cc
no_end_object (json.array js) ts e = cc
no_end_object (json.object ms) ts e = cc

no_end_array : (j : Json) (ts : List Token) → (end_array ∷ ts) ≢ json_tokens j
no_end_array json.null ts e = cc
no_end_array (json.boolean b) ts e = cc
no_end_array (json.number s) ts e = cc
no_end_array (json.string s) ts e = cc
no_end_array (json.array js) ts e = cc
no_end_array (json.object ms) ts e = cc

no_tokens : (j : Json) → [] ≢ json_tokens j
no_tokens json.null e = cc
no_tokens (json.boolean b) e = cc
no_tokens (json.number s) e = cc
no_tokens (json.string s) e = cc
no_tokens (json.array js) e = cc
no_tokens (json.object ms) e = cc

value_token : (t : Token) (b : Bool) (k : Place → List Token) (j : Json) → place_token fresh t b k ≡ json_tokens j
    → place_token after_comma t b k ≡ json_tokens j
value_token begin_object b k j e = e
value_token end_object b k j e = absurd (no_end_object j (k after_value) e)
value_token begin_array b k j e = e
value_token end_array b k j e = absurd (no_end_array j (k after_value) e)
value_token (key l) b k j e = e
value_token (string l) true k j e = e
value_token (string l) false k j e = e
value_token (number l) b k j e = e
value_token (boolean v) b k j e = e
value_token null b k j e = e
value_token bad b k j e = e

value-behind_comma : (ls : List Lexeme) (j : Json) → punctuate fresh ls ≡ json_tokens j
    → punctuate after_comma ls ≡ json_tokens j
unfolding punctuate
value-behind_comma [] j e = absurd (no_tokens j e)
value-behind_comma (token t ∷ ls) j e = value_token t (begins_colon ls) (λ next. punctuate next ls) j e
value-behind_comma (comma ∷ ls) j e = e
value-behind_comma (colon ∷ ls) j e = e

-- wherever a value may begin
value-at : (p : Place) (ls : List Lexeme) (j : Json) → may_begin p ≡ true → punctuate fresh ls ≡ json_tokens j
    → punctuate p ls ≡ json_tokens j
value-at fresh ls j begins e = e
value-at after_value ls j begins e = absurd (false≢true begins)
value-at after_comma ls j begins e = value-behind_comma ls j e
value-at after_key ls j begins e = absurd (false≢true begins)

-- ---- the bytes behind the bracket that opens a list

-- items up to the end of their list, where it is read on from a place
record ItemsRead (deep : ℕ) (p : Place) (bytes : List ℕ) (ds : List Data) : Type 0 where
  these : json.Items
  spelt : punctuate p (lex between bytes) ≡ items_tokens these
  shallow : items_depth these ≤ deep
  fit : items_fit these ≡ true
  are : items_of_data ds ≡ items_of these
  text : IsUtf8 bytes

closing : (p : Place) → may_close p ≡ true → punctuate p (lex between (codes "]")) ≡ end_array ∷ []
unfolding lex punctuate
closing fresh closes = refl
closing after_value closes = refl
closing after_comma closes = absurd (false≢true closes)
closing after_key closes = absurd (false≢true closes)

no-items : (deep : ℕ) (p : Place) → may_close p ≡ true → ItemsRead deep p (codes "]") []
no-items deep p closes = record {
  these = json.no_items;
  spelt = closing p closes;
  shallow = omega arith;
  fit = refl;
  are = refl;
  text = IsUtf8-are_ascii (codes "]") refl;
}

behind-comma : (deep : ℕ) (rest : List ℕ) (ds : List Data) → ItemsRead deep after_comma rest ds
    → ItemsRead deep after_value (44 ∷ rest) ds
unfolding lex punctuate
behind-comma deep rest ds others = record {
  these = others.these;
  spelt = others.spelt;
  shallow = others.shallow;
  fit = others.fit;
  are = others.are;
  text = IsUtf8-append (codes ",") rest (IsUtf8-are_ascii (codes ",") refl) others.text;
}

item-before : (deep : ℕ) (p : Place) (text rest : List ℕ) (d : Data) (ds : List Data) → may_begin p ≡ true
    → ends_word rest ≡ true → begins_colon (lex between rest) ≡ false → ReadOf deep text d
    → ItemsRead deep after_value rest ds → ItemsRead deep p (text ++ rest) (d ∷ ds)
item-before deep p text rest d ds begins ended apart first others = record {
  these = json.item first.part others.these;
  spelt = ap (punctuate p) (outside rest ended text
      (lexemes_good (lex between text) fresh (ap all_good first.spelt ∙ good-json first.part)))
      ∙ value-then (lex between rest) apart (lex between text) p first.part
      (value-at p (lex between text) first.part begins first.spelt)
      ∙ ap (λ ts. json_tokens first.part ++ ts) others.spelt;
  shallow = omega (arith, first.shallow, others.shallow);
  fit = rw (first.fits, others.fit) refl;
  are = ap₂ item first.is others.are;
  text = IsUtf8-append text rest first.text others.text;
}

-- ---- the list

items-from : (deep : ℕ) (p : Place) (texts : List (List ℕ)) (ds : List Data) (text : List ℕ) (d : Data)
    → may_begin p ≡ true → data_within deep text ≡ Some d → map (data_within deep) texts ≡ map Some ds
    → ItemsRead deep p (between_commas (text ∷ texts) ++ codes "]") (d ∷ ds)
unfolding lex
items-from deep p [] [] text d begins is others =
    item-before deep p text (codes "]") d [] begins refl refl (read-of deep text d is)
    (no-items deep after_value refl)
items-from deep p [] (e ∷ ds) text d begins is others = cc
items-from deep p (next ∷ texts) [] text d begins is others = cc
items-from deep p (next ∷ texts) (e ∷ ds) text d begins is others =
    let rest = between_commas (next ∷ texts) ++ codes "]" in
    let second : data_within deep next ≡ Some e = cc in
    let behind : map (data_within deep) texts ≡ map Some ds = cc in
    subst (λ bytes. ItemsRead deep p bytes (d ∷ e ∷ ds))
    (sym (append_assoc text (44 ∷ between_commas (next ∷ texts)) (codes "]")))
    (item-before deep p text (44 ∷ rest) d (e ∷ ds) begins refl refl (read-of deep text d is)
    (behind-comma deep rest (e ∷ ds) (items-from deep after_comma texts ds next e refl second behind)))

items-read : (deep : ℕ) (texts : List (List ℕ)) (ds : List Data) → map (data_within deep) texts ≡ map Some ds
    → ItemsRead deep fresh (between_commas texts ++ codes "]") ds
items-read deep [] [] are = no-items deep fresh refl
items-read deep [] (d ∷ ds) are = cc
items-read deep (text ∷ texts) [] are = cc
items-read deep (text ∷ texts) (d ∷ ds) are =
    let first : data_within deep text ≡ Some d = cc in
    let others : map (data_within deep) texts ≡ map Some ds = cc in
    items-from deep fresh texts ds text d refl first others

list-tokens : (bytes : List ℕ) (js : json.Items) → punctuate fresh (lex between bytes) ≡ items_tokens js
    → tokens (codes "[" ++ bytes) ≡ json_tokens (json.array js)
unfolding lex punctuate
list-tokens bytes js is = ap (λ ts. begin_array ∷ ts) is

-- a list is what its items are, each read as a text of its own
pub list-by_items : (deep : ℕ) (texts : List (List ℕ)) (ds : List Data)
    → map (data_within deep) texts ≡ map Some ds
    → data_within (suc deep) (list_of texts) ≡ Some (array (items_of_data ds))
list-by_items deep texts ds are =
    let read = items-read deep texts ds are in
    let list = json.array read.these in
    let found : value (suc deep) (tokens (list_of texts)) ≡ Some (list, []) =
    ap (value (suc deep)) (list-tokens (between_commas texts ++ codes "]") read.these read.spelt
    ∙ sym (append-nil (json_tokens list)))
    ∙ value-json_tokens list (suc deep) [] (omega (arith, read.shallow)) in
    utf8-read (read_within (suc deep)) (list_of texts) _
    (IsUtf8-append (codes "[") (between_commas texts ++ codes "]") (IsUtf8-are_ascii (codes "[") refl) read.text)
    (ap (λ o. option_and_then of_json (option_and_then (λ p. if_last p.0 p.1) o)) found ∙ of_json-fits list
    ∙ ap (λ b. if_fits b (array (items_of read.these))) read.fit ∙ ap (λ l. Some (array l)) (sym read.are))
