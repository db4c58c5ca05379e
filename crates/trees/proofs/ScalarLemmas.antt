-- A plain text between quotes and the words of JSON, each read on its own.
use Rattle.std.proofs.Common.{◌≡◌, ℕ, ◌≤◌, true, false, List, [], ◌∷◌, ◌++◌, Some, option_and_then, refl, sym}
use Rattle.std.proofs.Common.{ap, ◌∙◌, arith, append-nil, IsUtf8}
use Rattle.std.specs.Prelude.{codes}
use Rattle.std.proofs.lemmas.Str.{IsUtf8-append}
use Rattle.json.specs.Lex.{lex, fresh, punctuate, tokens}
use Rattle.json.specs.Word.{word}
use Rattle.json.specs.Json.{Json, value, if_last}
use Rattle.json.specs.Json as json
use Rattle.json.specs.Tree.{json_tokens, depth}
use Rattle.json.proofs.Printed.Trees.{value-json_tokens}
use Rattle.json.proofs.Printed.Utf8.{IsUtf8-are_ascii}
use Rattle.serde_json.specs.Data.{boolean, null, string}
use Rattle.serde_json.specs.Read.{of_json}
use Rattle.model.proofs.Utf8.{utf8-read}
use Rattle.trees.specs.inner.Parts.{data_within, is_plain, read_within}
use Rattle.trees.specs.Trees.{data_of, numbers_fit}
use Rattle.trees.proofs.PartsLemmas.{ascii_plain, lex-plain}
use Rattle.trees.proofs.TreeLemmas.{if_fits, of_json-fits}

-- a text of the tokens of one value is read as that, if it nests no deeper than may be
one-value : (deep : ℕ) (bytes : List ℕ) (j : Json) → IsUtf8 bytes → tokens bytes ≡ json_tokens j
    → depth j ≤ deep → numbers_fit j ≡ true → data_within deep bytes ≡ Some (data_of j)
one-value deep bytes j text spelt shallow fits =
    let found : value deep (tokens bytes) ≡ Some (j, []) =
    ap (value deep) (spelt ∙ sym (append-nil (json_tokens j))) ∙ value-json_tokens j deep [] shallow in
    utf8-read (read_within deep) bytes _ text
    (ap (λ o. option_and_then of_json (option_and_then (λ p. if_last p.0 p.1) o)) found ∙ of_json-fits j
    ∙ ap (λ b. if_fits b (data_of j)) fits)

text-tokens : (text : List ℕ) → is_plain text ≡ true
    → tokens (34 ∷ (text ++ (34 ∷ []))) ≡ json_tokens (json.string text)
unfolding lex punctuate
text-tokens text plain = ap (punctuate fresh) (lex-plain text [] plain)

pub plain-text : (deep : ℕ) (text : List ℕ) → is_plain text ≡ true
    → data_within deep (34 ∷ (text ++ (34 ∷ []))) ≡ Some (string text)
plain-text deep text plain =
    one-value deep (34 ∷ (text ++ (34 ∷ []))) (json.string text)
    (IsUtf8-append (codes "\"") _ (IsUtf8-are_ascii (codes "\"") refl)
    (IsUtf8-append text (codes "\"") (IsUtf8-are_ascii text (ascii_plain text plain))
    (IsUtf8-are_ascii (codes "\"") refl)))
    (text-tokens text plain) (omega arith) refl

-- ---- words

true-tokens : tokens (codes "true") ≡ json_tokens (json.boolean true)
unfolding lex punctuate word
true-tokens = refl

false-tokens : tokens (codes "false") ≡ json_tokens (json.boolean false)
unfolding lex punctuate word
false-tokens = refl

null-tokens : tokens (codes "null") ≡ json_tokens json.null
unfolding lex punctuate word
null-tokens = refl

pub plain-true : (deep : ℕ) → data_within deep (codes "true") ≡ Some (boolean true)
plain-true deep = one-value deep (codes "true") (json.boolean true) (IsUtf8-are_ascii (codes "true") refl) true-tokens
    (omega arith) refl

pub plain-false : (deep : ℕ) → data_within deep (codes "false") ≡ Some (boolean false)
plain-false deep = one-value deep (codes "false") (json.boolean false) (IsUtf8-are_ascii (codes "false") refl)
    false-tokens (omega arith) refl

pub plain-null : (deep : ℕ) → data_within deep (codes "null") ≡ Some null
plain-null deep = one-value deep (codes "null") json.null (IsUtf8-are_ascii (codes "null") refl) null-tokens
    (omega arith) refl
