-- No more text is left after a key, a string or a scalar than was there, and no key has many parts.
use Rattle.std.proofs.Common.{◌≡◌, ℕ, zero, suc, ◌+◌, ◌<◌, ◌≤◌, Bool, true, false, cond, ◌==◌, ◌&&◌, List, [], ◌∷◌}
use Rattle.std.proofs.Common.{◌++◌}
use Rattle.std.proofs.Common.{length, drop, slice_index, nat_lt, Option, Some, None, is_some, unwrap_or, option_map}
use Rattle.std.proofs.Common.{option_and_then, encode_utf8, arith, eqb-true, length-append}
use Rattle.std.proofs.lemmas.List.{length-drop}
use Rattle.std.specs.List.{prefix_len}
use Rattle.toml_parser.specs.Lexical.{Read, dot, backslash, line_feed, first, is_bare, is_ws}
use Rattle.toml_parser.specs.Lexical.{split_while}
use Rattle.toml_parser.specs.Lexical.{skip_ws, skip_turn, skip_from, starts_newline}
use Rattle.toml_parser.specs.Strings.{hex_len, hex_escape, escape_char, escape, is_plain, at_delims, special, prepend}
use Rattle.toml_parser.specs.Strings.{after_piece, body, trim_newline, one_line, quoted, starts_string, simple_key}
use Rattle.toml_parser.specs.Strings.{Key, key_after, key, simple_escape}
use Rattle.toml_parser.specs.Numbers.{word_len, word_value, unquoted}
use Rattle.toml_parser.specs.declared.scalar.Scalar.{Scalar}

-- what holds of what is there, if it is
abbrev pub If : {A : Type 0} → (A → Type 0) → Option A → Type 0
If P None = Unit {0}
If P (Some x) = P x

module _ {A B : Type 0} (P : A → Type 0) where
  pub if_then : (Q : B → Type 0) (f : A → Option B) (o : Option A) → If P o → ((x : A) → P x → If Q (f x))
      → If Q (option_and_then f o)
  if_then Q f None h g = tt
  if_then Q f (Some x) h g = g x h

  pub if_map : (Q : B → Type 0) (f : A → B) (o : Option A) → If P o → ((x : A) → P x → Q (f x)) → If Q (option_map f o)
  if_map Q f None h g = tt
  if_map Q f (Some x) h g = g x h

pub if_weaker : {A : Type 0} (P Q : A → Type 0) (o : Option A) → If P o → ((x : A) → P x → Q x) → If Q o
if_weaker P Q None h g = tt
if_weaker P Q (Some x) h g = g x h

-- no more text is left than was there
abbrev pub IsLeft : {A : Type 0} → List ℕ → A × List ℕ → Type 0
IsLeft text p = length p.1 ≤ length text

pub drop-short : (n : ℕ) (text : List ℕ) → length (drop n text) ≤ length text
drop-short n text = omega (arith, length-drop n text)

pub ws-short : (text : List ℕ) → length (skip_ws text) ≤ length text
unfolding skip_ws
ws-short text = drop-short (prefix_len is_ws text) text

pub skip-short : (comments inside : Bool) (text : List ℕ) → length (skip_from comments inside text) ≤ length text
unfolding skip_from
skip-short comments inside [] = omega arith
skip-short comments inside (c ∷ cs) =
    by (is_some (skip_turn comments inside c (first cs)))
    (skip-short comments (unwrap_or (skip_turn comments inside c (first cs)) false) cs)
  where
    by : (b : Bool)
        → length (skip_from comments (unwrap_or (skip_turn comments inside c (first cs)) false) cs) ≤ length cs
        → length (cond b (skip_from comments (unwrap_or (skip_turn comments inside c (first cs)) false) cs) (c ∷ cs))
        ≤ suc (length cs)
    by true h = omega (arith, h)
    by false h = omega arith

-- ---- strings

hex-left : (n : ℕ) (text : List ℕ) → If (IsLeft text) (hex_escape n text)
unfolding hex_escape
hex-left n text = by _ _
  where
    by : (b : Bool) (c : ℕ) → If (IsLeft text) (cond b (Some (c, drop n text)) None)
    by true c = drop-short n text
    by false c = tt

char-left : (text : List ℕ) → If (IsLeft text) (escape_char text)
unfolding escape_char
char-left text = by (nat_lt 0 (hex_len (first text)))
  where
    by : (b : Bool) → If (IsLeft text) (cond b (hex_escape (hex_len (first text)) (drop 1 text))
        (option_map (λ c. (c, drop 1 text)) (simple_escape (first text))))
    by true = if_weaker (IsLeft (drop 1 text)) (IsLeft text) (hex_escape (hex_len (first text)) (drop 1 text))
        (hex-left (hex_len (first text)) (drop 1 text)) (λ p h. omega (arith, h, drop-short 1 text))
    by false = if_map (λ c. Unit {0}) (IsLeft text) (λ c. (c, drop 1 text)) (simple_escape (first text))
        (always (simple_escape (first text))) (λ c h. drop-short 1 text)
      where
        always : (o : Option ℕ) → If (λ c. Unit {0}) o
        always None = tt
        always (Some c) = tt

escape-left : (multi : Bool) (text : List ℕ) → If (IsLeft text) (escape multi text)
unfolding escape
escape-left multi text = by (multi && starts_newline (skip_ws text))
  where
    by : (b : Bool) → If (IsLeft text) (cond b (Some ([], skip_from false false text))
        (option_map (λ p. (encode_utf8 p.0, p.1)) (escape_char text)))
    by true = skip-short false false text
    by false = if_map (IsLeft text) (IsLeft text) (λ p. (encode_utf8 p.0, p.1)) (escape_char text) (char-left text)
        (λ p h. h)

delims-left : (delim : ℕ) (text : List ℕ) → If (IsLeft text) (at_delims delim text)
delims-left delim text = by (prefix_len (λ c. c == delim) text == 3) (nat_lt (prefix_len (λ c. c == delim) text) 6)
  where
    by : (b c : Bool) → If (IsLeft text) (cond b (Some (None, drop 3 text))
        (cond c (Some (Some (delim ∷ []), drop 1 text)) None))
    by true c = drop-short 3 text
    by false true = drop-short 1 text
    by false false = tt

special-left : (delim : ℕ) (multi : Bool) (text : List ℕ) → If (IsLeft text) (special delim multi text)
unfolding special
special-left delim multi text = by (first text == delim) multi (first text == backslash)
    (multi && starts_newline text)
  where
    by : (a b c d : Bool) → If (IsLeft text) (cond a (cond b (at_delims delim text) (Some (None, drop 1 text)))
        (cond c (option_map (λ p. (Some p.0, p.1)) (escape multi (drop 1 text)))
        (cond d (Some (Some (first text ∷ []), drop 1 text)) None)))
    by true true c d = delims-left delim text
    by true false c d = drop-short 1 text
    by false b true d =
        if_map (IsLeft (drop 1 text)) (IsLeft text) (λ p. (Some p.0, p.1)) (escape multi (drop 1 text))
        (escape-left multi (drop 1 text)) (λ p h. omega (arith, h, drop-short 1 text))
    by false b false true = drop-short 1 text
    by false b false false = tt

prepend-left : (front text : List ℕ) (r : Read (List ℕ)) → If (IsLeft text) r → If (IsLeft text) (prepend front r)
prepend-left front text r h = if_map (IsLeft text) (IsLeft text) (λ p. (front ++ p.0, p.1)) r h (λ p h. h)

piece-left : (delim : ℕ) (multi : Bool) (n : ℕ) (o : Option (List ℕ)) (rest text : List ℕ) → length rest ≤ length text
    → If (IsLeft rest) (body delim multi n rest) → If (IsLeft text) (after_piece (body delim multi n) o rest)
piece-left delim multi n None rest text h more = h
piece-left delim multi n (Some bytes) rest text h more = prepend-left bytes text (body delim multi n rest)
    (if_weaker (IsLeft rest) (IsLeft text) (body delim multi n rest) more (λ p g. omega (arith, h, g)))

body-left : (delim : ℕ) (multi : Bool) (n : ℕ) (text : List ℕ) → If (IsLeft text) (body delim multi n text)
unfolding body
body-left delim multi zero text = tt
body-left delim multi (suc n) text =
    by (λ o rest h. piece-left delim multi n o rest text h (body-left delim multi n rest))
    (is_plain delim multi (first text))
  where
    by : ((o : Option (List ℕ)) (rest : List ℕ) → length rest ≤ length text
        → If (IsLeft text) (after_piece (body delim multi n) o rest))
        → (b : Bool)
        → If (IsLeft text) (cond b (prepend (first text ∷ []) (body delim multi n (drop 1 text)))
        (option_and_then (λ p. after_piece (body delim multi n) p.0 p.1) (special delim multi text)))
    by piece true = piece (Some (first text ∷ [])) (drop 1 text) (drop-short 1 text)
    by piece false = if_then (IsLeft text) (IsLeft text) (λ p. after_piece (body delim multi n) p.0 p.1)
        (special delim multi text) (special-left delim multi text) (λ p h. piece p.0 p.1 h)

one_line-left : (text : List ℕ) → If (IsLeft text) (one_line text)
unfolding one_line
one_line-left text =
    if_weaker (IsLeft (drop 1 text)) (IsLeft text) (body (first text) false (length text) (drop 1 text))
    (body-left (first text) false (length text) (drop 1 text)) (λ p h. omega (arith, h, drop-short 1 text))

trim-short : (text : List ℕ) → length (trim_newline text) ≤ length text
trim-short text = by (first text == line_feed) (starts_newline text)
  where
    by : (b c : Bool) → length (cond b (drop 1 text) (cond c (drop 2 text) text)) ≤ length text
    by true c = drop-short 1 text
    by false true = drop-short 2 text
    by false false = omega arith

pub quoted-left : (text : List ℕ) → If (IsLeft text) (quoted text)
unfolding quoted
quoted-left text = by (slice_index text 1 == first text && slice_index text 2 == first text)
  where
    by : (b : Bool) → If (IsLeft text)
        (cond b (body (first text) true (length text) (trim_newline (drop 3 text))) (one_line text))
    by true = if_weaker (IsLeft (trim_newline (drop 3 text))) (IsLeft text)
        (body (first text) true (length text) (trim_newline (drop 3 text)))
        (body-left (first text) true (length text) (trim_newline (drop 3 text)))
        (λ p h. omega (arith, h, trim-short (drop 3 text), drop-short 3 text))
    by false = one_line-left text

pub unquoted-left : (text : List ℕ) → If (IsLeft text) (unquoted text)
unfolding unquoted
unquoted-left text = by (word_len text == 0) (word_value _)
  where
    by : (b : Bool) (o : Option Scalar)
        → If (IsLeft text) (cond b None (option_map (λ d. (d, drop (word_len text) text)) o))
    by true o = tt
    by false None = tt
    by false (Some d) = drop-short (word_len text) text

-- ---- keys

part-left : (text : List ℕ) → If (IsLeft text) (simple_key text)
unfolding simple_key
part-left text = by (starts_string text) (is_bare (first text))
  where
    by : (b c : Bool) → If (IsLeft text) (cond b (one_line text) (cond c (Some (split_while is_bare text)) None))
    by true c = one_line-left text
    by false true = drop-short (prefix_len is_bare text) text
    by false false = tt

-- no more text is left, and the key has at most so many parts before the last
pub record IsKeyLeft (most : ℕ) (text : List ℕ) (p : Key × List ℕ) : Type 0 where
  pub short : length p.1 ≤ length text
  pub few : length p.0.0 ≤ most

key-after : (n : ℕ) (path : List (List ℕ)) (text : List ℕ)
    → If (IsKeyLeft (n + length path) text) (key_after n path text)
unfolding key_after
key-after zero path text = tt
key-after (suc n) path text =
    if_then (IsLeft text) (IsKeyLeft (suc n + length path) text) _ (simple_key text) (part-left text)
    (λ part h. by part.0 (skip_ws part.1) (omega (arith, h, ws-short part.1))
    (key-after n (path ++ part.0 ∷ []) (skip_ws (drop 1 (skip_ws part.1)))) (first (skip_ws part.1) == dot))
  where
    by : (part rest : List ℕ) → length rest ≤ length text
        → If (IsKeyLeft (n + length (path ++ part ∷ [])) (skip_ws (drop 1 rest)))
        (key_after n (path ++ part ∷ []) (skip_ws (drop 1 rest))) → (b : Bool)
        → If (IsKeyLeft (suc n + length path) text)
        (cond b (key_after n (path ++ part ∷ []) (skip_ws (drop 1 rest))) (Some ((path, part), rest)))
    by part rest h more true =
        let after = skip_ws (drop 1 rest) in
        let one : length (path ++ part ∷ []) ≡ length path + 1 = length-append path (part ∷ []) in
        if_weaker (IsKeyLeft (n + length (path ++ part ∷ [])) after) (IsKeyLeft (suc n + length path) text)
        (key_after n (path ++ part ∷ []) after) more
        (λ p k. record {
          short = omega (arith, k.short, h, ws-short (drop 1 rest), drop-short 1 rest);
          few = omega (arith, k.few, one);
        })
    by part rest h more false = record { short = h; few = omega arith }

pub key-left : (text : List ℕ) → If (IsKeyLeft 80 text) (key text)
key-left text = if_weaker (IsKeyLeft (80 + 0) text) (IsKeyLeft 80 text) (key text) (key-after 80 [] text)
    (λ p k. record { short = k.short; few = omega (arith, k.few) })
