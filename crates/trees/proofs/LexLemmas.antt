-- The lexemes of a text with another behind it are those of the one and then those of the other, where none of the
-- first text's is bad and the other begins with an operator or a space.
use Rattle.std.proofs.Common.{◌≡◌, ℕ, Bool, true, false, cond, ◌&&◌, ◌==◌, nat_lt, List, [], ◌∷◌, ◌++◌}
use Rattle.std.proofs.Common.{Option, Some, None, is_some, option_and_then, refl, sym, ap, ap₂, ◌∙◌}
use Rattle.std.proofs.lemmas.Bool.{and_parts, false≢true, eqb-true}
use Rattle.std.specs.Char.{is_digit, encode_utf8}
use Rattle.json.specs.Text.{code_unit, short_escape, is_high_surrogate, is_low_surrogate, surrogate_pair, Within}
use Rattle.json.specs.Text.{plain, after_backslash, after_u, after_high, prepend, content}
use Rattle.json.specs.Word.{is_operator, is_space, ends_word, word}
use Rattle.json.specs.Lex.{Lexeme, token, comma, colon, Class, quote, backslash, operator, space, other, class}
use Rattle.json.specs.Lex.{operator_lexeme, string_token, Mode, between, in_word, in_string, in_escape, lex_byte, lex}
use Rattle.json.specs.Align.{is_good}
use Rattle.json.proofs.Printed.Numbers.{in_word-ended}
use Rattle.trees.proofs.WordLemmas.{word_stays}

-- no lexeme is bad
abbrev pub are_good : List Lexeme → Bool
are_good [] = true
are_good (token t ∷ ls) = is_good t && are_good ls
are_good (comma ∷ ls) = are_good ls
are_good (colon ∷ ls) = are_good ls

behind_good : (l : Lexeme) (ls : List Lexeme) → are_good (l ∷ ls) ≡ true → are_good ls ≡ true
behind_good (token t) ls h = (and_parts (is_good t) (are_good ls) h).1
behind_good comma ls h = h
behind_good colon ls h = h

-- ---- what a string has up to its end stays the same

abbrev Found : {A : Type 0} → Option A → Type 0
Found o = is_some o ≡ true

of_prepend : (bytes : List ℕ) (o : Option (List ℕ)) → Found (prepend bytes o) → Found o
of_prepend bytes None h = h
of_prepend bytes (Some s) h = refl

of_then : {A : Type 0} (f : ℕ → Option A) (o : Option ℕ) → Found (option_and_then f o) → Found o
of_then f None h = h
of_then f (Some u) h = refl

-- where one side of a test is found and stays, so does the test
stays_if : (b : Bool) (x y v w : Option (List ℕ)) → (b ≡ true → Found x → v ≡ x) → (b ≡ false → Found y → w ≡ y)
    → Found (cond b x y) → cond b v w ≡ cond b x y
stays_if true x y v w f g h = f refl h
stays_if false x y v w f g h = g refl h

stays_then : (f g : ℕ → Option (List ℕ)) (o : Option ℕ) → ((u : ℕ) → Found (f u) → g u ≡ f u)
    → Found (option_and_then f o) → option_and_then g o ≡ option_and_then f o
stays_then f g None h found = refl
stays_then f g (Some u) h found = h u found

module _ (rest : List ℕ) where
  behind_bytes : (bytes : List ℕ) (o p : Option (List ℕ)) → (Found o → p ≡ o) → Found (prepend bytes o)
      → prepend bytes p ≡ prepend bytes o
  behind_bytes bytes o p h found = ap (prepend bytes) (h (of_prepend bytes o found))

  content_stays : (w : Within) (xs : List ℕ) → Found (content w xs) → content w (xs ++ rest) ≡ content w xs
  unfolding content
  content_stays plain [] h = absurd (false≢true h)
  content_stays plain (x ∷ xs) h =
      stays_if (x == 34) _ _ _ _ (λ q found. refl) (λ q. stays_if (x == 92) _ _ _ _
      (λ b. content_stays after_backslash xs) (λ b. stays_if (nat_lt x 32) _ _ _ _ (λ l found. refl)
      (λ l. behind_bytes (x ∷ []) _ _ (content_stays plain xs)))) h
  content_stays after_backslash [] h = absurd (false≢true h)
  content_stays after_backslash (x ∷ xs) h =
      stays_if (x == 117) _ _ _ _ (λ u. content_stays after_u xs) (λ u. stays_then _ _ (short_escape x)
      (λ c. behind_bytes (c ∷ []) _ _ (content_stays plain xs))) h
  content_stays after_u [] h = absurd (false≢true h)
  content_stays after_u (a ∷ []) h = absurd (false≢true h)
  content_stays after_u (a ∷ b ∷ []) h = absurd (false≢true h)
  content_stays after_u (a ∷ b ∷ c ∷ []) h = absurd (false≢true h)
  content_stays after_u (a ∷ b ∷ c ∷ d ∷ xs) h =
      stays_then _ _ (code_unit a b c d) (λ u. stays_if (is_high_surrogate u) _ _ _ _
      (λ s. content_stays (after_high u) xs) (λ s. stays_if (is_low_surrogate u) _ _ _ _ (λ l found. refl)
      (λ l. behind_bytes (encode_utf8 u) _ _ (content_stays plain xs)))) h
  content_stays (after_high h) [] e = absurd (false≢true e)
  content_stays (after_high h) (s ∷ []) e = absurd (false≢true e)
  content_stays (after_high h) (s ∷ u ∷ []) e = absurd (false≢true e)
  content_stays (after_high h) (s ∷ u ∷ a ∷ []) e = absurd (false≢true e)
  content_stays (after_high h) (s ∷ u ∷ a ∷ b ∷ []) e = absurd (false≢true e)
  content_stays (after_high h) (s ∷ u ∷ a ∷ b ∷ c ∷ []) e = absurd (false≢true e)
  content_stays (after_high h) (s ∷ u ∷ a ∷ b ∷ c ∷ d ∷ xs) e =
      stays_if ((s == 92) && (u == 117)) _ _ _ _ (λ i. stays_then _ _ (code_unit a b c d)
      (λ l. stays_if (is_low_surrogate l) _ _ _ _
      (λ y. behind_bytes (encode_utf8 (surrogate_pair h l)) _ _ (content_stays plain xs)) (λ y found. refl)))
      (λ i found. refl) e

-- ---- the lexer in a string

abbrev mode : Within → Mode
mode plain = in_string
mode after_backslash = in_escape
mode after_u = in_string
mode (after_high h) = in_string

not_this : (c x : ℕ) (t : Bool) → (t ≡ true → x ≡ c) → is_digit c 16 ≡ false → is_digit x 16 ≡ true → t ≡ false
not_this c x false e never h = refl
not_this c x true e never h = absurd (false≢true (sym never ∙ ap (λ y. is_digit y 16) (sym (e refl)) ∙ h))

stays_inside : (o s : Bool) (x : ℕ) (xs : List ℕ) (k : Mode → List Lexeme)
    → lex_byte in_string (cond o operator (cond s space other)) x xs k ≡ k in_string
stays_inside true s x xs k = refl
stays_inside false true x xs k = refl
stays_inside false false x xs k = refl

-- a hex digit is neither a quote nor a backslash
lex-hex : (x : ℕ) (xs : List ℕ) → is_digit x 16 ≡ true → lex in_string (x ∷ xs) ≡ lex in_string xs
unfolding lex
lex-hex x xs h =
    rw (not_this 34 x (x == 34) (eqb-true x 34) refl h, not_this 92 x (x == 92) (eqb-true x 92) refl h)
    (stays_inside (is_operator x) (is_space x) x xs (λ n. lex n xs))

all_hex : (b : Bool) (u : ℕ) → Found (cond b (Some u) None) → b ≡ true
all_hex true u h = refl
all_hex false u h = h

lex-unit : (a b c d : ℕ) (xs : List ℕ) → Found (code_unit a b c d)
    → lex in_string (a ∷ b ∷ c ∷ d ∷ xs) ≡ lex in_string xs
unfolding code_unit
lex-unit a b c d xs h =
    let p = and_parts (is_digit a 16 && is_digit b 16 && is_digit c 16) (is_digit d 16) (all_hex _ _ h) in
    let q = and_parts (is_digit a 16 && is_digit b 16) (is_digit c 16) p.0 in
    let r = and_parts (is_digit a 16) (is_digit b 16) q.0 in
    lex-hex a (b ∷ c ∷ d ∷ xs) r.0 ∙ lex-hex b (c ∷ d ∷ xs) r.1 ∙ lex-hex c (d ∷ xs) q.1 ∙ lex-hex d xs p.1

lex-escape : (x : ℕ) (xs : List ℕ) → lex in_escape (x ∷ xs) ≡ lex in_string xs
unfolding lex
lex-escape x xs = refl

lex-backslash : (x : ℕ) (xs : List ℕ) → (x == 92) ≡ true → lex in_string (x ∷ xs) ≡ lex in_escape xs
unfolding lex
lex-backslash x xs b = ap (λ y. lex in_string (y ∷ xs)) (eqb-true x 92 b)

-- ---- texts one behind the other

module _ (rest : List ℕ) (ended : ends_word rest ≡ true) where
  abbrev Splits : Mode → List ℕ → Type 0
  Splits m xs = are_good (lex m xs) ≡ true → lex m (xs ++ rest) ≡ lex m xs ++ lex between rest

  -- the same, from m at xs, as from n at ys
  as_from : (m n : Mode) (xs ys : List ℕ) → lex m xs ≡ lex n ys → lex m (xs ++ rest) ≡ lex n (ys ++ rest)
      → Splits n ys → Splits m xs
  as_from m n xs ys e f h good =
      f ∙ h (ap are_good (sym e) ∙ good) ∙ ap (λ l. l ++ lex between rest) (sym e)

  by_class : (c : Class) (x : ℕ) (xs : List ℕ)
      → (c ≡ other → is_good (word (x ∷ xs)) ≡ true → word ((x ∷ xs) ++ rest) ≡ word (x ∷ xs))
      → (Found (content plain xs) → Splits in_string xs) → Splits between xs → Splits in_word xs
      → are_good (lex_byte between c x xs (λ n. lex n xs)) ≡ true
      → lex_byte between c x (xs ++ rest) (λ n. lex n (xs ++ rest))
      ≡ lex_byte between c x xs (λ n. lex n xs) ++ lex between rest
  by_class quote x xs words strings marks letters good =
      let both = and_parts (is_good (string_token (content plain xs))) (are_good (lex in_string xs)) good in
      let found = a_string (content plain xs) both.0 in
      ap₂ (λ o ls. token (string_token o) ∷ ls) (content_stays rest plain xs found) (strings found both.1)
    where
      a_string : (o : Option (List ℕ)) → is_good (string_token o) ≡ true → Found o
      a_string None h = h
      a_string (Some s) h = refl
  by_class backslash x xs words strings marks letters good = absurd (false≢true good)
  by_class operator x xs words strings marks letters good =
      ap (λ ls. operator_lexeme x ∷ ls) (marks (behind_good (operator_lexeme x) (lex between xs) good))
  by_class space x xs words strings marks letters good = marks good
  by_class other x xs words strings marks letters good =
      let both = and_parts (is_good (word (x ∷ xs))) (are_good (lex in_word xs)) good in
      ap₂ (λ w ls. token w ∷ ls) (words refl both.0) (letters both.1)

  in_letters : (c : Class) (x : ℕ) (xs : List ℕ) → Splits between xs → Splits in_word xs
      → are_good (lex_byte in_word c x xs (λ n. lex n xs)) ≡ true
      → lex_byte in_word c x (xs ++ rest) (λ n. lex n (xs ++ rest))
      ≡ lex_byte in_word c x xs (λ n. lex n xs) ++ lex between rest
  in_letters quote x xs marks letters good = letters good
  in_letters backslash x xs marks letters good = letters good
  in_letters operator x xs marks letters good =
      ap (λ ls. operator_lexeme x ∷ ls) (marks (behind_good (operator_lexeme x) (lex between xs) good))
  in_letters space x xs marks letters good = marks good
  in_letters other x xs marks letters good = letters good

  in_text : (q b o s l : Bool) (x : ℕ) (xs : List ℕ)
      → Found (cond q (Some []) (cond b (content after_backslash xs)
      (cond l None (prepend (x ∷ []) (content plain xs)))))
      → Splits between xs → (Found (content after_backslash xs) → Splits in_escape xs)
      → (Found (content plain xs) → Splits in_string xs)
      → are_good (lex_byte in_string (cond q quote (cond b backslash (cond o operator (cond s space other)))) x xs
      (λ n. lex n xs)) ≡ true
      → lex_byte in_string (cond q quote (cond b backslash (cond o operator (cond s space other)))) x (xs ++ rest)
      (λ n. lex n (xs ++ rest))
      ≡ lex_byte in_string (cond q quote (cond b backslash (cond o operator (cond s space other)))) x xs
      (λ n. lex n xs) ++ lex between rest
  in_text true b o s l x xs h outside escaped inside good = outside good
  in_text false true o s l x xs h outside escaped inside good = escaped h good
  in_text false false o s true x xs h outside escaped inside good = absurd (false≢true h)
  in_text false false true s false x xs h outside escaped inside good = inside (of_prepend (x ∷ []) _ h) good
  in_text false false false true false x xs h outside escaped inside good = inside (of_prepend (x ∷ []) _ h) good
  in_text false false false false false x xs h outside escaped inside good = inside (of_prepend (x ∷ []) _ h) good

  escaped_byte : (b : Bool) (o : Option ℕ) (xs : List ℕ)
      → Found (cond b (content after_u xs) (option_and_then (λ c. prepend (c ∷ []) (content plain xs)) o))
      → (Found (content after_u xs) → Splits in_string xs) → (Found (content plain xs) → Splits in_string xs)
      → Splits in_string xs
  escaped_byte true o xs h f g = f h
  escaped_byte false None xs h f g = absurd (false≢true h)
  escaped_byte false (Some c) xs h f g = g (of_prepend (c ∷ []) _ h)

  after_unit : (o : Option ℕ) (xs : List ℕ)
      → Found (option_and_then (λ u. cond (is_high_surrogate u) (content (after_high u) xs)
      (cond (is_low_surrogate u) None (prepend (encode_utf8 u) (content plain xs)))) o)
      → ((u : ℕ) → Found (content (after_high u) xs) → Splits in_string xs)
      → (Found (content plain xs) → Splits in_string xs) → Splits in_string xs
  after_unit None xs h f g = absurd (false≢true h)
  after_unit (Some u) xs h f g = go (is_high_surrogate u) (is_low_surrogate u) h
    where
      go : (a b : Bool) → Found (cond a (content (after_high u) xs)
          (cond b None (prepend (encode_utf8 u) (content plain xs)))) → Splits in_string xs
      go true b h = f u h
      go false true h = absurd (false≢true h)
      go false false h = g (of_prepend (encode_utf8 u) _ h)

  record Paired (s u a b c d : ℕ) (xs : List ℕ) : Type 0 where
    backslash : (s == 92) ≡ true
    unit : Found (code_unit a b c d)
    behind : Found (content plain xs)

  paired : (h s u a b c d : ℕ) (xs : List ℕ) → Found (content (after_high h) (s ∷ u ∷ a ∷ b ∷ c ∷ d ∷ xs))
      → Paired s u a b c d xs
  unfolding content
  paired h s u a b c d xs = go ((s == 92) && (u == 117)) refl
    where
      low : (o : Option ℕ) → Found (option_and_then (λ l. cond (is_low_surrogate l)
          (prepend (encode_utf8 (surrogate_pair h l)) (content plain xs)) None) o)
          → Found o × Found (content plain xs)
      low None found = absurd (false≢true found)
      low (Some l) found = (refl, half (is_low_surrogate l) found)
        where
          half : (b : Bool) → Found (cond b (prepend (encode_utf8 (surrogate_pair h l)) (content plain xs)) None)
              → Found (content plain xs)
          half true found = of_prepend (encode_utf8 (surrogate_pair h l)) _ found
          half false found = absurd (false≢true found)

      go : (i : Bool) → ((s == 92) && (u == 117)) ≡ i → Found (cond i (option_and_then (λ l. cond (is_low_surrogate l)
          (prepend (encode_utf8 (surrogate_pair h l)) (content plain xs)) None) (code_unit a b c d)) None)
          → Paired s u a b c d xs
      go true e found =
          let parts = low (code_unit a b c d) found in
          record { backslash = (and_parts (s == 92) (u == 117) e).0; unit = parts.0; behind = parts.1 }
      go false e found = absurd (false≢true found)

  mutual
    unfolding lex content

    pub outside : (xs : List ℕ) → Splits between xs
    outside [] good = refl
    outside (x ∷ xs) good =
        by_class (class x) x xs (word_stays rest ended x xs) (inside plain xs) (outside xs) (in_letter xs) good

    in_letter : (xs : List ℕ) → Splits in_word xs
    in_letter [] good = in_word-ended rest ended
    in_letter (x ∷ xs) good = in_letters (class x) x xs (outside xs) (in_letter xs) good

    inside : (w : Within) (xs : List ℕ) → Found (content w xs) → Splits (mode w) xs
    inside plain [] h = absurd (false≢true h)
    inside plain (x ∷ xs) h = in_text (x == 34) (x == 92) (is_operator x) (is_space x) (nat_lt x 32) x xs h
        (outside xs) (inside after_backslash xs) (inside plain xs)
    inside after_backslash [] h = absurd (false≢true h)
    inside after_backslash (x ∷ xs) h =
        as_from in_escape in_string (x ∷ xs) xs (lex-escape x xs) (lex-escape x (xs ++ rest))
        (escaped_byte (x == 117) (short_escape x) xs h (inside after_u xs) (inside plain xs))
    inside after_u [] h = absurd (false≢true h)
    inside after_u (a ∷ []) h = absurd (false≢true h)
    inside after_u (a ∷ b ∷ []) h = absurd (false≢true h)
    inside after_u (a ∷ b ∷ c ∷ []) h = absurd (false≢true h)
    inside after_u (a ∷ b ∷ c ∷ d ∷ xs) h =
        let unit = of_then _ (code_unit a b c d) h in
        as_from in_string in_string (a ∷ b ∷ c ∷ d ∷ xs) xs (lex-unit a b c d xs unit)
        (lex-unit a b c d (xs ++ rest) unit)
        (after_unit (code_unit a b c d) xs h (λ u. inside (after_high u) xs) (inside plain xs))
    inside (after_high h) [] e = absurd (false≢true e)
    inside (after_high h) (s ∷ []) e = absurd (false≢true e)
    inside (after_high h) (s ∷ u ∷ []) e = absurd (false≢true e)
    inside (after_high h) (s ∷ u ∷ a ∷ []) e = absurd (false≢true e)
    inside (after_high h) (s ∷ u ∷ a ∷ b ∷ []) e = absurd (false≢true e)
    inside (after_high h) (s ∷ u ∷ a ∷ b ∷ c ∷ []) e = absurd (false≢true e)
    inside (after_high h) (s ∷ u ∷ a ∷ b ∷ c ∷ d ∷ xs) e =
        let p = paired h s u a b c d xs e in
        let skip = λ (ys : List ℕ). lex-backslash s (u ∷ a ∷ b ∷ c ∷ d ∷ ys) p.backslash
        ∙ lex-escape u (a ∷ b ∷ c ∷ d ∷ ys) ∙ lex-unit a b c d ys p.unit in
        as_from in_string in_string (s ∷ u ∷ a ∷ b ∷ c ∷ d ∷ xs) xs (skip xs) (skip (xs ++ rest))
        (inside plain xs p.behind)
