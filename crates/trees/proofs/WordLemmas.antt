-- A number or a literal is the same word where an operator, a space or the end of a text follows it.
use Rattle.std.proofs.Common.{◌≡◌, ℕ, ◌+◌, ◌-◌, min, Bool, true, false, cond, ◌||◌, ◌==◌, List, [], ◌∷◌, ◌++◌}
use Rattle.std.proofs.Common.{length, take, drop, Option, Some, None, option_and_then, refl, sym, ap, ◌∙◌, arith}
use Rattle.std.proofs.Common.{append_assoc}
use Rattle.std.proofs.lemmas.Bool.{and_parts, false≢true}
use Rattle.std.proofs.lemmas.List.{drop-drop, drop_min, length-drop, take-append-drop}
use Rattle.std.proofs.lemmas.Slice.Eq.{bytes_eq-Decides}
use Rattle.std.specs.List.{prefix_len}
use Rattle.std.specs.Char.{is_ascii_digit}
use Rattle.json.specs.Token.{Token, boolean, null, number, bad}
use Rattle.json.specs.Ascii.{true_text, false_text, null_text}
use Rattle.json.specs.Word.{head, ends_word, after_digits, after_minus, after_sign}
use Rattle.json.specs.Word.{after_fraction, after_exponent, after_number, number_before, literal, word}
use Rattle.json.specs.Lex.{Lexeme, token, other, class, lex, lex_byte, between}
use Rattle.json.specs.Align.{is_good}
use Rattle.json.proofs.Printed.Numbers.{number_alone, lex-number}

-- ---- what stands behind a number is an end of the text

abbrev EndOf : List ℕ → List ℕ → Type 0
EndOf t r = (k : ℕ) × (r ≡ drop k t)

abbrev Leaves : List ℕ → Option (List ℕ) → Type 0
Leaves t None = Unit {0}
Leaves t (Some r) = EndOf t r

further : (t u : List ℕ) (o : Option (List ℕ)) → EndOf t u → Leaves u o → Leaves t o
further t u None e h = tt
further t u (Some r) e h = (e.0 + h.0, h.1 ∙ ap (drop h.0) e.1 ∙ drop-drop h.0 e.0 t)

either : (t : List ℕ) (b : Bool) (x y : Option (List ℕ)) → Leaves t x → Leaves t y → Leaves t (cond b x y)
either t true x y p q = p
either t false x y p q = q

optional : (t : List ℕ) (b : Bool) → EndOf t (cond b (drop 1 t) t)
optional t true = (1, refl)
optional t false = (0, refl)

digits : (t : List ℕ) → Leaves t (after_digits t)
digits t = either t (prefix_len is_ascii_digit t == 0) None _ tt (prefix_len is_ascii_digit t, refl)

then : (t : List ℕ) (f : List ℕ → Option (List ℕ)) → ((u : List ℕ) → Leaves u (f u)) → (o : Option (List ℕ))
    → Leaves t o → Leaves t (option_and_then f o)
then t f g None h = tt
then t f g (Some r) h = further t r (f r) h (g r)

fraction : (t : List ℕ) → Leaves t (after_fraction t)
fraction t = either t (head t == 46) _ (Some t) (further t (drop 1 t) _ (1, refl) (digits (drop 1 t))) (0, refl)

exponent : (t : List ℕ) → Leaves t (after_exponent t)
exponent t =
    let u = drop 1 t in
    either t ((head t == 101) || (head t == 69)) _ (Some t)
    (further t u _ (1, refl) (further u (after_sign u) _ (optional u _) (digits (after_sign u)))) (0, refl)

behind_number : (t : List ℕ) → Leaves t (after_number t)
unfolding after_number
behind_number t =
    let u = after_minus t in
    then t after_exponent exponent _ (then t after_fraction fraction _
    (further t u _ (optional t _) (either u (head u == 48) (Some (drop 1 u)) _ (1, refl) (digits u))))

front_and_rest : (t r : List ℕ) → EndOf t r → take (length t - length r) t ++ r ≡ t
front_and_rest t r e =
    let n : length t - length r ≡ min e.0 (length t) = omega (arith, ap length e.1, length-drop e.0 t) in
    ap (λ x. take (length t - length r) t ++ x) (e.1 ∙ sym (drop_min e.0 t) ∙ ap (λ k. drop k t) (sym n))
    ∙ take-append-drop _ t

-- ---- words

module _ (rest : List ℕ) (ended : ends_word rest ≡ true) where
  pub still_ends : (r : List ℕ) → ends_word r ≡ true → ends_word (r ++ rest) ≡ true
  still_ends [] h = ended
  still_ends (x ∷ r) h = h

  abbrev first_token : List Lexeme → Token
  first_token [] = bad
  first_token (token t ∷ ls) = t
  first_token (Lexeme.comma ∷ ls) = bad
  first_token (Lexeme.colon ∷ ls) = bad

  first_word : (x : ℕ) (xs : List ℕ) → class x ≡ other → first_token (lex between (x ∷ xs)) ≡ word (x ∷ xs)
  unfolding lex
  first_word x xs e = ap (λ c. first_token (lex_byte between c x xs (λ n. lex n xs))) e

  -- the number at the front stays the same
  number_stays : (x : ℕ) (xs r : List ℕ) → class x ≡ other → EndOf (x ∷ xs) r → after_number (x ∷ xs) ≡ Some r
      → ends_word r ≡ true → word ((x ∷ xs) ++ rest) ≡ number (take (length (x ∷ xs) - length r) (x ∷ xs))
  number_stays x xs r other_byte end found h =
      let t = x ∷ xs in
      let s = take (length t - length r) t in
      let whole = front_and_rest t r end in
      let text : s ++ (r ++ rest) ≡ t ++ rest = sym (append_assoc s r rest) ∙ ap (λ l. l ++ rest) whole in
      sym (first_word x (xs ++ rest) other_byte) ∙ ap (λ l. first_token (lex between l)) (sym text)
      ∙ ap first_token (lex-number s (r ++ rest) (number_alone s r h (ap after_number whole ∙ found)) (still_ends r h))

  passed : (b : Bool) (k : Token) → is_good (cond b k bad) ≡ true → b ≡ true
  passed true k h = refl
  passed false k h = h

  literal_stays : (name t : List ℕ) (k : Token)
      → ((r : List ℕ) → literal name k (name ++ r) ≡ cond (ends_word r) k bad)
      → is_good (literal name k t) ≡ true → literal name k (t ++ rest) ≡ literal name k t
  literal_stays name t k is h =
      let both = and_parts _ _ (passed _ k h) in
      let r = drop (length name) t in
      let front : name ≡ take (length name) t = (bytes_eq-Decides name (take (length name) t)).0 both.0 in
      let whole : t ≡ name ++ r = sym (take-append-drop (length name) t) ∙ ap (λ l. l ++ r) (sym front) in
      ap (λ l. literal name k (l ++ rest)) whole ∙ ap (literal name k) (append_assoc name r rest) ∙ is (r ++ rest)
      ∙ ap (λ b. cond b k bad) (still_ends r both.1 ∙ sym both.1) ∙ sym (is r) ∙ sym (ap (literal name k) whole)

  pick : (a b c : Bool) (p q r s t u v w : Token) → (is_good p ≡ true → t ≡ p) → (is_good q ≡ true → u ≡ q)
      → (is_good r ≡ true → v ≡ r) → (a ≡ false → b ≡ false → c ≡ false → is_good s ≡ true → w ≡ s)
      → is_good (cond a p (cond b q (cond c r s))) ≡ true
      → cond a t (cond b u (cond c v w)) ≡ cond a p (cond b q (cond c r s))
  pick true b c p q r s t u v w f g h i good = f good
  pick false true c p q r s t u v w f g h i good = g good
  pick false false true p q r s t u v w f g h i good = h good
  pick false false false p q r s t u v w f g h i good = i refl refl refl good

  -- a word that is read stays what it is
  pub word_stays : (x : ℕ) (xs : List ℕ) → class x ≡ other → is_good (word (x ∷ xs)) ≡ true
      → word ((x ∷ xs) ++ rest) ≡ word (x ∷ xs)
  unfolding word
  word_stays x xs other_byte =
      pick (x == 116) (x == 102) (x == 110) _ _ _ _ _ _ _ _ (literal_stays true_text t (boolean true) (λ r. refl))
      (literal_stays false_text t (boolean false) (λ r. refl)) (literal_stays null_text t null (λ r. refl))
      (λ a b c good. rw (a, b, c) at (a_number (after_number t) refl (behind_number t) good))
    where
      t : List ℕ
      t = x ∷ xs

      a_number : (o : Option (List ℕ)) → after_number (x ∷ xs) ≡ o → Leaves (x ∷ xs) o
          → is_good (number_before (x ∷ xs) o) ≡ true → word ((x ∷ xs) ++ rest) ≡ number_before (x ∷ xs) o
      a_number None e end good = absurd (false≢true good)
      a_number (Some r) e end good =
          let ends = passed (ends_word r) _ good in
          number_stays x xs r other_byte end e ends
          ∙ sym (ap (λ b. cond b (number (take (length (x ∷ xs) - length r) (x ∷ xs))) bad) ends)
