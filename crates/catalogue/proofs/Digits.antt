-- Digits of bytes, one byte after the other.
use Rattle.std.proofs.Common.{◌≡◌, ◌≢◌, ℕ, ◌+◌, ◌*◌, ◌/◌, ◌%◌, ◌<◌, ◌≤◌, ◌&&◌, nat_eq, Bool, false, true, List, [], ◌∷◌}
use Rattle.std.proofs.Common.{◌++◌, length, take, drop, slice_index, slice_set, refl, sym, ap, ap₂, ◌∙◌, arith}
use Rattle.std.proofs.Common.{true≢false}
use Rattle.std.proofs.lemmas.List.{append_assoc, drop_all, drop_more, take_all, take_more, take_more_set}
use Rattle.std.proofs.lemmas.List.Folds.{list_all_at}
use Rattle.std.specs.List.{list_all}
use Rattle.std.specs.Cmp.Lexicographic.{unequal}
use Rattle.model.specs.Summary.{same_text}
use Rattle.index_lines.specs.Records.{is_hexadecimal}
use Rattle.catalogue.specs.inner.Checksums.{digit, digits_of}

-- the digits of a byte
abbrev pub pair : ℕ → List ℕ
pair b = digit (b / 16) ∷ digit (b % 16) ∷ []

length-digits_of : (bytes : List ℕ) → length (digits_of bytes) ≡ 2 * length bytes
unfolding digits_of
length-digits_of [] = refl
length-digits_of (b ∷ bs) = let rest = length-digits_of bs in omega (arith, rest)

digits_of-snoc : (bs : List ℕ) (b : ℕ) → digits_of (bs ++ b ∷ []) ≡ digits_of bs ++ pair b
unfolding digits_of
digits_of-snoc [] b = refl
digits_of-snoc (a ∷ bs) b = ap (λ ds. digit (a / 16) ∷ digit (a % 16) ∷ ds) (digits_of-snoc bs b)

-- one byte more is written
pub written-more : (bytes old mid new : List ℕ) (i : ℕ) → i < length bytes
    → mid ≡ old ++ digit (slice_index bytes i / 16) ∷ [] → new ≡ mid ++ digit (slice_index bytes i % 16) ∷ []
    → old ≡ digits_of (take i bytes) → new ≡ digits_of (take (i + 1) bytes)
written-more bytes old mid new i h high low so_far =
    let b = slice_index bytes i in
    low ∙ ap (λ ds. ds ++ digit (b % 16) ∷ []) (high ∙ ap (λ ds. ds ++ digit (b / 16) ∷ []) so_far)
    ∙ append_assoc (digits_of (take i bytes)) (digit (b / 16) ∷ []) (digit (b % 16) ∷ [])
    ∙ sym (ap digits_of (take_more bytes i 0 h) ∙ digits_of-snoc (take i bytes) b)

take-pair : (text : List ℕ) (i : ℕ) → 2 * i + 1 < length text
    → take (2 * (i + 1)) text ≡ take (2 * i) text ++ slice_index text (2 * i) ∷ slice_index text (2 * i + 1) ∷ []
take-pair text i h =
    let two : 2 * (i + 1) ≡ 2 * i + 1 + 1 = omega arith in
    let second = take_more text (2 * i + 1) 0 h in
    let first = take_more text (2 * i) 0 (omega arith) in
    rw (two, second, first)
    (append_assoc (take (2 * i) text) (slice_index text (2 * i) ∷ []) (slice_index text (2 * i + 1) ∷ []))

drop-pair : (text : List ℕ) (i : ℕ) → 2 * i + 1 < length text
    → drop (2 * i) text ≡ slice_index text (2 * i) ∷ slice_index text (2 * i + 1) ∷ drop (2 * (i + 1)) text
drop-pair text i h =
    let first = drop_more text (2 * i) 0 (omega arith) in
    let second = drop_more text (2 * i + 1) 0 h in
    let two : 2 * i + 1 + 1 ≡ 2 * (i + 1) = omega arith in
    rw (first, second, two) refl

-- each byte of digits is one
pub digit-at : (text : List ℕ) (i : ℕ) → i < length text → list_all is_hexadecimal text ≡ true
    → is_hexadecimal (slice_index text i) ≡ true
digit-at text i h all = by (is_hexadecimal (slice_index text i)) refl
  where
    by : (b : Bool) → is_hexadecimal (slice_index text i) ≡ b → b ≡ true
    by true e = refl
    by false e = absurd (true≢false (sym all ∙ list_all_at is_hexadecimal text i 0 h e))

-- one byte more is read
pub read-more : (bytes text : List ℕ) (i b : ℕ) → i < length bytes → 2 * i + 1 < length text
    → digit (b / 16) ≡ slice_index text (2 * i) → digit (b % 16) ≡ slice_index text (2 * i + 1)
    → digits_of (take i bytes) ≡ take (2 * i) text
    → digits_of (take (i + 1) (slice_set bytes i b)) ≡ take (2 * (i + 1)) text
read-more bytes text i b h few high low so_far =
    ap digits_of (take_more_set bytes i b h) ∙ digits_of-snoc (take i bytes) b
    ∙ ap₂ (λ front both. front ++ both) so_far (ap₂ (λ x y. x ∷ y ∷ []) high low) ∙ sym (take-pair text i few)

-- all bytes are read
pub all-read : (bytes text : List ℕ) (i : ℕ) → length bytes ≡ 32 → length text ≡ 64 → 32 ≤ i
    → digits_of (take i bytes) ≡ take (2 * i) text → digits_of bytes ≡ text
all-read bytes text i long few done so_far =
    ap digits_of (sym (take_all i bytes (omega arith))) ∙ so_far ∙ take_all (2 * i) text (omega arith)

and_assoc : (a b c : Bool) → (a && (b && c)) ≡ ((a && b) && c)
and_assoc true b c = refl
and_assoc false b c = refl

-- a byte is compared, and then the others
pub same-more : (bytes text : List ℕ) (i : ℕ) (is : Bool) → i < length bytes → 2 * i + 1 < length text
    → is ≡ (nat_eq (slice_index text (2 * i)) (digit (slice_index bytes i / 16))
    && nat_eq (slice_index text (2 * i + 1)) (digit (slice_index bytes i % 16)))
    → same_text (drop (2 * i) text) (digits_of (drop i bytes))
    ≡ (is && same_text (drop (2 * (i + 1)) text) (digits_of (drop (i + 1) bytes)))
unfolding digits_of
same-more bytes text i is h few both =
    let others = same_text (drop (2 * (i + 1)) text) (digits_of (drop (i + 1) bytes)) in
    ap₂ (λ ts bs. same_text ts (digits_of bs)) (drop-pair text i few) (drop_more bytes i 0 h)
    ∙ and_assoc (nat_eq (slice_index text (2 * i)) (digit (slice_index bytes i / 16)))
    (nat_eq (slice_index text (2 * i + 1)) (digit (slice_index bytes i % 16))) others
    ∙ ap (λ b. b && others) (sym both)

-- none are left
pub same-done : (bytes text : List ℕ) (i : ℕ) → length bytes ≤ i → length text ≤ 2 * i
    → same_text (drop (2 * i) text) (digits_of (drop i bytes)) ≡ true
unfolding digits_of
same-done bytes text i h few =
    ap₂ (λ ts bs. same_text ts (digits_of bs)) (drop_all (2 * i) text few) (drop_all i bytes h)

-- a text of another length
pub other-length : (bytes text : List ℕ) → length bytes ≡ 32 → length text ≢ 64
    → same_text text (digits_of bytes) ≡ false
other-length bytes text long other =
    let digits = length-digits_of bytes in
    unequal nat_eq text (digits_of bytes) (λ e. other (omega (arith, digits, e)))
