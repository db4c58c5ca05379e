-- What holds of a set by its words, and of two sets of one universe.
use Rattle.std.proofs.Common.{◌≡◌, ℕ, ◌+◌, ◌-◌, ◌*◌, ◌/◌, ◌^◌, ◌<◌, ◌≤◌, ◌↔◌, false, true, refl, not, List, [], ◌∷◌}
use Rattle.std.proofs.Common.{get_or, length, map, Box, Global}
use Rattle.std.proofs.Common.{bit_and, bit_or, eqb, ap, ap₂, sym, ◌∙◌, subst, arith, eq-eqb, Result}
use Rattle.std.proofs.Math.Bool.{and-true}
use Rattle.std.proofs.lemmas.Bool.{eqb-true}
use Rattle.std.proofs.lemmas.Result.{IfOk-weaker}
use Rattle.std.specs.Int.{bit_not, w64}
use Rattle.std.specs.Int.RustNames.{count_ones}
use Rattle.std.specs.Prelude.{IfOk, IsTrue}
use Rattle.std.specs.Simd.Lanes.{zip2}
use Rattle.version_sets.specs.inner.Forms.{universe_in, wide_words, words_in}
use Rattle.version_sets.specs.inner.Listed.{set_where}
use Rattle.version_sets.specs.Sets.{Members, has, inside, join, meet, meets, rest, size}
use Rattle.version_sets.specs.inner.Words.{AreWords, IsWords, all_zero, and_not, has_bit, ones_in}
use Rattle.version_sets.specs.declared.wide.Wide.{Wide}
use Rattle.version_sets.specs.declared.words.Form.{Form}
use Rattle.version_sets.specs.declared.words.Form.TheVariants.{Many, One}
use Rattle.version_sets.proofs.Bits.{and_is, apart_is, bit_in_word, bit_is, has_is, or_is, same_words, turned_is}
use Rattle.version_sets.proofs.Bits.{within_is, words_and}
use Rattle.version_sets.proofs.Bits.{both_ways, words_or}
use Rattle.version_sets.proofs.Filled.{ones_are_size, ones_bound}
use Rattle.version_sets.proofs.Listing.{length-set_where, same_set}
use Rattle.version_sets.proofs.Within.{inside_has}

-- a set as it lies in memory, by its words
module _ (f : Form) (s : Members) (is : IsWords (universe_in f) (words_in f))
    (view : set_where (universe_in f) (has_bit (words_in f)) ≡ s) where
  pub form_universe : universe_in f ≡ length s
  form_universe = sym (length-set_where (universe_in f) (has_bit (words_in f))) ∙ ap length view

  pub form_words : AreWords s (words_in f)
  form_words = record {
    is = subst (λ n. IsWords n (words_in f)) form_universe is;
    same = ap (λ n. set_where n (has_bit (words_in f))) (sym form_universe) ∙ view;
  }

  pub form_small : length s ≤ 65536
  form_small = omega (arith, form_universe, is.small)

  pub many_large : (b : Box Wide Global) → f ≡ Many b → 64 < length s
  many_large b e = omega (arith, b.value.rest.large, ap universe_in e, form_universe)

  pub one_words : (n w : ℕ) → f ≡ One n w → AreWords s (w ∷ [])
  one_words n w e = subst (λ g. AreWords s (words_in g)) e form_words

  pub wide_words_are : (b : Box Wide Global) → f ≡ Many b → AreWords s (wide_words b.value)
  wide_words_are b e = subst (λ g. AreWords s (words_in g)) e form_words

-- one set
module _ (s : Members) (ws : List ℕ) (p : AreWords s ws) (n : ℕ) (n_is : n ≡ length s) where
  pub its_words : IsWords n ws
  its_words = subst (λ k. IsWords k ws) (sym n_is) p.is

  pub its_set : set_where n (has_bit ws) ≡ s
  its_set = ap (λ k. set_where k (has_bit ws)) n_is ∙ p.same

pub member_is : (s : Members) (ws : List ℕ) (i : ℕ) → AreWords s ws → has_bit ws i ≡ has s i
member_is s ws i p = sym (has_is (length s) ws ws p.is p.is ws p.is i) ∙ ap (λ t. has t i) p.same

-- a place of a word is a number of the set
pub word_number : (s : Members) (ws : List ℕ) → AreWords s ws → (k j : ℕ) → j < 64
    → bit_is (get_or ws k 0) j ≡ has s (64 * k + j)
word_number s ws p k j low = sym (bit_in_word ws k j low) ∙ member_is s ws (64 * k + j) p

pub lone_small : (s : Members) (w : ℕ) → AreWords s (w ∷ []) → length s ≤ 64
lone_small s w p = (let long : 1 ≡ (length s - 1) / 64 + 1 = p.is.long in omega arith)

pub count_is : (s : Members) (ws : List ℕ) → AreWords s ws → ones_in ws ≡ size s
count_is s ws p = ones_are_size (length s) ws p.is ∙ ap size p.same

pub count_fits : (s : Members) (ws : List ℕ) → AreWords s ws → ones_in ws < 2 ^ 32
count_fits s ws p = (let bound : ones_in ws ≤ 65536 = ones_bound (length s) ws p.is in omega arith)

pub lone_count : (s : Members) (w : ℕ) → AreWords s (w ∷ []) → count_ones w ≡ size s
lone_count s w p = (let counted : count_ones w + 0 ≡ size s = count_is s (w ∷ []) p in omega arith)

pub turned_set : (s : Members) (ws : List ℕ) → AreWords s ws → (n : ℕ) → n ≡ length s
    → set_where n (has_bit (map (bit_not w64) ws)) ≡ rest s
turned_set s ws p n n_is = turned_is n ws (its_words s ws p n n_is) ∙ ap rest (its_set s ws p n n_is)

-- a set that was made is another, if that is the same
pub made_is : {E : Type 0} (r : Result Members E) (s t : Members) → IfOk r (λ x. x ≡ s) → s ≡ t → IfOk r (λ x. x ≡ t)
made_is r s t made e = IfOk-weaker r (λ x. x ≡ s) (λ x. x ≡ t) (λ x is. is ∙ e) made

-- two sets of one universe
module _ (xs ys : Members) (a b : List ℕ) (p : AreWords xs a) (q : AreWords ys b) (same : length xs ≡ length ys) where
  second : IsWords (length xs) b
  second = subst (λ k. IsWords k b) (sym same) q.is

  second_is : set_where (length xs) (has_bit b) ≡ ys
  second_is = ap (λ k. set_where k (has_bit b)) same ∙ q.same

  pub pair_within : all_zero (zip2 and_not a b) ≡ inside xs ys
  pair_within = within_is (length xs) a b p.is second ∙ ap₂ inside p.same second_is

  pub pair_apart : all_zero (zip2 bit_and a b) ≡ not (meets xs ys)
  pair_apart = apart_is (length xs) a b p.is second ∙ ap not (ap₂ meets p.same second_is)

  pub pair_from : a ≡ b → xs ≡ ys
  pair_from e = sym p.same ∙ ap (λ ws. set_where (length xs) (has_bit ws)) e ∙ second_is

  pub pair_words : xs ≡ ys → a ≡ b
  pair_words e = same_words (length xs) a b p.is second (p.same ∙ e ∙ sym second_is)

  module _ (n : ℕ) (n_is : n ≡ length xs) where
    pub pair_or : set_where n (has_bit (zip2 bit_or a b)) ≡ join xs ys
    pair_or = ap (λ k. set_where k (has_bit (zip2 bit_or a b))) n_is ∙ or_is (length xs) a b p.is second
        ∙ ap₂ join p.same second_is

    pub pair_and : set_where n (has_bit (zip2 bit_and a b)) ≡ meet xs ys
    pair_and = ap (λ k. set_where k (has_bit (zip2 bit_and a b))) n_is ∙ and_is (length xs) a b p.is second
        ∙ ap₂ meet p.same second_is

    pub pair_or_words : IsWords n (zip2 bit_or a b)
    pair_or_words = subst (λ k. IsWords k (zip2 bit_or a b)) (sym n_is) (words_or (length xs) a b p.is second)

    pub pair_and_words : IsWords n (zip2 bit_and a b)
    pair_and_words = subst (λ k. IsWords k (zip2 bit_and a b)) (sym n_is) (words_and (length xs) a b p.is second)

-- the test of one word
pub lone_within : (xs ys : Members) (x y : ℕ) → AreWords xs (x ∷ []) → AreWords ys (y ∷ []) → length xs ≡ length ys
    → eqb (and_not x y) 0 ≡ inside xs ys
lone_within xs ys x y p q same = sym (and-true (eqb (and_not x y) 0)) ∙ pair_within xs ys (x ∷ []) (y ∷ []) p q same

pub lone_apart : (xs ys : Members) (x y : ℕ) → AreWords xs (x ∷ []) → AreWords ys (y ∷ []) → length xs ≡ length ys
    → eqb (bit_and x y) 0 ≡ not (meets xs ys)
lone_apart xs ys x y p q same = sym (and-true (eqb (bit_and x y) 0)) ∙ pair_apart xs ys (x ∷ []) (y ∷ []) p q same

pub lone_same : (xs ys : Members) (x y : ℕ) → AreWords xs (x ∷ []) → AreWords ys (y ∷ []) → length xs ≡ length ys
    → IsTrue (eqb x y) ↔ (xs ≡ ys)
lone_same xs ys x y p q same = (
  (λ t. pair_from xs ys (x ∷ []) (y ∷ []) p q same (ap (λ w. w ∷ []) (eqb-true x y t))),
  (λ e. (let words = pair_words xs ys (x ∷ []) (y ∷ []) p q same e in eq-eqb x y cc)),
)

-- two sets that lie in each other are one
pub both_inside : (xs ys : Members) → length xs ≡ length ys → inside xs ys ≡ true → inside ys xs ≡ true → xs ≡ ys
both_inside xs ys wide here there = same_set xs ys wide
    (λ i low. both_ways (has xs i) (has ys i) (inside_has xs ys i here) (inside_has ys xs i there))

pub inside_itself : (xs : Members) → inside xs xs ≡ true
inside_itself [] = refl
inside_itself (true ∷ xs) = inside_itself xs
inside_itself (false ∷ xs) = inside_itself xs
