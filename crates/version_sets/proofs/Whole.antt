-- A set by all words that its window stands for.
use Rattle.std.proofs.Common.{◌≡◌, ℕ, ◌+◌, ◌*◌, ◌/◌, ◌%◌, ◌^◌, ◌<◌, ◌≤◌, Bool, true, false, ◌&&◌, List, length}
use Rattle.std.proofs.Common.{map, get_or, bit_and, ap, ap₂, sym, ◌∙◌, subst, arith, inl, inr}
use Rattle.std.proofs.Math.Bool.{and-false, and-true}
use Rattle.std.proofs.Math.Dec.{ltb}
use Rattle.std.proofs.lemmas.Bool.{cases_lt, le-ltb, lt-ltb}
use Rattle.std.proofs.lemmas.List.{get_or_past, length-map}
use Rattle.std.proofs.lemmas.Nat.{and_le_l}
use Rattle.std.proofs.lemmas.Simd.{get_or-zip2, length-zip2}
use Rattle.std.specs.Int.{bit_not, w64}
use Rattle.std.specs.Simd.Lanes.{zip2}
use Rattle.version_sets.specs.declared.window.Window.{Window}
use Rattle.version_sets.specs.Sets.{Members, every, none, rest}
use Rattle.version_sets.specs.inner.Forms.{HasWords, all_words}
use Rattle.version_sets.specs.inner.Listed.{set_where}
use Rattle.version_sets.specs.inner.Windows.{flank}
use Rattle.version_sets.specs.inner.Words.{AreWords, IsWords, has_bit}
use Rattle.version_sets.proofs.Bits.{bit_is, has_and, turned_is}
use Rattle.version_sets.proofs.Filled.{turned_fits}
use Rattle.version_sets.proofs.Flanks.{flank_at, flank_bit, flank_fits, length-flank}
use Rattle.version_sets.proofs.Listing.{every_where, none_where, set_agree}
use Rattle.version_sets.proofs.Pairs.{its_set, its_words}

-- a window by its words
module _ (n : ℕ) (ws : List ℕ) (w : Window) (h : HasWords n ws w) where
  pub window_words : IsWords n ws → IsWords w.universe (all_words w)
  window_words p = subst (λ m. IsWords m (all_words w)) (sym h.universe) (subst (IsWords n) (sym h.words) p)

  pub window_set : set_where w.universe (has_bit (all_words w)) ≡ set_where n (has_bit ws)
  window_set = ap₂ (λ m l. set_where m (has_bit l)) h.universe h.words

-- the bits of a flank
pub flank_has : (n : ℕ) (b : Bool) (i : ℕ) → has_bit (flank n b) i ≡ (b && ltb i n)
flank_has n b i =
    let part : 64 * (i / 64) + i % 64 ≡ i = omega arith in
    ap (λ w. bit_is w (i % 64)) (flank_at n b (i / 64)) ∙ flank_bit n b (i / 64) (i % 64) (omega arith)
    ∙ ap (λ m. b && ltb m n) part

-- the words of no number, and of every one
pub flank_words : (n : ℕ) (b : Bool) → n ≤ 65536 → IsWords n (flank n b)
flank_words n b small = record {
  small = small;
  long = length-flank n b;
  fits = λ k. subst (λ w. w < 2 ^ 64) (sym (flank_at n b k)) (flank_fits n b k);
  clear = λ i past. flank_has n b i ∙ ap (λ t. b && t) (le-ltb i n past) ∙ and-false b;
}

pub empty_set : (n : ℕ) → set_where n (has_bit (flank n false)) ≡ none n
empty_set n = set_agree (has_bit (flank n false)) (λ _. false) n (λ i low. flank_has n false i) ∙ sym (none_where n)

pub full_set : (n : ℕ) → set_where n (has_bit (flank n true)) ≡ every n
full_set n = set_agree (has_bit (flank n true)) (λ _. true) n (λ i low. flank_has n true i ∙ lt-ltb i n low)
    ∙ sym (every_where n)

-- the words turned, without the bits past the universe
module _ (s : Members) (ws : List ℕ) (p : AreWords s ws) (n : ℕ) (n_is : n ≡ length s) where
  is : IsWords n ws
  is = its_words s ws p n n_is

  abbrev pub turned : List ℕ
  turned = zip2 bit_and (map (bit_not w64) ws) (flank n true)

  long : length (map (bit_not w64) ws) ≡ length (flank n true)
  long = length-map ws (bit_not w64) ∙ is.long ∙ sym (length-flank n true)

  turned_has : (i : ℕ) → has_bit turned i ≡ (has_bit (map (bit_not w64) ws) i && ltb i n)
  turned_has i = has_and (map (bit_not w64) ws) (flank n true) i long
      ∙ ap (λ b. has_bit (map (bit_not w64) ws) i && b) (flank_has n true i)

  pub turned_words : IsWords n turned
  turned_words = record {
    small = is.small;
    long = length-zip2 bit_and (map (bit_not w64) ws) (flank n true) long ∙ long ∙ length-flank n true;
    fits = λ k. elim (cases_lt k (length (flank n true))) [
      | inl low ↦ subst (λ w. w < 2 ^ 64) (sym (get_or-zip2 bit_and (map (bit_not w64) ws) (flank n true) k 0 0 0
          (omega (arith, long)) low)) (omega (
            arith,
            and_le_l (get_or (map (bit_not w64) ws) k 0)
                (get_or (flank n true) k 0),
            turned_fits ws k,
          ))
      | inr past ↦ subst (λ w. w < 2 ^ 64) (sym (get_or_past turned k 0
          (omega (arith, length-zip2 bit_and (map (bit_not w64) ws) (flank n true) long, long)))) (omega arith)
    ];
    clear = λ i past. turned_has i ∙ ap (λ b. has_bit (map (bit_not w64) ws) i && b) (le-ltb i n past)
        ∙ and-false (has_bit (map (bit_not w64) ws) i);
  }

  pub turned_members : set_where n (has_bit turned) ≡ rest s
  turned_members = set_agree (has_bit turned) (has_bit (map (bit_not w64) ws)) n (λ i low.
      turned_has i ∙ ap (λ b. has_bit (map (bit_not w64) ws) i && b) (lt-ltb i n low)
      ∙ and-true (has_bit (map (bit_not w64) ws) i)) ∙ turned_is n ws is ∙ ap rest (its_set s ws p n n_is)
