-- The order of preference has each candidate once, and candidates stand oldest first.
use Rattle.std.proofs.Common.{◌≡◌, ◌≢◌, List, [], ◌∷◌, ◌++◌, filter, reverse, Bool, true, false, not, cond, Option}
use Rattle.std.proofs.Common.{get_or, Ordering, Less, Equal, Greater, is_gt, refl, sym, ap, ◌∙◌, true≢false}
use Rattle.std.specs.Cmp.{IsTotalOrder}
use Rattle.std.specs.List.{All, AllPairs}
use Rattle.std.specs.List.Sorted.{IsPermutation}
use Rattle.std.specs.Ordering.{ordering_reverse}
use Rattle.std.proofs.lemmas.Cmp.{nat_cmp_total, on_total, then_total}
use Rattle.std.proofs.lemmas.List.Kept.{AllPairs-cons}
use Rattle.std.proofs.lemmas.List.Sorted.{IsPermutation-refl, IsPermutation-sym, IsPermutation-cons}
use Rattle.std.proofs.lemmas.List.Sorted.{IsPermutation-trans, IsPermutation-append, IsPermutation-reverse}
use Rattle.std.proofs.lemmas.List.Sorted.{IsPermutation-filter_both, IsPermutation-middle, All-permutation}
use Rattle.std.proofs.lemmas.List.Sorted.{Contains-permutation}
use Rattle.model.proofs.Permuted.{pairs-permutation, rising-same}
use Rattle.semver.specs.OrderLaws.{pre_total}
use Rattle.semver.specs.Parse.{Parts}
use Rattle.model.specs.Order.{precedence, put_in}
use Rattle.model.specs.Candidates.{RustVersion, Record, IsOlder, IsApart, age_cmp, oldest_first, fits, locked_ones}
use Rattle.model.specs.Candidates.{fitting_ones, other_ones, by_preference}
use Rattle.model.proofs.Lists.{all_cons, all_first, all_rest, pairs_none, pairs_one, pairs_rest, pairs_all}

-- precedence is a total order
pub precedence_total : IsTotalOrder precedence
precedence_total =
    then_total (on_total (λ (v : Parts). v.0) nat_cmp_total) (then_total (on_total (λ (v : Parts). v.1) nat_cmp_total)
    (then_total (on_total (λ (v : Parts). v.2) nat_cmp_total) (on_total (λ (v : Parts). v.3) pre_total)))

-- the order of preference has each candidate, as often
pub preference-permutes : (locked : Parts → Bool) (rust : Option RustVersion) (cs : List Record)
    → IsPermutation cs (by_preference locked rust cs)
preference-permutes locked rust cs =
    let ls = locked_ones locked cs in
    let us = filter (λ r. not (locked r.version)) cs in
    let fs = fitting_ones locked rust cs in
    let os = other_ones locked rust cs in
    IsPermutation-trans cs (ls ++ us) (by_preference locked rust cs)
    (IsPermutation-filter_both (λ r. locked r.version) (λ r. not (locked r.version)) (λ r. refl) cs)
    (IsPermutation-append ls (reverse ls) us (reverse fs ++ reverse os) (IsPermutation-reverse ls)
    (IsPermutation-trans us (fs ++ os) (reverse fs ++ reverse os)
    (IsPermutation-filter_both (fits rust) (λ r. not (fits rust r)) (λ r. refl) us)
    (IsPermutation-append fs (reverse fs) os (reverse os) (IsPermutation-reverse fs) (IsPermutation-reverse os))))

place-permutes : (r : Record) (es : List Record) → IsPermutation (r ∷ es) (put_in age_cmp r es)
place-permutes r [] = IsPermutation-refl (r ∷ [])
place-permutes r (e ∷ es) = elim (is_gt (precedence r.version e.version)) as
    (λ b. IsPermutation (r ∷ e ∷ es) (cond b (e ∷ put_in age_cmp r es) (r ∷ e ∷ es))) [
      | true ↦ IsPermutation-trans (r ∷ e ∷ es) (e ∷ r ∷ es) (e ∷ put_in age_cmp r es)
          (IsPermutation-sym (e ∷ r ∷ es) (r ∷ e ∷ es) (IsPermutation-middle (e ∷ []) r es))
          (IsPermutation-cons e (r ∷ es) (put_in age_cmp r es) (place-permutes r es))
      | false ↦ IsPermutation-refl (r ∷ e ∷ es)
    ]

-- so have the records by age
pub oldest_first-permutes : (rs : List Record) → IsPermutation rs (oldest_first rs)
unfolding oldest_first
oldest_first-permutes [] = IsPermutation-refl []
oldest_first-permutes (r ∷ rs) = IsPermutation-trans (r ∷ rs) (r ∷ oldest_first rs) (put_in age_cmp r (oldest_first rs))
    (IsPermutation-cons r rs (oldest_first rs) (oldest_first-permutes rs)) (place-permutes r (oldest_first rs))

place-rises : (r : Record) (es : List Record) → AllPairs IsOlder es → All (IsApart r) es
    → AllPairs IsOlder (put_in age_cmp r es)
place-rises r [] h apart = pairs_one IsOlder r
place-rises r (e ∷ es) h apart = by (precedence r.version e.version) refl
    (place-rises r es (pairs_rest IsOlder e es h) (all_rest (IsApart r) e es apart))
  where
    above : All (IsOlder e) es
    above = pairs_all IsOlder e es h

    by : (o : Ordering) → precedence r.version e.version ≡ o → AllPairs IsOlder (put_in age_cmp r es)
        → AllPairs IsOlder (cond (is_gt o) (e ∷ put_in age_cmp r es) (r ∷ e ∷ es))
    by Less x rest = AllPairs-cons IsOlder r (e ∷ es)
        (all_cons (IsOlder r) e es x
        (λ k d lt. precedence_total.trans r.version e.version (get_or es k d).version x (above k d lt))) h
    by Equal x rest = absurd (all_first (IsApart r) e es apart x)
    by Greater x rest = AllPairs-cons IsOlder e (put_in age_cmp r es)
        (All-permutation (IsOlder e) (r ∷ es) (put_in age_cmp r es) (place-permutes r es)
        (all_cons (IsOlder e) r es (precedence_total.antisymm e.version r.version ∙ ap ordering_reverse x) above)) rest

-- and where no two are of equal precedence, they rise
pub oldest_first-rises : (rs : List Record) → AllPairs IsApart rs → AllPairs IsOlder (oldest_first rs)
unfolding oldest_first
oldest_first-rises [] h = pairs_none IsOlder
oldest_first-rises (r ∷ rs) h = place-rises r (oldest_first rs) (oldest_first-rises rs (pairs_rest IsApart r rs h))
    (All-permutation (IsApart r) rs (oldest_first rs) (oldest_first-permutes rs) (pairs_all IsApart r rs h))

-- Records that are sorted by precedence, where no two are of equal precedence, are the records by age.
pub sorted_is_oldest_first : (rs ys : List Record) → AllPairs IsApart rs → IsPermutation rs ys
    → AllPairs (λ a b. is_gt (precedence a.version b.version) ≡ false) ys → ys ≡ oldest_first rs
sorted_is_oldest_first rs ys apart permuted sorted =
    let from_ys =
    IsPermutation-trans ys rs (oldest_first rs) (IsPermutation-sym rs ys permuted) (oldest_first-permutes rs) in
    rising-same IsOlder never ys (oldest_first rs) rises (oldest_first-rises rs apart)
    (λ r c. Contains-permutation ys (oldest_first rs) r from_ys c)
    (λ r c. Contains-permutation (oldest_first rs) ys r (IsPermutation-sym ys (oldest_first rs) from_ys) c)
  where
    never : (a b : Record) → IsOlder a b → IsOlder b a → ⊥
    never a b h k = let x : Less ≡ Greater =
        sym h ∙ precedence_total.antisymm a.version b.version ∙ ap ordering_reverse k in cc

    older : (o : Ordering) → o ≢ Equal → is_gt o ≡ false → o ≡ Less
    older Less n h = refl
    older Equal n h = absurd (n refl)
    older Greater n h = absurd (true≢false h)

    still_apart : AllPairs IsApart ys
    still_apart = pairs-permutation IsApart
        (λ a b h e. h (precedence_total.antisymm a.version b.version ∙ ap ordering_reverse e)) rs ys permuted apart

    rises : AllPairs IsOlder ys
    rises i j d lt within = older (precedence (get_or ys i d).version (get_or ys j d).version)
        (still_apart i j d lt within) (sorted i j d lt within)
