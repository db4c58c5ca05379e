-- The places by rank: each place once, and the candidates there in the order of preference.
use Rattle.std.proofs.Common.{◌≡◌, ℕ, zero, suc, ◌-◌, ◌<◌, ◌≤◌, Bool, true, false, not, ◌&&◌, cond, List, [], ◌∷◌, ◌++◌}
use Rattle.std.proofs.Common.{map, filter, reverse, length, take, get_or, Option, Some, None, option_map, slice_get}
use Rattle.std.proofs.Common.{Result, Ok, Err, Vec, IfOk, refl, sym, ap, ap₂, ◌∙◌, subst, arith, add-one}
use Rattle.std.specs.declared.alloc.AllocError.{AllocError}
use Rattle.std.specs.declared.alloc.Global.{Global}
use Rattle.semver.specs.declared.Version.{Version}
use Rattle.catalogue.specs.Stores.{ranked_view, same_rank, rank_of, Ranked, AreRanked, records, places_down}
use Rattle.catalogue.specs.Stores.{is_ranked, places_of, places_by_rank}
use Rattle.std.specs.List.Sorted.{IsPermutation}
use Rattle.std.proofs.Math.ListN.{get_or-map}
use Rattle.std.proofs.lemmas.List.{append-nil, append_assoc, map-append, reverse-append, take_more, length-map}
use Rattle.std.proofs.lemmas.List.{take_all}
use Rattle.std.proofs.lemmas.List.Elements.{filter-append}
use Rattle.std.proofs.lemmas.List.Sorted.{IsPermutation-trans, IsPermutation-append, IsPermutation-refl}
use Rattle.std.proofs.lemmas.List.Sorted.{IsPermutation-filter_both}
use Rattle.std.proofs.lemmas.Option.{slice_get-map, slice_get-get_or}
use Rattle.semver.specs.Parse.{Parts}
use Rattle.model.specs.Candidates.{RustVersion, Record, fits, locked_ones, fitting_ones, other_ones, by_preference}
use Rattle.model.proofs.Lists.{all_first, all_rest}
use Rattle.catalogue.specs.declared.candidate.Candidate.{Candidate}
use Rattle.catalogue.specs.declared.candidate.Rank.{Rank}
use Rattle.catalogue.specs.declared.candidate.Rank.TheVariants.{Locked, Fits, Rest}

-- ---- filters

filter-filter : {X : Type 0} (p q : X → Bool) (xs : List X) → filter p (filter q xs) ≡ filter (λ x. q x && p x) xs
filter-filter p q [] = refl
filter-filter p q (x ∷ xs) = by (q x) (p x) refl (filter-filter p q xs)
  where
    by : (a b : Bool) → p x ≡ b → filter p (filter q xs) ≡ filter (λ x. q x && p x) xs
        → filter p (cond a (x ∷ filter q xs) (filter q xs))
        ≡ cond (a && b) (x ∷ filter (λ x. q x && p x) xs) (filter (λ x. q x && p x) xs)
    by true true e rest = ap₂ (λ c zs. cond c (x ∷ zs) zs) e rest
    by true false e rest = ap₂ (λ c zs. cond c (x ∷ zs) zs) e rest
    by false b e rest = rest

filter-same : {X : Type 0} (p q : X → Bool) (xs : List X) → ((x : X) → p x ≡ q x) → filter p xs ≡ filter q xs
filter-same p q [] same = refl
filter-same p q (x ∷ xs) same = ap₂ (λ b zs. cond b (x ∷ zs) zs) (same x) (filter-same p q xs same)

pub map-reverse : {X Y : Type 0} (f : X → Y) (xs : List X) → map f (reverse xs) ≡ reverse (map f xs)
map-reverse f [] = refl
map-reverse f (x ∷ xs) = ap (map f) (reverse-append (x ∷ []) xs) ∙ map-append f (reverse xs) (x ∷ [])
    ∙ ap (λ zs. zs ++ f x ∷ []) (map-reverse f xs) ∙ sym (reverse-append (f x ∷ []) (map f xs))

-- ---- one place more

-- the last place of a rank among the places below n
pub last_place : (ranks : List Rank) (rank : Rank) (k : ℕ) (r : Rank) → k < length ranks → get_or ranks k r ≡ r
    → filter (λ i. is_ranked rank (slice_get ranks i)) (places_down (suc k))
    ≡ cond (same_rank r rank) (k ∷ filter (λ i. is_ranked rank (slice_get ranks i)) (places_down k))
    (filter (λ i. is_ranked rank (slice_get ranks i)) (places_down k))
last_place ranks rank k r lt is =
    ap (λ o. cond (is_ranked rank o) (k ∷ filter (λ i. is_ranked rank (slice_get ranks i)) (places_down k))
    (filter (λ i. is_ranked rank (slice_get ranks i)) (places_down k)))
    (slice_get-get_or ranks k r lt ∙ ap Some is)

-- ---- each place once

module _ (ranks : List Rank) where
  test : Rank → ℕ → Bool
  test rank i = is_ranked rank (slice_get ranks i)

  fits_after : (i : ℕ) → (not (is_ranked Locked (slice_get ranks i)) && is_ranked Fits (slice_get ranks i))
      ≡ is_ranked Fits (slice_get ranks i)
  fits_after i = by (slice_get ranks i)
    where
      by : (o : Option Rank) → (not (is_ranked Locked o) && is_ranked Fits o) ≡ is_ranked Fits o
      by None = refl
      by (Some Locked) = refl
      by (Some Fits) = refl
      by (Some Rest) = refl

  rest_after : (i : ℕ) → i < length ranks
      → (not (is_ranked Locked (slice_get ranks i)) && not (is_ranked Fits (slice_get ranks i)))
      ≡ is_ranked Rest (slice_get ranks i)
  rest_after i lt = subst (λ o. (not (is_ranked Locked o) && not (is_ranked Fits o)) ≡ is_ranked Rest o)
      (sym (slice_get-get_or ranks i Rest lt)) (by (get_or ranks i Rest))
    where
      by : (r : Rank) → (not (is_ranked Locked (Some r)) && not (is_ranked Fits (Some r))) ≡ is_ranked Rest (Some r)
      by Locked = refl
      by Fits = refl
      by Rest = refl

  rest_below : (n : ℕ) → n ≤ length ranks
      → filter (λ i. not (is_ranked Locked (slice_get ranks i)) && not (is_ranked Fits (slice_get ranks i)))
      (places_down n) ≡ filter (λ i. is_ranked Rest (slice_get ranks i)) (places_down n)
  rest_below zero le = refl
  rest_below (suc n) le =
      ap₂ (λ b zs. cond b (n ∷ zs) zs) (rest_after n (omega (arith, le))) (rest_below n (omega (arith, le)))

  pub places_once : IsPermutation (places_down (length ranks)) (places_by_rank ranks)
  places_once =
      let xs = places_down (length ranks) in
      let us = filter (λ i. not (is_ranked Locked (slice_get ranks i))) xs in
      let fs = filter (λ i. is_ranked Fits (slice_get ranks i)) us in
      let os = filter (λ i. not (is_ranked Fits (slice_get ranks i))) us in
      let is_fits : fs ≡ places_of Fits ranks =
      filter-filter (λ i. is_ranked Fits (slice_get ranks i)) (λ i. not (is_ranked Locked (slice_get ranks i))) xs
      ∙ filter-same (λ i. not (is_ranked Locked (slice_get ranks i)) && is_ranked Fits (slice_get ranks i))
      (λ i. is_ranked Fits (slice_get ranks i)) xs fits_after in
      let is_rest : os ≡ places_of Rest ranks = filter-filter (λ i. not (is_ranked Fits (slice_get ranks i)))
      (λ i. not (is_ranked Locked (slice_get ranks i))) xs ∙ rest_below (length ranks) (omega arith) in
      subst (λ zs. IsPermutation xs (places_of Locked ranks ++ zs)) (ap₂ (λ a b. a ++ b) is_fits is_rest)
      (IsPermutation-trans xs (places_of Locked ranks ++ us) (places_of Locked ranks ++ (fs ++ os))
      (IsPermutation-filter_both (λ i. is_ranked Locked (slice_get ranks i))
      (λ i. not (is_ranked Locked (slice_get ranks i))) (λ i. refl) xs)
      (IsPermutation-append (places_of Locked ranks) (places_of Locked ranks) us (fs ++ os)
      (IsPermutation-refl (places_of Locked ranks))
      (IsPermutation-filter_both (λ i. is_ranked Fits (slice_get ranks i))
      (λ i. not (is_ranked Fits (slice_get ranks i))) (λ i. refl) us)))

-- ---- what lies there

-- what lies at the places that pass a test, the last first
at_places : {X : Type 0} (xs : List X) (t : Option X → Bool) (n : ℕ) → n ≤ length xs
    → map (slice_get xs) (filter (λ i. t (slice_get xs i)) (places_down n))
    ≡ map Some (reverse (filter (λ x. t (Some x)) (take n xs)))
at_places xs t zero le = refl
at_places [] t (suc n) le = absurd (omega (arith, le))
at_places (y ∷ ys) t (suc n) le =
    let xs = y ∷ ys in
    let x = get_or xs n y in
    let here : slice_get xs n ≡ Some x = slice_get-get_or xs n y (omega (arith, le)) in
    let more : take (suc n) xs ≡ take n xs ++ x ∷ [] = rw add-one at (take_more xs n y (omega (arith, le))) in
    by x here (t (Some x)) (ap t here) refl (at_places xs t n (omega (arith, le)))
    ∙ sym (ap (λ zs. map Some (reverse (filter (λ x. t (Some x)) zs))) more
    ∙ ap (λ zs. map Some (reverse zs)) (filter-append (λ x. t (Some x)) (take n xs) (x ∷ [])))
  where
    by : (x : _) → slice_get (y ∷ ys) n ≡ Some x → (b : Bool) → t (slice_get (y ∷ ys) n) ≡ b → t (Some x) ≡ b
        → map (slice_get (y ∷ ys)) (filter (λ i. t (slice_get (y ∷ ys) i)) (places_down n))
        ≡ map Some (reverse (filter (λ x. t (Some x)) (take n (y ∷ ys))))
        → map (slice_get (y ∷ ys)) (cond (t (slice_get (y ∷ ys) n)) (n ∷ filter (λ i. t (slice_get (y ∷ ys) i))
        (places_down n)) (filter (λ i. t (slice_get (y ∷ ys) i)) (places_down n)))
        ≡ map Some (reverse (filter (λ x. t (Some x)) (take n (y ∷ ys)) ++ cond (t (Some x)) (x ∷ []) []))
    by x here true e f rest =
        ap (λ c. map (slice_get (y ∷ ys)) (cond c (n ∷ filter (λ i. t (slice_get (y ∷ ys) i)) (places_down n))
        (filter (λ i. t (slice_get (y ∷ ys) i)) (places_down n)))) e
        ∙ ap₂ (λ o zs. o ∷ zs) here rest
        ∙ sym (ap (λ c. map Some (reverse (filter (λ x. t (Some x)) (take n (y ∷ ys)) ++ cond c (x ∷ []) []))) f
        ∙ ap (map Some) (reverse-append (filter (λ x. t (Some x)) (take n (y ∷ ys))) (x ∷ [])))
    by x here false e f rest =
        ap (λ c. map (slice_get (y ∷ ys)) (cond c (n ∷ filter (λ i. t (slice_get (y ∷ ys) i)) (places_down n))
        (filter (λ i. t (slice_get (y ∷ ys) i)) (places_down n)))) e
        ∙ rest
        ∙ sym (ap (λ c. map Some (reverse (filter (λ x. t (Some x)) (take n (y ∷ ys)) ++ cond c (x ∷ []) []))) f
        ∙ ap (λ zs. map Some (reverse zs)) (append-nil (filter (λ x. t (Some x)) (take n (y ∷ ys)))))

rank_is : (cs : List Ranked) (rank : Rank)
    → map (slice_get cs) (places_of rank (map (λ c. c.1) cs)) ≡ map Some (reverse (filter (λ c. same_rank c.1 rank) cs))
rank_is cs rank =
    ap (map (slice_get cs)) (ap (λ n. filter
    (λ i. is_ranked rank (slice_get (map (λ (c : Ranked). c.1) cs) i)) (places_down n)) (rw length-map refl)
    ∙ filter-same (λ i. is_ranked rank (slice_get (map (λ (c : Ranked). c.1) cs) i))
    (λ i. ranked (slice_get cs i)) (places_down (length cs))
    (λ i. ap (is_ranked rank) (slice_get-map (λ (c : Ranked). c.1) cs i) ∙ seen (slice_get cs i)))
    ∙ at_places cs ranked (length cs) (omega arith)
    ∙ ap (λ zs. map Some (reverse (filter (λ c. same_rank c.1 rank) zs))) (take_all (length cs) cs (omega arith))
  where
    ranked : Option Ranked → Bool
    ranked o = is_ranked rank (option_map (λ c. c.1) o)

    seen : (o : Option Ranked) → is_ranked rank (option_map (λ c. c.1) o) ≡ ranked o
    seen o = refl

-- what lies there of each
module _ {X : Type 0} (f : Ranked → X) where
  map-places : (cs : List Ranked) (is : List ℕ)
      → map (slice_get (map f cs)) is ≡ map (option_map f) (map (slice_get cs) is)
  map-places cs [] = refl
  map-places cs (i ∷ is) = ap₂ (λ o os. o ∷ os) (slice_get-map f cs i) (map-places cs is)

  map-some : (zs : List Ranked) → map (option_map f) (map Some zs) ≡ map Some (map f zs)
  map-some [] = refl
  map-some (z ∷ zs) = ap (λ os. Some (f z) ∷ os) (map-some zs)

  pub at_rank : (cs : List Ranked) (rank : Rank) → map (slice_get (map f cs)) (places_of rank (map (λ c. c.1) cs))
      ≡ map Some (reverse (map f (filter (λ c. same_rank c.1 rank) cs)))
  at_rank cs rank =
      let kept = filter (λ (c : Ranked). same_rank c.1 rank) cs in
      map-places cs (places_of rank (map (λ c. c.1) cs)) ∙ ap (map (option_map f)) (rank_is cs rank)
      ∙ map-some (reverse kept) ∙ ap (map Some) (map-reverse f kept)

-- ---- which have a rank

module _ (locked : Parts → Bool) (rust : Option RustVersion) where
  -- the records of those that have a rank are those that pass its test
  passing : (rank : Rank) (t : Record → Bool) → ((r : Record) → same_rank (rank_of locked rust r) rank ≡ t r)
      → (cs : List Ranked) → AreRanked locked rust cs
      → records (filter (λ (c : Ranked). same_rank c.1 rank) cs) ≡ filter t (records cs)
  passing rank t same [] h = refl
  passing rank t same (c ∷ cs) h =
      by (same_rank c.1 rank) (t c.0)
      (ap (λ r. same_rank r rank) (all_first (λ (c : Ranked). c.1 ≡ rank_of locked rust c.0) c cs h) ∙ same c.0)
      (passing rank t same cs (all_rest (λ (c : Ranked). c.1 ≡ rank_of locked rust c.0) c cs h))
    where
      by : (a b : Bool) → a ≡ b
          → records (filter (λ (c : Ranked). same_rank c.1 rank) cs) ≡ filter t (records cs)
          → records (cond a (c ∷ filter (λ (c : Ranked). same_rank c.1 rank) cs)
          (filter (λ (c : Ranked). same_rank c.1 rank) cs))
          ≡ cond b (c.0 ∷ filter t (records cs)) (filter t (records cs))
      by true true e rest = ap (λ zs. c.0 ∷ zs) rest
      by false false e rest = rest
      by true false e rest = cc
      by false true e rest = cc

  is_locked_rank : (r : Record) → same_rank (rank_of locked rust r) Locked ≡ locked r.version
  is_locked_rank r = by (locked r.version) (fits rust r)
    where
      by : (a b : Bool) → same_rank (cond a Locked (cond b Fits Rest)) Locked ≡ a
      by true b = refl
      by false true = refl
      by false false = refl

  is_fits_rank : (r : Record) → same_rank (rank_of locked rust r) Fits ≡ (not (locked r.version) && fits rust r)
  is_fits_rank r = by (locked r.version) (fits rust r)
    where
      by : (a b : Bool) → same_rank (cond a Locked (cond b Fits Rest)) Fits ≡ (not a && b)
      by true b = refl
      by false true = refl
      by false false = refl

  is_rest_rank : (r : Record) → same_rank (rank_of locked rust r) Rest ≡ (not (locked r.version) && not (fits rust r))
  is_rest_rank r = by (locked r.version) (fits rust r)
    where
      by : (a b : Bool) → same_rank (cond a Locked (cond b Fits Rest)) Rest ≡ (not a && not b)
      by true b = refl
      by false true = refl
      by false false = refl

  pub locked_first : (cs : List Ranked) → AreRanked locked rust cs
      → records (filter (λ (c : Ranked). same_rank c.1 Locked) cs) ≡ locked_ones locked (records cs)
  locked_first cs h = passing Locked (λ r. locked r.version) is_locked_rank cs h

  pub fitting_next : (cs : List Ranked) → AreRanked locked rust cs
      → records (filter (λ (c : Ranked). same_rank c.1 Fits) cs) ≡ fitting_ones locked rust (records cs)
  fitting_next cs h = passing Fits (λ r. not (locked r.version) && fits rust r) is_fits_rank cs h
      ∙ sym (filter-filter (fits rust) (λ (r : Record). not (locked r.version)) (records cs))

  pub others_last : (cs : List Ranked) → AreRanked locked rust cs
      → records (filter (λ (c : Ranked). same_rank c.1 Rest) cs) ≡ other_ones locked rust (records cs)
  others_last cs h = passing Rest (λ r. not (locked r.version) && not (fits rust r)) is_rest_rank cs h
      ∙ sym (filter-filter (λ r. not (fits rust r)) (λ (r : Record). not (locked r.version)) (records cs))

  pub places_preferred : (cs : List Ranked) → AreRanked locked rust cs → map (slice_get (records cs))
      (places_by_rank (map (λ c. c.1) cs)) ≡ map Some (by_preference locked rust (records cs))
  places_preferred cs h =
      let ranks = map (λ (c : Ranked). c.1) cs in
      let rs = records cs in
      let by = at_rank (λ (c : Ranked). c.0) cs in
      map-append (slice_get rs) (places_of Locked ranks) (places_of Fits ranks ++ places_of Rest ranks)
      ∙ ap₂ (λ a b. a ++ b) (by Locked ∙ ap (λ zs. map Some (reverse zs)) (locked_first cs h))
      (map-append (slice_get rs) (places_of Fits ranks) (places_of Rest ranks)
      ∙ ap₂ (λ a b. a ++ b) (by Fits ∙ ap (λ zs. map Some (reverse zs)) (fitting_next cs h))
      (by Rest ∙ ap (λ zs. map Some (reverse zs)) (others_last cs h)))
      ∙ sym (map-append Some (reverse (locked_ones locked rs))
      (reverse (fitting_ones locked rust rs) ++ reverse (other_ones locked rust rs))
      ∙ ap (λ zs. map Some (reverse (locked_ones locked rs)) ++ zs)
      (map-append Some (reverse (fitting_ones locked rust rs)) (reverse (other_ones locked rust rs))))

-- ---- the loop that adds the places of a rank

module _ (cs : List Candidate) (rank : Rank) where
  abbrev pub ranked_below : ℕ → List ℕ
  ranked_below n = filter (λ i. is_ranked rank (slice_get (map (λ (c : Candidate). c.rank) cs) i)) (places_down n)

  below : (n : ℕ) (x : Candidate) → 0 < n → n ≤ length cs → get_or cs (n - 1) x ≡ x
      → ranked_below n ≡ cond (same_rank x.rank rank) ((n - 1) ∷ ranked_below (n - 1)) (ranked_below (n - 1))
  below zero x lt le is = absurd (omega (arith, lt))
  below (suc k) x lt le is =
      let at : get_or cs k x ≡ x = rw (suc-one k) at is in
      rw (suc-one k) (last_place (map (λ (c : Candidate). c.rank) cs) rank k x.rank (rw length-map (omega (arith, le)))
      (get_or-map (λ (c : Candidate). c.rank) cs k x ∙ ap (λ (c : Candidate). c.rank) at))
    where
      suc-one : (k : ℕ) → suc k - 1 ≡ k
      suc-one k = omega arith

  pub with_place : (n : ℕ) (x : Candidate) (front all : List ℕ) → 0 < n → n ≤ length cs → get_or cs (n - 1) x ≡ x
      → same_rank x.rank rank ≡ true → front ++ ranked_below n ≡ all
      → (front ++ (n - 1) ∷ []) ++ ranked_below (n - 1) ≡ all
  with_place n x front all lt le is same told =
      append_assoc front ((n - 1) ∷ []) (ranked_below (n - 1))
      ∙ sym (ap (λ zs. front ++ zs)
      (below n x lt le is ∙ ap (λ b. cond b ((n - 1) ∷ ranked_below (n - 1)) (ranked_below (n - 1))) same)) ∙ told

  pub without_place : (n : ℕ) (x : Candidate) (front all : List ℕ) → 0 < n → n ≤ length cs → get_or cs (n - 1) x ≡ x
      → same_rank x.rank rank ≡ false → front ++ ranked_below n ≡ all → front ++ ranked_below (n - 1) ≡ all
  without_place n x front all lt le is same told =
      sym (ap (λ zs. front ++ zs)
      (below n x lt le is ∙ ap (λ b. cond b ((n - 1) ∷ ranked_below (n - 1)) (ranked_below (n - 1))) same)) ∙ told

-- ---- all ranks

pub ranks_seen : (vs : List Version) (cs : List Candidate) → length vs ≡ length cs
    → map (λ (c : Ranked). c.1) (ranked_view vs cs) ≡ map (λ (c : Candidate). c.rank) cs
ranks_seen [] [] same = refl
ranks_seen (v ∷ vs) (c ∷ cs) same = ap (λ rs. c.rank ∷ rs) (ranks_seen vs cs (omega (arith, same)))
ranks_seen [] (c ∷ cs) same = absurd (omega (arith, same))
ranks_seen (v ∷ vs) [] same = absurd (omega (arith, same))

-- what places by rank say of the order of preference
pub once_so : (r : Result (Vec ℕ Global) AllocError) (cs ds : List Ranked) → cs ≡ ds → IfOk r
    (λ v. v.items ≡ places_by_rank (map (λ c. c.1) ds)) → IfOk r (λ v. IsPermutation (places_down (length cs)) v.items)
once_so (Ok v) cs ds same h =
    let places : v.items ≡ places_by_rank (map (λ (c : Ranked). c.1) cs) =
    h ∙ ap (λ es. places_by_rank (map (λ (c : Ranked). c.1) es)) (sym same) in
    subst (IsPermutation (places_down (length cs))) (sym places)
    (subst (λ n. IsPermutation (places_down n) (places_by_rank (map (λ (c : Ranked). c.1) cs)))
    (length-map cs (λ (c : Ranked). c.1)) (places_once (map (λ (c : Ranked). c.1) cs)))
once_so (Err e) cs ds same h = tt

pub preferred_so : (r : Result (Vec ℕ Global) AllocError) (cs ds : List Ranked) → cs ≡ ds
    → IfOk r (λ v. v.items ≡ places_by_rank (map (λ c. c.1) ds))
    → IfOk r (λ v. (locked : Parts → Bool) (rust : Option RustVersion) → AreRanked locked rust cs
    → map (slice_get (records cs)) v.items ≡ map Some (by_preference locked rust (records cs)))
preferred_so (Ok v) cs ds same h = λ locked rust ranked.
    ap (map (slice_get (records cs))) (h ∙ ap (λ es. places_by_rank (map (λ (c : Ranked). c.1) es)) (sym same))
    ∙ places_preferred locked rust cs ranked
preferred_so (Err e) cs ds same h = tt

-- the places of one rank after those of another
pub all_ranks : (vs : List Version) (cs : List Candidate) (none one two three : List ℕ)
    → length vs ≡ length cs → none ≡ []
    → one ≡ none ++ places_of Locked (map (λ (c : Candidate). c.rank) cs) → two ≡ one ++ places_of Fits
    (map (λ (c : Candidate). c.rank) cs) → three ≡ two ++ places_of Rest (map (λ (c : Candidate). c.rank) cs)
    → three ≡ places_by_rank (map (λ (c : Ranked). c.1) (ranked_view vs cs))
all_ranks vs cs none one two three same e0 e1 e2 e3 =
    let ranks = map (λ (c : Candidate). c.rank) cs in
    e3 ∙ ap (λ zs. zs ++ places_of Rest ranks)
    (e2 ∙ ap (λ zs. zs ++ places_of Fits ranks) (e1 ∙ ap (λ zs. zs ++ places_of Locked ranks) e0))
    ∙ append_assoc (places_of Locked ranks) (places_of Fits ranks) (places_of Rest ranks)
    ∙ ap places_by_rank (sym (ranks_seen vs cs same))
