-- One state alone: it is found by search, as the versions of a class and the classes of a dependency rise.
use Rattle.std.proofs.Common.{◌≡◌, ℕ, zero, suc, ◌+◌, ◌<◌, Bool, true, false, cond, List, [], ◌∷◌, map, length}
use Rattle.std.proofs.Common.{get_or, Contains, refl, sym, ap, ap₂, ◌∙◌, subst, arith, true≢false, inl, inr}
use Rattle.std.specs.List.{AllPairs, list_any}
use Rattle.std.specs.List.Sorted.{IsPartitionedBy, IsPartitionPoint}
use Rattle.std.specs.Ordering.{is_lt}
use Rattle.std.specs.declared.cmp.Ordering.{Ordering}
use Rattle.std.specs.declared.cmp.Ordering.TheVariants.{Less, Equal, Greater}
use Rattle.std.proofs.lemmas.Bool.{cases_lt, lt-ltb, ltb-true}
use Rattle.std.proofs.lemmas.List.{length-map}
use Rattle.std.proofs.Math.ListN.{get_or-map}
use Rattle.std.proofs.Math.Numerals.{add-one}
use Rattle.std.proofs.lemmas.List.Kept.{AllPairs-cons}
use Rattle.semver.specs.Identifiers.{parts_of}
use Rattle.semver.specs.Parse.{Parts}
use Rattle.semver.specs.declared.Version.{Version}
use Rattle.classes.specs.Classes.{class_view}
use Rattle.classes.specs.declared.class.Class as code
use Rattle.model.specs.Axioms.{is_lower}
use Rattle.model.specs.Content.{Problem, same_version, candidates_of}
use Rattle.model.specs.Order.{precedence, IsCatalogue}
use Rattle.model.specs.Selection.{Class, patch, minor, major}
use Rattle.model.specs.Summary.{Dependency}
use Rattle.model.specs.Vertices.{dep_classes, matching, same_class}
use Rattle.model.proofs.Candidates.{precedence_total}
use Rattle.model.proofs.Contents.{precedence-equal}
use Rattle.model.proofs.Lists.{pairs_first, pairs_none, pairs_rest, to_any}
use Rattle.model.proofs.Members.{all_in}
use Rattle.model.proofs.Orders.{not_lower_itself}
use Rattle.model.proofs.Same.{class-refl, class-same, version-same}
use Rattle.lookups.specs.inner.Ranges.{AreRising}
use Rattle.version_sets.specs.Sets.{has, none, only}
use Rattle.numbering.specs.inner.TestedTerms.{is_chosen, is_class}
use Rattle.numbering.proofs.ClassOrder.{Comes, classes_folded, folded, folded_in, neither, pairs_comes}
use Rattle.numbering.proofs.ClassOrder.{pairs_filter}
use Rattle.numbering.proofs.Distinct.{of_rows}
use Rattle.numbering.proofs.Tested.{map_map}

module _ {X : Type 0} (t : X → Bool) where
  pub none_pass : (xs : List X) → ((k : ℕ) (d : X) → k < length xs → t (get_or xs k d) ≡ false)
      → map t xs ≡ none (length xs)
  none_pass [] h = refl
  none_pass (x ∷ xs) h = ap₂ (λ b bs. b ∷ bs) (h 0 x (omega arith))
      (none_pass xs (λ k d within. h (suc k) d (omega (arith, within))))

  -- what passes at one place at most
  passes_once : (xs : List X) (p : ℕ) → ((k : ℕ) (d : X) → k < p → k < length xs → t (get_or xs k d) ≡ false)
      → ((k : ℕ) (d : X) → p < k → k < length xs → t (get_or xs k d) ≡ false)
      → map t xs ≡ cond (has (map t xs) p) (only (length xs) p) (none (length xs))
  passes_once [] p low high = refl
  passes_once (x ∷ xs) zero low high =
      by (t x) (none_pass xs (λ k d within. high (suc k) d (omega arith) (omega (arith, within))))
    where
      by : (b : Bool) → map t xs ≡ none (length xs)
          → b ∷ map t xs ≡ cond b (only (suc (length xs)) zero) (none (suc (length xs)))
      by true e = ap (λ bs. true ∷ bs) e
      by false e = ap (λ bs. false ∷ bs) e
  passes_once (x ∷ xs) (suc p) low high =
      by (has (map t xs) p) (low 0 x (omega arith) (omega arith))
      (passes_once xs p (λ k d less within. low (suc k) d (omega (arith, less)) (omega (arith, within)))
      (λ k d more within. high (suc k) d (omega (arith, more)) (omega (arith, within))))
    where
      by : (b : Bool) → t x ≡ false → map t xs ≡ cond b (only (length xs) p) (none (length xs))
          → t x ∷ map t xs ≡ cond b (only (suc (length xs)) (suc p)) (none (suc (length xs)))
      by true f e = ap₂ (λ c bs. c ∷ bs) f e
      by false f e = ap₂ (λ c bs. c ∷ bs) f e

  -- the same after absent
  pub found_alone : (R : X → X → Type 0) (b : X → Bool) → ((x : X) → b x ≡ true → t x ≡ false)
      → ((x y : X) → R x y → b x ≡ false → t y ≡ false) → (xs : List X) (p : ℕ) → AllPairs R xs
      → IsPartitionPoint (λ x. b x ≡ true) (λ x. b x ≡ false) xs p
      → cond (has (map t xs) p) (only (length xs + 1) (p + 1)) (none (length xs + 1)) ≡ false ∷ map t xs
  found_alone R b low high xs p rising point = by (has (map t xs) p) (passes_once xs p
      (λ k d less within. low (get_or xs k d) (point.0 k d (omega arith) less))
      (λ k d more within. high (get_or xs p d) (get_or xs k d) (rising p k d more within)
      (point.1 p d (omega arith) (omega (arith, more, within)))))
    where
      next : (c : Bool) → map t xs ≡ cond c (only (length xs) p) (none (length xs))
          → cond c (only (suc (length xs)) (suc p)) (none (suc (length xs))) ≡ false ∷ map t xs
      next true e = ap (λ bs. false ∷ bs) (sym e)
      next false e = ap (λ bs. false ∷ bs) (sym e)

      by : (c : Bool) → map t xs ≡ cond c (only (length xs) p) (none (length xs))
          → cond c (only (length xs + 1) (p + 1)) (none (length xs + 1)) ≡ false ∷ map t xs
      by c e = ap₂ (λ n i. cond c (only n i) (none n)) (add-one (length xs)) (add-one p) ∙ next c e

module _ {X : Type 0} (R : X → X → Type 0) (b : X → Bool) (before : (x y : X) → R x y → b y ≡ true → b x ≡ true) where
  parted : (xs : List X) → AllPairs R xs → IsPartitionedBy b xs
  parted xs rising i j d le within h = elim (cases_lt i j) [
    | inl less ↦ before (get_or xs i d) (get_or xs j d) (rising i j d less within) h
    | inr back ↦ let e : j ≡ i = omega arith in subst (λ n. b (get_or xs n d) ≡ true) e h
  ]

to_false : (b : Bool) → (b ≡ true → true ≡ false) → b ≡ false
to_false true h = h refl
to_false false h = refl

-- ---- classes

lower_on : (j k c : Class) → is_lower j k ≡ true → is_lower k c ≡ true → is_lower j c ≡ true
lower_on (patch a) (patch b) (patch n) h l = let x = ltb-true a b h in let y =
    ltb-true b n l in lt-ltb a n (omega arith)
lower_on (patch a) (minor b) (patch n) h l = absurd (true≢false (sym l))
lower_on (patch a) (major b) (patch n) h l = absurd (true≢false (sym l))
lower_on (patch a) k (minor n) h l = refl
lower_on (patch a) k (major n) h l = refl
lower_on (minor a) (patch b) c h l = absurd (true≢false (sym h))
lower_on (minor a) (minor b) (patch n) h l = absurd (true≢false (sym l))
lower_on (minor a) (minor b) (minor n) h l = let x = ltb-true a b h in let y =
    ltb-true b n l in lt-ltb a n (omega arith)
lower_on (minor a) (major b) (patch n) h l = absurd (true≢false (sym l))
lower_on (minor a) (major b) (minor n) h l = absurd (true≢false (sym l))
lower_on (minor a) k (major n) h l = refl
lower_on (major a) (patch b) c h l = absurd (true≢false (sym h))
lower_on (major a) (minor b) c h l = absurd (true≢false (sym h))
lower_on (major a) (major b) (patch n) h l = absurd (true≢false (sym l))
lower_on (major a) (major b) (minor n) h l = absurd (true≢false (sym l))
lower_on (major a) (major b) (major n) h l = let x = ltb-true a b h in let y =
    ltb-true b n l in lt-ltb a n (omega arith)

not_itself : (k : Class) → is_lower k k ≡ true → true ≡ false
not_itself k h = absurd (not_lower_itself k h)

abbrev pub AreLowest : List code.Class → Type 0
AreLowest ks = AllPairs (λ j k. is_lower (class_view j) (class_view k) ≡ true) ks

module _ (c : Class) where
  pub lower_parted : (ks : List code.Class) → AreLowest ks → IsPartitionedBy (λ k. is_lower (class_view k) c) ks
  lower_parted = parted (λ j k. is_lower (class_view j) (class_view k) ≡ true) (λ k. is_lower (class_view k) c)
      (λ j k. lower_on (class_view j) (class_view k) c)

  pub class_alone_is : (ks : List code.Class) (p : ℕ) → AreLowest ks
      → IsPartitionPoint (λ k. is_lower (class_view k) c ≡ true) (λ k. is_lower (class_view k) c ≡ false) ks p
      → cond (has (map (λ k. is_class c (class_view k)) ks) p) (only (length ks + 1) (p + 1)) (none (length ks + 1))
      ≡ false ∷ map (λ k. is_class c (class_view k)) ks
  unfolding is_class
  class_alone_is = found_alone (λ k. same_class (class_view k) c)
      (λ j k. is_lower (class_view j) (class_view k) ≡ true) (λ k. is_lower (class_view k) c)
      (λ k low. to_false (same_class (class_view k) c) (λ same. not_itself c
      (ap (λ m. is_lower m c) (sym (class-same (class_view k) c same)) ∙ low)))
      (λ j k low not_low. to_false (same_class (class_view k) c) (λ same.
      sym (ap (is_lower (class_view j)) (sym (class-same (class_view k) c same)) ∙ low) ∙ not_low))

-- ---- versions

lt_less : (o : Ordering) → is_lt o ≡ true → o ≡ Less
lt_less Less h = refl
lt_less Equal h = absurd (true≢false (sym h))
lt_less Greater h = absurd (true≢false (sym h))

module _ (c : Parts) where
  pub older_parted : (vs : List Version) → AreRising vs → IsPartitionedBy (λ v. is_lt (precedence (parts_of v) c)) vs
  older_parted = parted (λ v w. precedence (parts_of v) (parts_of w) ≡ Less) (λ v. is_lt (precedence (parts_of v) c))
      (λ v w less lt. ap is_lt (precedence_total.trans (parts_of v) (parts_of w) c less
      (lt_less (precedence (parts_of w) c) lt)))

  pub chosen_alone_is : (vs : List Version) (p : ℕ) → AreRising vs
      → IsPartitionPoint (λ v. is_lt (precedence (parts_of v) c) ≡ true)
      (λ v. is_lt (precedence (parts_of v) c) ≡ false) vs p
      → cond (has (map (λ w. is_chosen c (parts_of w)) vs) p) (only (length vs + 1) (p + 1)) (none (length vs + 1))
      ≡ false ∷ map (λ w. is_chosen c (parts_of w)) vs
  unfolding is_chosen
  chosen_alone_is = found_alone (λ v. same_version (parts_of v) c)
      (λ v w. precedence (parts_of v) (parts_of w) ≡ Less) (λ v. is_lt (precedence (parts_of v) c))
      (λ v lt. to_false (same_version (parts_of v) c) (λ same.
      sym lt ∙ ap is_lt (precedence-equal (parts_of v) c (version-same (parts_of v) c same))))
      (λ v w less not_lt. to_false (same_version (parts_of w) c) (λ same.
      sym (ap is_lt (ap (precedence (parts_of v)) (sym (version-same (parts_of w) c same)) ∙ less)) ∙ not_lt))

-- ---- the classes of a dependency rise

abbrev Rises : Class → Class → Type 0
Rises k m = is_lower k m ≡ true

folded_rise : (ks : List Class) → AllPairs Comes ks → AllPairs Rises (folded ks)
folded_rise [] h = pairs_none Rises
folded_rise (k ∷ ks) h = by (folded_rise ks (pairs_rest Comes k ks h)) (list_any (same_class k) (folded ks)) refl
  where
    higher : list_any (same_class k) (folded ks) ≡ false → (m : Class) → Contains (folded ks) m → (b : Bool)
        → is_lower k m ≡ b → b ≡ true
    higher e m c true l = refl
    higher e m c false l =
        let same : k ≡ m = neither k m l (pairs_first Comes k m ks h (folded_in ks m c)) in
        absurd (true≢false (sym (to_any (same_class k) (folded ks) m c
        (subst (λ x. same_class k x ≡ true) same (class-refl k))) ∙ e))

    by : AllPairs Rises (folded ks) → (b : Bool) → list_any (same_class k) (folded ks) ≡ b
        → AllPairs Rises (cond b (folded ks) (k ∷ folded ks))
    by rest true e = rest
    by rest false e = AllPairs-cons Rises k (folded ks)
        (all_in (Rises k) (folded ks) (λ m c. let r : is_lower k m ≡ true = higher e m c (is_lower k m) refl in r)) rest

classes_rise : (q : Problem) (d : Dependency) → IsCatalogue q → AllPairs Rises (dep_classes q d)
classes_rise q d known =
    subst (AllPairs Rises) (sym (classes_folded (matching q d)))
    (folded_rise _ (pairs_comes (matching q d)
    (pairs_filter _ (candidates_of q.candidates d.real_name) (of_rows q.candidates known.versions_rise d.real_name))))

pub are_lowest : (q : Problem) (d : Dependency) (ks : List code.Class) → IsCatalogue q
    → map class_view ks ≡ dep_classes q d → AreLowest ks
are_lowest q d ks known are = λ i j x less within.
    let rising : AllPairs Rises (map class_view ks) = subst (AllPairs Rises) (sym are) (classes_rise q d known) in
    subst (λ m. is_lower (class_view (get_or ks i x)) m ≡ true) (get_or-map class_view ks j x)
    (subst (λ m. is_lower m (get_or (map class_view ks) j (class_view x)) ≡ true) (get_or-map class_view ks i x)
    (rising i j (class_view x) less (omega (arith, within, length-map ks class_view))))

-- ---- as the states of a dependency

pub none_of_classes : (ks : List code.Class) (ms : List Class) → map class_view ks ≡ ms
    → true ∷ map (λ k. false) ks ≡ true ∷ map (λ m. false) ms
none_of_classes ks ms are =
    ap (λ l. true ∷ l) (sym (map_map (λ m. false) class_view ks) ∙ ap (map (λ m. false)) are)

pub one_of_classes : (c : Class) (ks : List code.Class) (ms : List Class) → map class_view ks ≡ ms
    → false ∷ map (λ k. is_class c (class_view k)) ks ≡ false ∷ map (is_class c) ms
one_of_classes c ks ms are =
    ap (λ l. false ∷ l) (sym (map_map (is_class c) class_view ks) ∙ ap (map (is_class c)) are)
