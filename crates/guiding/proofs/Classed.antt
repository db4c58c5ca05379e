-- The place of a version after those of lower classes is its place in its class.
use Rattle.std.proofs.Common.{◌≡◌, ℕ, zero, suc, ◌+◌, ◌-◌, ◌<◌, ◌≤◌, Bool, true, false, not, cond, List, [], ◌∷◌, map}
use Rattle.std.proofs.Common.{filter, take, drop, length, get_or, Option, Some, None, Contains, option_map, slice_get}
use Rattle.std.proofs.Common.{refl, sym, ap, ◌∙◌, subst, arith, inl, inr, true≢false}
use Rattle.std.specs.List.{All}
use Rattle.std.specs.List.Sorted.{IsPartitionPoint}
use Rattle.std.specs.Prelude.{unwrap_or}
use Rattle.std.proofs.lemmas.Bool.{cases_lt, not-true}
use Rattle.std.proofs.lemmas.List.{get_or-drop, length-drop, length-map, take_rest}
use Rattle.std.proofs.lemmas.Option.{none-some, same_Some, slice_get-map, slice_get_within, get_or_from_slice_get}
use Rattle.semver.specs.Identifiers.{parts_of}
use Rattle.semver.specs.Parse.{Parts}
use Rattle.semver.specs.declared.Version.{Version}
use Rattle.model.specs.Axioms.{is_lower}
use Rattle.model.specs.Content.{same_version}
use Rattle.model.specs.Selection.{Class, class_of}
use Rattle.model.specs.Vertices.{absent, version, has_state, pkg, same_class, space}
use Rattle.model.proofs.Lists.{in_cons, in_filter, in_map}
use Rattle.model.proofs.Orders.{not_lower_itself}
use Rattle.model.proofs.Same.{class-same, version-refl}
use Rattle.model.proofs.Spaces.{state_from}
use Rattle.manifest.specs.Manifests.{ManifestView}
use Rattle.catalogue.specs.Problems.{problem_in}
use Rattle.catalogue.specs.Stores.{CatalogueView, candidates_at}
use Rattle.lookups.specs.inner.Ranges.{AreRising, is_above, is_below, is_of}
use Rattle.lookups.proofs.Pieces.{above_parted, apart_below, neither, parts_filtered, skipped}
use Rattle.numbering.proofs.Stated.{versions_counted, versions_space}
use Rattle.numbering.proofs.Tested.{states_here}
use Rattle.guiding.specs.inner.Found.{IsNumberOf}

-- ---- classes

not_above : (k c : Class) → same_class k c ≡ true → is_lower k c ≡ false
not_above k c same = by (is_lower k c) refl
  where
    by : (b : Bool) → is_lower k c ≡ b → b ≡ false
    by false e = refl
    by true e = absurd (not_lower_itself k (ap (is_lower k) (class-same k c same) ∙ e))

not_below : (k c : Class) → same_class k c ≡ true → is_lower c k ≡ false
not_below k c same = by (is_lower c k) refl
  where
    by : (b : Bool) → is_lower c k ≡ b → b ≡ false
    by false e = refl
    by true e = absurd (not_lower_itself c (ap (is_lower c) (sym (class-same k c same)) ∙ e))

-- ---- a filtered list

module _ {X : Type 0} (p : X → Bool) where
  -- what passes at the front stays where it is
  kept_at : (xs : List X) (i : ℕ) (x : X) → slice_get xs i ≡ Some x
      → ((k : ℕ) (d : X) → k ≤ i → p (get_or xs k d) ≡ true) → slice_get (filter p xs) i ≡ Some x
  kept_at [] i x got h = absurd (none-some x got)
  kept_at (y ∷ xs) zero x got h =
      ap (λ b. slice_get (cond b (y ∷ filter p xs) (filter p xs)) 0) (h 0 y (omega arith)) ∙ got
  kept_at (y ∷ xs) (suc i) x got h =
      ap (λ b. slice_get (cond b (y ∷ filter p xs) (filter p xs)) (suc i)) (h 0 y (omega arith))
      ∙ kept_at xs i x got (λ k d le. h (suc k) d (omega (arith, le)))

-- ---- versions

module _ (k : Class) (vs : List Version) (i : ℕ) (rising : AreRising vs)
    (first : IsPartitionPoint (λ v. is_below k (parts_of v) ≡ true) (λ v. is_below k (parts_of v) ≡ false) vs i) where
  abbrev passes : Version → Bool
  passes v = is_of k (parts_of v)

  -- those after the first, up to one of the class, are of it
  of_class : (j : ℕ) (x : Version) → slice_get (drop i vs) j ≡ Some x → is_of k (parts_of x) ≡ true
      → (n : ℕ) (d : Version) → n ≤ j → is_of k (parts_of (get_or (drop i vs) n d)) ≡ true
  of_class j x got is n d le =
      let long = length-drop i vs in
      let within = slice_get_within (drop i vs) j x got in
      let here : get_or vs (i + j) d ≡ x = sym (get_or-drop i vs j d) ∙ get_or_from_slice_get (drop i vs) j x d got in
      let last : not (is_above k (parts_of (get_or vs (i + j) d))) ≡ true =
      ap (λ v. not (is_above k (parts_of v))) here ∙ ap not (not_above k (class_of (parts_of x)) is) in
      let low = first.1 (i + n) d (omega arith) (omega (arith, le, within, long)) in
      let high = not-true (is_above k (parts_of (get_or vs (i + n) d)))
      (above_parted k vs rising (i + n) (i + j) d (omega (arith, le)) (omega (arith, within, long)) last) in
      ap (λ v. is_of k (parts_of v)) (get_or-drop i vs n d)
      ∙ neither k (class_of (parts_of (get_or vs (i + n) d))) low high

  -- one of the class has there the place that it has among those of the class
  placed : (j : ℕ) (x : Version) → slice_get (drop i vs) j ≡ Some x → is_of k (parts_of x) ≡ true
      → slice_get (filter passes vs) j ≡ Some x
  placed j x got is =
      ap (λ ws. slice_get ws j) (skipped passes vs i
      (λ n d low within. apart_below k (class_of (parts_of (get_or vs n d))) (first.0 n d (omega arith) low)))
      ∙ kept_at passes (drop i vs) j x got (λ n d le. of_class j x got is n d le)

  under : (j : ℕ) (p : Parts) (o : Option Version) → option_map parts_of o ≡ Some p
      → (x : Version) × (o ≡ Some x) × (parts_of x ≡ p)
  under j p None e = absurd (none-some p e)
  under j p (Some x) e = (x, refl, same_Some (parts_of x) p e)

  module _ (m : ManifestView) (c : CatalogueView) (name : List ℕ)
      (are : map parts_of vs ≡ map (λ r. r.version) (candidates_at c name)) (p : Parts)
      (state : has_state (space (problem_in m c) (pkg name k)) (version p) ≡ true) where
    those : map parts_of (filter passes vs) ≡ filter (is_of k) (map (λ r. r.version) (candidates_at c name))
    those = parts_filtered (is_of k) vs ∙ ap (filter (is_of k)) are

    -- the version is one of the name and the class
    is_there : Contains (map parts_of vs) p × (is_of k p ≡ true)
    is_there =
        let all = states_here m c name k (filter passes vs) those in
        let there : Contains (absent ∷ map version (map parts_of (filter passes vs))) (version p) =
        subst (λ ss. Contains (absent ∷ ss) (version p)) all
        (state_from (space (problem_in m c) (pkg name k)) (version p) state) in
        elim (in_cons absent (version p) (map version (map parts_of (filter passes vs))) there) [
          | inl e ↦ absurd (never e)
          | inr h ↦
              let r = in_map version (map parts_of (filter passes vs)) (version p) h in
              let same : r.0 ≡ p = inner r.0 p r.2 in
              in_filter (is_of k) (map parts_of vs) p (subst (λ ps. Contains ps p) (parts_filtered (is_of k) vs)
              (subst (λ x. Contains (map parts_of (filter passes vs)) x) same r.1))
        ]
      where
        never : absent ≡ version p → ⊥
        never e = cc

        inner : (x y : Parts) → version x ≡ version y → x ≡ y
        inner x y e = cc

    -- so it is found ..
    missing : All (λ v. same_version p (parts_of v) ≡ false) (drop i vs) → ⊥
    missing none =
        let r = in_map parts_of vs p is_there.0 in
        let v = r.0 in
        let n = (r.1).0 in
        let within : n < length vs = (r.1).1 in
        let got : get_or vs n v ≡ v = (r.1).2 in
        let long = length-drop i vs in
        elim (cases_lt n i) [
          | inl low ↦
              let below = first.0 n v (omega arith) low in
              let not_it = not_below k (class_of (parts_of v)) (ap (is_of k) r.2 ∙ is_there.1) in
              absurd (true≢false (sym below ∙ ap (λ w. is_below k (parts_of w)) got ∙ not_it))
          | inr le ↦
              let at : get_or (drop i vs) (n - i) v ≡ v = get_or-drop i vs (n - i) v
              ∙ (let e : i + (n - i) ≡ n = omega (arith, le) in ap (λ x. get_or vs x v) e) ∙ got in
              absurd (true≢false (sym (version-refl p) ∙ ap (same_version p) (sym r.2 ∙ ap parts_of (sym at))
              ∙ none (n - i) v (omega (arith, le, within, long))))
        ]

    -- .. and its number is that of the state
    numbered : (j : ℕ) → slice_get (map parts_of (drop i vs)) j ≡ Some p
        → IsNumberOf (problem_in m c) (pkg name k) (version p) (Some (j + 1))
    numbered j got =
        let (x, here, same) = under j p (slice_get (drop i vs) j) (sym (slice_get-map parts_of (drop i vs) j) ∙ got) in
        let at = placed j x here (ap (is_of k) same ∙ is_there.1) in
        let within = slice_get_within (filter passes vs) j x at in
        let counted = versions_counted m c name k (filter passes vs) those in
        let one : j + 1 ≡ suc j = omega arith in
        let read : slice_get (map (λ v. version (parts_of v)) (filter passes vs)) j ≡ Some (version p) =
        slice_get-map (λ v. version (parts_of v)) (filter passes vs) j ∙ ap (option_map (λ v. version (parts_of v))) at
        ∙ ap (λ w. Some (version w)) same in (
          suc j,
          ap Some one,
          omega (arith, within, counted),
          sym (versions_space m c name k (filter passes vs) (suc j) those) ∙ ap (λ o. unwrap_or o absent) read,
        )

-- ---- with the versions after the first as a piece

module _ (k : Class) (vs : List Version) (i : ℕ) (rising : AreRising vs)
    (first : IsPartitionPoint (λ v. is_below k (parts_of v) ≡ true) (λ v. is_below k (parts_of v) ≡ false) vs i)
    (m : ManifestView) (c : CatalogueView) (name : List ℕ)
    (are : map parts_of vs ≡ map (λ r. r.version) (candidates_at c name)) (p : Parts)
    (state : has_state (space (problem_in m c) (pkg name k)) (version p) ≡ true) where
  pub not_missing : All (λ v. same_version p (parts_of v) ≡ false) (take (length vs - i) (drop i vs)) → ⊥
  not_missing none = missing k vs i rising first m c name are p state
      (subst (λ ws. All (λ v. same_version p (parts_of v) ≡ false) ws) (take_rest vs i) none)

  pub is_number : (j : ℕ) → slice_get (map parts_of (take (length vs - i) (drop i vs))) j ≡ Some p
      → IsNumberOf (problem_in m c) (pkg name k) (version p) (Some (j + 1))
  is_number j got = numbered k vs i rising first m c name are p state j
      (ap (λ ws. slice_get (map parts_of ws) j) (sym (take_rest vs i)) ∙ got)

-- there are few
pub few_places : (vs : List Version) (i j : ℕ) (p : Parts) → length vs ≤ 65535
    → slice_get (map parts_of (take (length vs - i) (drop i vs))) j ≡ Some p → j < 65535
few_places vs i j p few got =
    let within = slice_get_within (map parts_of (drop i vs)) j p
    (ap (λ ws. slice_get (map parts_of ws) j) (sym (take_rest vs i)) ∙ got) in
    let mapped = length-map (drop i vs) parts_of in
    let long = length-drop i vs in
    omega (arith, few, within, mapped, long)
