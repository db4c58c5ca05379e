-- The causes that are listed for a pair that is asked for after others.
use Rattle.std.proofs.Common.{◌≡◌, ◌⊎◌, ℕ, suc, zero, List, [], ◌∷◌, true, not, ◌&&◌, Contains}
use Rattle.std.proofs.Common.{Option, Some, None, nat_eq, refl, sym, ap, ◌∙◌, subst, inl, inr, true≢false, arith}
use Rattle.std.specs.List.{flat_map}
use Rattle.std.proofs.lemmas.Bool.{and_from, eq-eqb, ne_eqb, not-true}
use Rattle.std.proofs.lemmas.List.Elements.{Contains-append_cases, Contains-append_left, Contains-append_right}
use Rattle.model.specs.Summary.{Dependency, same_text}
use Rattle.model.specs.Content.{Problem}
use Rattle.model.specs.Selection.{Class}
use Rattle.model.specs.Vertices.{Owner, owner_brings, Vertex, dep, State, in_class, dep_classes, space}
use Rattle.model.specs.Axioms.{IsVertex, is_lower}
use Rattle.model.proofs.Flat.{in_flat, to_flat}
use Rattle.model.proofs.Lists.{in_none, in_cons, in_first, in_rest}
use Rattle.model.proofs.Same.{both, text-refl, text-same}
use Rattle.model.specs.Causes.{Cause, of_newest, dependency_at, has_class, is_cause}
use Rattle.model.proofs.Named.{class-is}
use Rattle.numbering.specs.inner.AskedFor.{AreBeside, HasOther, IsNoted, asked_causes, asked_leads, both_of, listed_at}
use Rattle.numbering.specs.inner.AskedFor.{newest_of}
use Rattle.numbering.specs.inner.CausesAt.{alone_causes, causes_at, each_from, lead_causes, newest_if, overtaken_if}
use Rattle.numbering.specs.inner.OnPackage.{is_other}
use Rattle.numbering.specs.Pairs.{Pair, first_pair, pairs_of}
use Rattle.numbering.specs.declared.noted.Noted.{Noted}
use Rattle.numbering.proofs.CausesLaws.{alone_there, is_listed, is_there, newest_is}
use Rattle.numbering.proofs.Each.{from_if, in_all, only_one, to_if}
use Rattle.numbering.proofs.ByKind.{first_named}

module _ (q : Problem) (ps : List (ℕ × Class)) where
  -- ---- no other is listed

  newest_there : (o : Owner) (i j : ℕ) (k m : Class) (p : Pair) (c : Cause) → Contains (newest_of q o i k j m) c
      → Contains (pairs_of (of_newest o i j k m)) p → (is_cause q c ≡ true) × Contains (pairs_of c) p
  newest_there o i j k m p c h named =
      let a = of_newest o i j k m in
      let r = from_if (is_cause q a) c (a ∷ []) h in
      let e : c ≡ a = only_one a c r.1 in
      (ap (is_cause q) e ∙ r.0, subst (λ x. Contains (pairs_of x) p) (sym e) named)

  both_there : (o : Owner) (i : ℕ) (k : Class) (c : Cause) → Contains (flat_map (both_of q o i k) ps) c
      → (is_cause q c ≡ true) × Contains (pairs_of c) (dep o i, in_class k)
  both_there o i k c h =
      let r = in_flat (both_of q o i k) ps c h in
      let j = (r.0).0 in
      let m = (r.0).1 in
      let one : Pair = (dep o i, in_class k) in
      let other : Pair = (dep o j, in_class m) in
      elim (Contains-append_cases (newest_of q o i k j m) (newest_of q o j m i k) c r.2) [
        | inl x ↦ newest_there o i j k m one c x (in_first one (other ∷ []))
        | inr y ↦ newest_there o j i m k one c y (in_rest other one (one ∷ []) (in_first one []))
      ]

  named : (v : Vertex) (s : State) (c : Cause) → (is_cause q c ≡ true) × (first_pair c ≡ (v, s))
      → (is_cause q c ≡ true) × Contains (pairs_of c) (v, s)
  named v s c (t, e) = (t, subst (Contains (pairs_of c)) e (first_named c))

  dep_there : (o : Owner) (i : ℕ) (k : Class) → IsVertex q (dep o i) → Contains (space q (dep o i)) (in_class k)
      → (c : Cause) → Contains (asked_leads q ps o i k (dependency_at q o i)) c
      → (is_cause q c ≡ true) × Contains (pairs_of c) (dep o i, in_class k)
  dep_there o i k is within c h = by (dependency_at q o i) refl h
    where
      by : (x : Option Dependency) → dependency_at q o i ≡ x → Contains (asked_leads q ps o i k x) c
          → (is_cause q c ≡ true) × Contains (pairs_of c) (dep o i, in_class k)
      by None e h = absurd (in_none c h)
      by (Some d) e h =
          elim (Contains-append_cases (alone_causes q o i k (Some d)) (flat_map (both_of q o i k) ps) c h) [
            | inl a ↦ named (dep o i) (in_class k) c (alone_there q o i k is within d e c a)
            | inr b ↦ both_there o i k c b
          ]

  pub next_there : (v : Vertex) (s : State) → IsVertex q v → Contains (space q v) s → (c : Cause)
      → Contains (asked_causes q ps v s) c → (is_cause q c ≡ true) × Contains (pairs_of c) (v, s)
  next_there (dep o i) (in_class k) is within c h = dep_there o i k is within c h
  next_there v s is within c h = named v s c (is_there q v s is within c h)

  -- ---- and each is

  lead_in : (o : Owner) (i : ℕ) (k : Class) (d : Dependency) (c : Cause) → dependency_at q o i ≡ Some d
      → Contains (asked_leads q ps o i k (Some d)) c → Contains (asked_leads q ps o i k (dependency_at q o i)) c
  lead_in o i k d c e h = subst (λ x. Contains (asked_leads q ps o i k x) c) (sym e) h

  -- one that names one pair
  alone_in : (v : Vertex) (s : State) (c : Cause) → pairs_of c ≡ first_pair c ∷ [] → Contains (causes_at q v s) c
      → Contains (asked_causes q ps v s) c
  alone_in (dep o i) (in_class k) c one h = by (dependency_at q o i) h
    where
      two : (a b d : Pair) → a ∷ b ∷ [] ≡ d ∷ [] → ⊥
      two a b d e = let n : suc (suc zero) ≡ suc zero = ap Rattle.std.proofs.Common.length e in omega (arith, n)

      by : (x : Option Dependency) → Contains (lead_causes q o i k x) c → Contains (asked_leads q ps o i k x) c
      by None h = h
      by (Some d) h = elim (Contains-append_cases (alone_causes q o i k (Some d))
          (each_from (newest_if q o i k d) 0 (owner_brings q o).dependencies) c h) [
            | inl a ↦ Contains-append_left (alone_causes q o i k (Some d)) (flat_map (both_of q o i k) ps) c a
            | inr b ↦
                let r = in_all (newest_if q o i k d) (owner_brings q o).dependencies c b in
                let u = from_if (is_other i d.real_name r.0 r.1) c
                (flat_map (overtaken_if q o i k d r.0) (dep_classes q r.1)) r.3 in
                let x = in_flat (overtaken_if q o i k d r.0) (dep_classes q r.1) c u.1 in
                let w = from_if (is_lower k x.0 && has_class q x.0 d) c (of_newest o i r.0 k x.0 ∷ []) x.2 in
                absurd (two _ _ _ (subst (λ y. pairs_of y ≡ first_pair y ∷ [])
                (only_one (of_newest o i r.0 k x.0) c w.1) one))
          ]
  alone_in v s c one h = h

  one_in : (c : Cause) (v : Vertex) (s : State) → is_cause q c ≡ true → pairs_of c ≡ first_pair c ∷ []
      → Contains (pairs_of c) (v, s) → Contains (asked_causes q ps v s) c
  one_in c v s t one here =
      let e : (v, s) ≡ first_pair c = only_one (first_pair c) (v, s) (subst (λ l. Contains l (v, s)) one here) in
      subst (λ (p : Pair). Contains (asked_causes q ps p.0 p.1) c) (sym e)
      (alone_in (first_pair c).0 (first_pair c).1 c one (is_listed q c t))

  -- ---- one that names two

  abbrev IsOrNoted : Noted → Pair → Pair → Type 0
  IsOrNoted ns p r = (r ≡ p) ⊎ IsNoted q ns r

  -- what its being there says of the two
  newest_names : (o : Owner) (i j : ℕ) (k m : Class) → is_cause q (of_newest o i j k m) ≡ true → (i ≡ j → ⊥)
      × (d : Dependency) × (e : Dependency) × (dependency_at q o i ≡ Some d) × (dependency_at q o j ≡ Some e)
      × (d.real_name ≡ e.real_name) × (is_lower k m ≡ true) × Contains (dep_classes q d) m
  newest_names o i j k m t =
      let r = newest_is q o i j k m t in
      let x = both (not (nat_eq i j)) (same_text (r.0).real_name (r.1).real_name) r.4 in
      let y = both (is_lower k m) (has_class q m r.0) r.7 in (
        λ e. true≢false (sym (eq-eqb i j e) ∙ not-true (nat_eq i j) x.0),
        r.0,
        r.1,
        r.2,
        r.3,
        text-same (r.0).real_name (r.1).real_name x.1,
        y.0,
        class-is q r.0 m y.1,
      )

  -- each is another one for the other
  other_on : (o : Owner) (i j : ℕ) (d e : Dependency) → (i ≡ j → ⊥) → d.real_name ≡ e.real_name
      → dependency_at q o j ≡ Some e → HasOther q o i d
  other_on o i j d e ne same at = (
    j,
    e,
    at,
    and_from (not (nat_eq i j)) (same_text d.real_name e.real_name)
        (ap not (ne_eqb i j ne)) (subst (λ n. same_text d.real_name n ≡ true) same (text-refl d.real_name)),
  )

  same_number : (o : Owner) (i j : ℕ) → dep o i ≡ dep o j → i ≡ j
  same_number o i j e = cc

  -- another pair than this one is noted
  others : (ns : Noted) (o : Owner) (i j : ℕ) (k m : Class) → (j ≡ i → ⊥)
      → IsOrNoted ns (dep o i, in_class k) (dep o j, in_class m) → IsNoted q ns (dep o j, in_class m)
  others ns o i j k m ne (inl x) = absurd (ne (same_number o j i (ap (λ (p : Pair). p.0) x)))
  others ns o i j k m ne (inr noted) = noted

  both_in : (o : Owner) (i j : ℕ) (k m : Class) (d : Dependency) (c : Cause) → dependency_at q o i ≡ Some d
      → Contains ps (j, m) → Contains (both_of q o i k (j, m)) c
      → Contains (asked_causes q ps (dep o i) (in_class k)) c
  both_in o i j k m d c at there h = lead_in o i k d c at
      (Contains-append_right (alone_causes q o i k (Some d)) (flat_map (both_of q o i k) ps) c
      (to_flat (both_of q o i k) ps (j, m) c there h))

  newest_in : (ns : Noted) (o : Owner) (i j : ℕ) (k m : Class) (v : Vertex) (s : State) → AreBeside q ns (v, s) ps
      → is_cause q (of_newest o i j k m) ≡ true → Contains (pairs_of (of_newest o i j k m)) (v, s)
      → ((r : Pair) → Contains (pairs_of (of_newest o i j k m)) r → IsOrNoted ns (v, s) r)
      → Contains (asked_causes q ps v s) (of_newest o i j k m)
  newest_in ns o i j k m v s are t here all =
      let r = newest_names o i j k m t in
      let d = r.1 in
      let e = r.2 in
      let c = of_newest o i j k m in
      let first : Pair = (dep o i, in_class k) in
      let second : Pair = (dep o j, in_class m) in
      let pair : Pair = (v, s) in
      let of_first : HasOther q o i d = other_on o i j d e r.0 r.5 r.4 in
      let of_second : HasOther q o j e = other_on o j i e d (λ x. r.0 (sym x)) (sym r.5) r.3 in
      let higher : Contains (newest_of q o i k j m) c = to_if (is_cause q c) c (c ∷ []) t (in_first c []) in
      elim (in_cons first pair (second ∷ []) here) [
        | inl x ↦
            let p : IsOrNoted ns pair second = all second (in_rest first second (second ∷ []) (in_first second [])) in
            let noted = others ns o i j k m (λ e. r.0 (sym e)) (subst (λ y. IsOrNoted ns y second) (sym x) p) in
            subst (λ (p : Pair). Contains (asked_causes q ps p.0 p.1) c) x (both_in o i j k m d c r.3
            ((subst (λ p. AreBeside q ns p ps) (sym x) are o i d k refl r.3 of_first).higher m r.7 r.6 (j, m)
            (subst (λ n. Contains (listed_at ns.here o n m) (j, m)) (sym r.5) (noted o j e m refl r.4 of_second).here))
            (Contains-append_left (newest_of q o i k j m) (newest_of q o j m i k) c higher))
        | inr y ↦
            let x : pair ≡ second = only_one second pair y in
            let p : IsOrNoted ns pair first = all first (in_first first (second ∷ [])) in
            let noted = others ns o j i m k r.0 (subst (λ y. IsOrNoted ns y first) x p) in
            subst (λ (p : Pair). Contains (asked_causes q ps p.0 p.1) c) (sym x) (both_in o j i m k e c r.4
            ((subst (λ p. AreBeside q ns p ps) x are o j e m refl r.4 of_second).lower (i, k)
            (subst (λ n. Contains (listed_at ns.lower o n m) (i, k)) r.5
            ((noted o i d k refl r.3 of_first).lower m r.7 r.6)))
            (Contains-append_right (newest_of q o j m i k) (newest_of q o i k j m) c higher))
      ]

  -- ---- so each that names the pair, and none beside it but those that were noted

  -- a cause of the pair that names others only of a kind is listed
  abbrev IsListed : (Pair → Type 0) → Vertex → State → Cause → Type 0
  IsListed Is v s c = is_cause q c ≡ true → Contains (pairs_of c) (v, s)
      → ((r : Pair) → Contains (pairs_of c) r → (r ≡ (v, s)) ⊎ Is r) → Contains (asked_causes q ps v s) c

  pub next_listed : (ns : Noted) (v : Vertex) (s : State) (c : Cause) → AreBeside q ns (v, s) ps
      → IsListed (IsNoted q ns) v s c
  next_listed ns v s (of_newest o i j k m) are = newest_in ns o i j k m v s are
  next_listed ns v s c are = λ t here all. one_in c v s t refl here

  -- two dependencies aren't one pair
  pub first_listed : (v : Vertex) (s : State) (c : Cause) → IsListed (λ r. ⊥) v s c
  first_listed v s (of_newest o i j k m) = λ t here all.
      let first : Pair = (dep o i, in_class k) in
      let second : Pair = (dep o j, in_class m) in
      let one = alone first (all first (in_first first (second ∷ []))) in
      let other = alone second (all second (in_rest first second (second ∷ []) (in_first second []))) in
      absurd ((newest_names o i j k m t).0 (same_number o i j (ap (λ (p : Pair). p.0) (one ∙ sym other))))
    where
      alone : (r : Pair) → (r ≡ (v, s)) ⊎ ⊥ → r ≡ (v, s)
      alone r (inl e) = e
      alone r (inr x) = absurd x
  first_listed v s c = λ t here all. one_in c v s t refl here
