-- What is in the list of rules.
use Rattle.std.proofs.Common.{◌≡◌, ℕ, zero, suc, ◌+◌, List, [], ◌∷◌, Bool, true, false, cond, nat_eq, Some, None}
use Rattle.std.proofs.Common.{slice_get, unwrap_or, Contains, refl, sym, subst, inl, inr, arith}
use Rattle.std.specs.List.{flat_map}
use Rattle.std.proofs.lemmas.List.Elements.{Contains-append_cases, Contains-append_left, Contains-append_right}
use Rattle.facts.specs.declared.rule.Rule.{Rule}
use Rattle.model.specs.Summary.{Entry, Table, entries_at, same_text}
use Rattle.model.proofs.Same.{text-same}
use Rattle.model.proofs.Lists.{in_none, in_cons, in_first, in_rest}
use Rattle.model.proofs.Flat.{to_flat}
use Rattle.model.proofs.Places.{got_in}
use Rattle.facts.specs.inner.FactNumbers.{LinkView, FactNumbersView}
use Rattle.facts.specs.inner.RuleLists.{number_on, link_rules, entry_rules, root_rules, root_entries, root_table}
use Rattle.facts.specs.inner.RuleLists.{entries_rules, feature_rules, features_rules, table_rules, package_rules}
use Rattle.facts.specs.inner.RuleLists.{rules_from}
use Rattle.facts.specs.inner.RuleLists.{all_rules}

module _ {X : Type 0} where
  pub in_one : (x y : X) → Contains (x ∷ []) y → x ≡ y
  in_one x y c = elim (in_cons x y [] c) [ inl e ↦ e | inr c ↦ absurd (in_none y c) ]

-- the entries of a feature stand in a row of its name
pub row_of : (f : List ℕ) (rows : Table) (es : List Entry) → entries_at f rows ≡ Some es
    → (row : List ℕ × List Entry) × Contains rows row × (row.0 ≡ f) × (row.1 ≡ es)
row_of f [] es e = let z : None ≡ Some es = e in absurd cc
row_of f (row ∷ rows) es e = by (same_text f row.0) refl e (λ e. row_of f rows es e)
  where
    by : (b : Bool) → same_text f row.0 ≡ b → cond b (Some row.1) (entries_at f rows) ≡ Some es
        → (entries_at f rows ≡ Some es → (r : List ℕ × List Entry) × Contains rows r × (r.0 ≡ f) × (r.1 ≡ es))
        → (r : List ℕ × List Entry) × Contains (row ∷ rows) r × (r.0 ≡ f) × (r.1 ≡ es)
    by true x e rest = (row, in_first row rows, sym (text-same f row.0 x), let s : row.1 ≡ es = cc in s)
    by false x e rest = let r = rest e in (r.0, in_rest row r.0 rows r.1, r.2, r.3)

module _ (ps : List FactNumbersView) (root : ℕ) where
  -- a rule is one of some package
  in_from : (n : ℕ) (qs : List FactNumbersView) (r : Rule) → Contains (rules_from ps root n qs) r
      → (j : ℕ) × (p : FactNumbersView) × (slice_get qs j ≡ Some p)
      × Contains (package_rules ps (nat_eq (n + j) root) p) r
  in_from n [] r c = absurd (in_none r c)
  in_from n (q ∷ qs) r c =
      elim (Contains-append_cases (package_rules ps (nat_eq n root) q) (rules_from ps root (suc n) qs) r c) [
        | inl c ↦ (
          0,
          q,
          refl,
          let e : n ≡ n + 0 =
              omega arith in subst (λ m. Contains (package_rules ps (nat_eq m root) q) r) e c,
        )
        | inr c ↦
            let (j, p, got, has) = in_from (suc n) qs r c in (
              suc j,
              p,
              got,
              let e : suc n + j ≡ n + suc j =
                  omega arith in subst (λ m. Contains (package_rules ps (nat_eq m root) p) r) e has,
            )
      ]

  pub in_rules : (r : Rule) → Contains (all_rules root ps) r
      → (n : ℕ) × (p : FactNumbersView) × (slice_get ps n ≡ Some p) × Contains (package_rules ps (nat_eq n root) p) r
  in_rules r c =
      let (j, p, got, has) = in_from 0 ps r c in
      (j, p, got, let e : 0 + j ≡ j = omega arith in subst (λ m. Contains (package_rules ps (nat_eq m root) p) r) e has)

  to_from : (n : ℕ) (qs : List FactNumbersView) (j : ℕ) (p : FactNumbersView) (r : Rule) → slice_get qs j ≡ Some p
      → Contains (package_rules ps (nat_eq (n + j) root) p) r
      → Contains (rules_from ps root n qs) r
  to_from n [] j p r got c = let z : None ≡ Some p = got in absurd cc
  to_from n (q ∷ qs) zero p r got c =
      let s : p ≡ q = cc in
      let e : n + 0 ≡ n = omega arith in
      Contains-append_left (package_rules ps (nat_eq n root) q) (rules_from ps root (suc n) qs) r
      (subst (λ w. Contains (package_rules ps (nat_eq n root) w) r) s
      (subst (λ m. Contains (package_rules ps (nat_eq m root) p) r) e c))
  to_from n (q ∷ qs) (suc j) p r got c =
      let e : n + suc j ≡ suc n + j = omega arith in
      Contains-append_right (package_rules ps (nat_eq n root) q) (rules_from ps root (suc n) qs) r
      (to_from (suc n) qs j p r got (subst (λ m. Contains (package_rules ps (nat_eq m root) p) r) e c))

  to_rules : (n : ℕ) (p : FactNumbersView) (r : Rule) → slice_get ps n ≡ Some p
      → Contains (package_rules ps (nat_eq n root) p) r → Contains (all_rules root ps) r
  to_rules n p r got c = let e : n ≡ 0 + n =
      omega arith in to_from 0 ps n p r got (subst (λ m. Contains (package_rules ps (nat_eq m root) p) r) e c)

  abbrev all_links : Bool → FactNumbersView → List Rule
  all_links b p = flat_map (link_rules ps b p.here) p.links

  -- a rule of a dependency is among all
  pub to_link : (n : ℕ) (p : FactNumbersView) (i : ℕ) (l : LinkView) (r : Rule) → slice_get ps n ≡ Some p
      → slice_get p.links i ≡ Some l
      → Contains (link_rules ps (nat_eq n root) p.here l) r → Contains (all_rules root ps) r
  to_link n p i l r got at c = to_rules n p r got
      (Contains-append_left (all_links (nat_eq n root) p) (table_rules ps (nat_eq n root) p p.brings.features) r
      (to_flat (link_rules ps (nat_eq n root) p.here) p.links l r (got_in p.links i l at) c))

  abbrev root_part : Bool → FactNumbersView → List Rule
  root_part b p = cond b (root_table ps p p.brings.features) []

  -- a rule of an entry is among all
  pub to_entry : (n : ℕ) (p : FactNumbersView) (f : List ℕ) (es : List Entry) (e : Entry) (r : Rule)
      → slice_get ps n ≡ Some p → entries_at f p.brings.features ≡ Some es → Contains es e
      → Contains (entry_rules ps p (number_on p f) e) r → Contains (all_rules root ps) r
  to_entry n p f es e r got found has c =
      let rows = p.brings.features in
      let b = nat_eq n root in
      let row = row_of f rows es found in
      let all : Contains (feature_rules ps p rows f) r =
      subst (λ o. Contains (entries_rules ps p (number_on p f) (unwrap_or o [])) r) (sym found)
      (to_flat (entry_rules ps p (number_on p f)) es e r has c) in
      to_rules n p r got
      (Contains-append_right (all_links b p) (table_rules ps b p rows) r
      (Contains-append_left (features_rules ps p rows) (root_part b p) r
      (to_flat (λ row. feature_rules ps p rows row.0) rows row.0 r row.1
      (subst (λ g. Contains (feature_rules ps p rows g) r) (sym row.2) all))))

  -- a rule of an entry of the root is among all
  pub to_root : (n : ℕ) (p : FactNumbersView) (row : List ℕ × List Entry) (e : Entry) (r : Rule)
      → slice_get ps n ≡ Some p → nat_eq n root ≡ true → Contains p.brings.features row
      → Contains row.1 e → Contains (root_rules ps p e) r → Contains (all_rules root ps) r
  to_root n p row e r got z has m c =
      let rows = p.brings.features in
      let b = nat_eq n root in
      to_rules n p r got
      (Contains-append_right (all_links b p) (table_rules ps b p rows) r
      (Contains-append_right (features_rules ps p rows) (root_part b p) r
      (subst (λ b. Contains (root_part b p) r) (sym z)
      (to_flat (λ row. root_entries ps p row.1) rows row r has (to_flat (root_rules ps p) row.1 e r m c)))))
