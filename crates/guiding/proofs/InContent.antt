-- The state that a vertex has in a valid selection is the one that is found there.
use Rattle.std.proofs.Common.{◌≡◌, ℕ, suc, ◌+◌, ◌<◌, ◌≤◌, Bool, true, false, not, cond, List, [], ◌∷◌, map, length}
use Rattle.std.proofs.Common.{get_or, Option, Some, None, Contains, option_map, find, slice_get, refl, sym, ap, ◌∙◌}
use Rattle.std.proofs.Common.{subst, arith, ◌⊎◌, inl, inr, true≢false}
use Rattle.std.specs.List.{position, position_or_len}
use Rattle.std.specs.Option.{option_and_then}
use Rattle.std.specs.Prelude.{unwrap_or}
use Rattle.std.proofs.lemmas.Bool.{lt-ltb}
use Rattle.std.proofs.lemmas.List.{length-map}
use Rattle.std.proofs.lemmas.List.Quantifiers.{position-Some}
use Rattle.std.proofs.lemmas.Option.{none-some, same_Some, slice_get-get_or, slice_get-map}
use Rattle.semver.specs.Identifiers.{parts_of}
use Rattle.lockfile.specs.inner.Views.{package_view, package_views}
use Rattle.lockfile.specs.declared.package.Package as locked
use Rattle.model.specs.Content as model
use Rattle.model.specs.Content.{Problem, Content, last_serving, list_if}
use Rattle.model.specs.Summary.{Dependency}
use Rattle.model.specs.Selection.{Class, class_of, IsValidSelection}
use Rattle.model.specs.Vertices.{Owner, State, absent, version, in_class, dep, pkg, dep_classes, dep_space, has_state}
use Rattle.model.specs.Vertices.{owner_brings, same_class, space}
use Rattle.model.specs.inner.Assignment.{Leads}
use Rattle.model.proofs.Lists.{in_cons, in_map, in_none}
use Rattle.model.proofs.Owners.{owner_is, owner_package}
use Rattle.model.proofs.Same.{class-refl, class-same}
use Rattle.model.proofs.Spaces.{has_in_space, state_from}
use Rattle.guiding.specs.inner.Found.{is_locked, led_to, served_by, IsNumberOf, IsStateIn}
use Rattle.guiding.proofs.Owners.{find_seen, locked_found, owner_found}

-- ---- the first place that passes

module _ {X : Type 0} (t : X → Bool) where
  before_end : (xs : List X) (x : X) → Contains xs x → t x ≡ true → position_or_len t xs < length xs
  before_end [] x c h = absurd (in_none x c)
  before_end (y ∷ xs) x c h = by (λ c. before_end xs x c h) (t y) refl (in_cons y x xs c)
    where
      by : (Contains xs x → position_or_len t xs < length xs) → (b : Bool) → t y ≡ b → (y ≡ x) ⊎ Contains xs x
          → cond (not b) (1 + position_or_len t xs) 0 < suc (length xs)
      by rest true e s = omega arith
      by rest false e (inl s) = absurd (true≢false (sym h ∙ ap t (sym s) ∙ e))
      by rest false e (inr c) = let lt = rest c in omega (arith, lt)

  pub record Place (xs : List X) : Type 0 where
    pub i : ℕ
    pub x : X
    pub is : position t xs ≡ Some i
    pub within : i < length xs
    pub at : slice_get xs i ≡ Some x
    pub passes : t x ≡ true

  place : (xs : List X) (x : X) → Contains xs x → t x ≡ true → Place xs
  place xs x c h =
      let lt = before_end xs x c h in
      let is : position t xs ≡ Some (position_or_len t xs) =
      ap (λ b. cond b (Some (position_or_len t xs)) None) (lt-ltb (position_or_len t xs) (length xs) lt) in
      let found = position-Some t xs (position_or_len t xs) x is in
      record {
        i = position_or_len t xs;
        x = get_or xs (position_or_len t xs) x;
        is = is;
        within = lt;
        at =
            slice_get-get_or xs (position_or_len t xs) x lt;
        passes = found.1;
      }

-- ---- versions

module _ (q : Problem) (packages : List locked.Package) (valid : IsValidSelection q (package_views packages)) where
  seen : (name : List ℕ) (k : Class) (r : Option locked.Package)
      → r ≡ find (λ p. is_locked name k (package_view p)) packages
      → option_map package_view r ≡ find (is_locked name k) (package_views packages)
  seen name k r e = ap (option_map package_view) e ∙ find_seen package_view (is_locked name k) packages

  pub none_locked : (name : List ℕ) (k : Class) (r : Option ℕ) → None
      ≡ find (λ p. is_locked name k (package_view p)) packages → IsStateIn q (package_views packages) (pkg name k) r
  none_locked name k r e s (n, p, l, is) =
      absurd (none-some p (seen name k None e ∙ locked_found q (package_views packages) valid name k n p l))

  pub one_locked : (name : List ℕ) (k : Class) (p : locked.Package) (r : Option ℕ)
      → Some p ≡ find (λ p. is_locked name k (package_view p)) packages
      → (has_state (space q (pkg name k)) (version (parts_of p.version)) ≡ true
      → IsNumberOf q (pkg name k) (version (parts_of p.version)) r)
      → IsStateIn q (package_views packages) (pkg name k) r
  one_locked name k p r e numbered s (n, o, l, is) =
      let same : package_view p ≡ o = same_Some (package_view p) o
      (seen name k (Some p) e ∙ locked_found q (package_views packages) valid name k n o l) in
      let state : version (parts_of p.version) ≡ s = ap (λ (x : model.Package). version x.version) same ∙ sym is in
      subst (λ x. IsNumberOf q (pkg name k) x r) state
      (numbered (subst (λ x. has_state (space q (pkg name k)) x ≡ true) (sym state)
      (has_in_space q (package_views packages) valid (pkg name k) s (n, o, l, is))))

-- ---- classes

module _ (q : Problem) (content : Content) (valid : IsValidSelection q content) (o : Owner) (i : ℕ) where
  abbrev brought : Option Dependency
  brought = slice_get (owner_brings q o).dependencies i

  -- the dependency is the one that the owner brings
  there : (n t : ℕ) (d : Dependency) (p : model.Package) → Leads q content o i n t d p → brought ≡ Some d
  there n t d p l =
      subst (λ w. slice_get w.dependencies i ≡ Some d) (owner_is q content valid o n l.owner) (l.enabled).0

  -- and leads to the package that is found
  leads : (n t : ℕ) (d : Dependency) (p : model.Package) → Leads q content o i n t d p → led_to content o d ≡ Some p
  leads n t d p l =
      let r = owner_package q content valid o n l.owner in
      let target : last_serving content d (r.0).list ≡ Some t =
      ap (λ x. last_serving content d (list_if x)) (sym r.1) ∙ l.target in
      ap (option_and_then (λ (x : model.Package). served_by content d x.list))
      (owner_found q content valid o n l.owner ∙ r.1)
      ∙ ap (option_and_then (slice_get content)) target ∙ l.served

  module _ (d : Dependency) (got : Some d ≡ brought) where
    led : (n t : ℕ) (e : Dependency) (p : model.Package) → Leads q content o i n t e p → led_to content o d ≡ Some p
    led n t e p l = ap (led_to content o) (same_Some d e (got ∙ there n t e p l)) ∙ leads n t e p l

    pub none_led : (r : Option ℕ) → None ≡ led_to content o d → IsStateIn q content (dep o i) r
    none_led r e s (n, t, f, p, l, is) = absurd (none-some p (e ∙ led n t f p l))

    -- a class that the dependency has is one that it may lead to
    may_lead : (k : Class) → has_state (space q (dep o i)) (in_class k) ≡ true → Contains (dep_classes q d) k
    may_lead k h =
        let all : Contains (absent ∷ map in_class (dep_classes q d)) (in_class k) = subst
        (λ x. Contains (dep_space q x) (in_class k)) (sym got) (state_from (space q (dep o i)) (in_class k) h) in
        elim (in_cons absent (in_class k) (map in_class (dep_classes q d)) all) [
          | inl e ↦ absurd (never e)
          | inr c ↦ let r = in_map in_class (dep_classes q d) (in_class k) c in
              subst (λ x. Contains (dep_classes q d) x) (inner r.0 k r.2) r.1
        ]
      where
        never : absent ≡ in_class k → ⊥
        never e = cc

        inner : (x y : Class) → in_class x ≡ in_class y → x ≡ y
        inner x y e = cc

    -- the states of the dependency are absent and its classes
    states_are : space q (dep o i) ≡ absent ∷ map in_class (dep_classes q d)
    states_are = ap (dep_space q) (sym got)

    counted : length (space q (dep o i)) ≡ suc (length (dep_classes q d))
    counted = ap (λ (ss : List State). length ss) states_are ∙ ap suc (length-map (dep_classes q d) in_class)

    pub few_classes : (k : Class) (n : ℕ)
        → Some n ≡ option_map (λ x. suc x) (position (λ m. same_class m k) (dep_classes q d))
        → length (space q (dep o i)) ≤ 65536 → n ≤ 65535
    few_classes k n e few = by (position (λ m. same_class m k) (dep_classes q d)) refl e
      where
        by : (r : Option ℕ) → position (λ m. same_class m k) (dep_classes q d) ≡ r
            → Some n ≡ option_map (λ x. suc x) r → n ≤ 65535
        by None is e = absurd (none-some n (sym e))
        by (Some j) is e =
            let within = (position-Some (λ m. same_class m k) (dep_classes q d) j k is).0 in
            let same : n ≡ suc j = same_Some n (suc j) e in
            omega (arith, few, counted, within, same)

    numbered : (k : Class) → Contains (dep_classes q d) k → IsNumberOf q (dep o i) (in_class k)
        (option_map (λ x. suc x) (position (λ m. same_class m k) (dep_classes q d)))
    numbered k c =
        let w = place (λ m. same_class m k) (dep_classes q d) k c (class-refl k) in
        let same : w.x ≡ k = class-same w.x k w.passes in
        let read : slice_get (map in_class (dep_classes q d)) w.i ≡ Some (in_class k) =
        slice_get-map in_class (dep_classes q d) w.i ∙ ap (option_map in_class) (w.at ∙ ap Some same) in
        let within = w.within in (
          suc w.i,
          ap (option_map (λ x. suc x)) w.is,
          omega (arith, within, counted),
          ap (λ ss. unwrap_or (slice_get ss (suc w.i)) absent) states_are ∙ ap (λ x. unwrap_or x absent) read,
        )

    pub one_led : (p : model.Package) (k : Class) → Some p ≡ led_to content o d → k ≡ class_of p.version
        → IsStateIn q content (dep o i)
        (option_map (λ x. suc x) (position (λ m. same_class m k) (dep_classes q d)))
    one_led p k e at s (n, t, f, r, l, is) =
        let same : p ≡ r = same_Some p r (e ∙ led n t f r l) in
        let state : in_class k ≡ s =
        ap in_class at ∙ ap (λ (x : model.Package). in_class (class_of x.version)) same ∙ sym is in
        let has = has_in_space q content valid (dep o i) s (n, t, f, r, l, is) in
        subst (λ x. IsNumberOf q (dep o i) x
        (option_map (λ x. suc x) (position (λ m. same_class m k) (dep_classes q d)))) state
        (numbered k (may_lead k (subst (λ x. has_state (space q (dep o i)) x ≡ true) (sym state) has)))
