-- What goes through the kinds: the pairs that a cause names, its terms, and the terms of an instance.
use Rattle.std.proofs.Common.{◌≡◌, ℕ, List, [], ◌∷◌, map, filter, Bool, true, false, Contains, Option, Some, None}
use Rattle.std.proofs.Common.{refl, sym, ap, ◌∙◌, subst, inl, inr, arith}
use Rattle.std.specs.List.{AllByRecursion}
use Rattle.semver.specs.Parse.{Parts}
use Rattle.model.specs.Summary.{Dependency}
use Rattle.model.specs.Content.{Candidate, Problem, candidates_of}
use Rattle.model.specs.Selection.{Class, class_of}
use Rattle.model.specs.Vertices.{Owner, the_root, version_of, Vertex, root, pkg, dep, feat, ask, State, absent, present}
use Rattle.model.specs.Vertices.{version, in_class, has_state, dep_classes, dep_space, in_that_class, class_candidates}
use Rattle.model.specs.Vertices.{space}
use Rattle.model.specs.Axioms.{Term, at, Kind, Root, IsOwner, IsVertex, HasDep, HasClass, owner_holds, absent_or}
use Rattle.model.specs.Axioms.{versions_that, IsInstance}
use Rattle.model.specs.Axioms.IsInstance.{root_is, needed, has_target, has_its_feature, wants_by_list, wants_by_entry}
use Rattle.model.specs.Axioms.IsInstance.{feature_on, dependency_on, feature_asks, newest_listed, weakly}
use Rattle.model.specs.Causes.{Cause, of_root, of_need, of_target, of_list, of_ask, of_newest, of_weak, kind_of}
use Rattle.model.specs.Causes.{dependency_at, is_cause, feature_holds, terms_with, terms_of_cause}
use Rattle.model.specs.Derivation.{states_at}
use Rattle.model.proofs.Accepted.{instance_apart}
use Rattle.model.proofs.CauseLaws.{cause_instance}
use Rattle.model.proofs.Lists.{in_cons, in_first, in_rest, in_filter, to_filter, in_map, to_map}
use Rattle.model.proofs.Reading.{states_own}
use Rattle.model.proofs.Same.{class-refl}
use Rattle.model.proofs.Spaces.{state_in, state_from, absent_in_space}
use Rattle.vertices.specs.Texts.{kind_at, kind_number}
use Rattle.numbering.specs.Pairs.{Pair, owner_pair, first_pair, pairs_of}
use Rattle.numbering.specs.inner.Absences.{has_absent, OneAbsent}
use Rattle.numbering.proofs.Each.{only_one}

-- ---- the pairs of a cause

-- the first is one of them
pub first_named : (c : Cause) → Contains (pairs_of c) (first_pair c)
first_named (of_newest o i j k m) = in_first _ ((dep o j, in_class m) ∷ [])
first_named c = in_first _ []

-- what holds of the first, and of the second of two, holds of each
each_pair : (P : Cause → Pair → Type 0) → ((c : Cause) → P c (first_pair c))
    → ((o : Owner) (i j : ℕ) (k m : Class) → P (of_newest o i j k m) (dep o j, in_class m))
    → (c : Cause) (p : Pair) → Contains (pairs_of c) p → P c p
each_pair P first second (of_newest o i j k m) p h =
    elim (in_cons (dep o i, in_class k) p ((dep o j, in_class m) ∷ []) h) [
      | inl e ↦ subst (P (of_newest o i j k m)) e (first (of_newest o i j k m))
      | inr n ↦ subst (P (of_newest o i j k m)) (sym (only_one (dep o j, in_class m) p n)) (second o i j k m)
    ]
each_pair P first second c p h = subst (P c) (sym (only_one (first_pair c) p h)) (first c)

-- only the root's is with absent
pub only_root : (c : Cause) (v : Vertex) → Contains (pairs_of c) (v, absent) → c ≡ of_root
only_root c v h = each_pair (λ c p. p.1 ≡ absent → c ≡ of_root) first (λ o i j k m e. cc) c (v, absent) h refl
  where
    first : (c : Cause) → (first_pair c).1 ≡ absent → c ≡ of_root
    first of_root e = refl
    first (of_need the_root i) e = cc
    first c e = cc

-- ---- the terms of an instance

owner_not : (o : Owner) → has_absent (owner_holds o) ≡ false
owner_not the_root = refl
owner_not (version_of name v) = refl

module _ (q : Problem) where
  pub instance_one_absent : (k : Kind) (ts : List Term) → IsInstance q k ts → OneAbsent ts
  instance_one_absent k ts root_is = inr tt
  instance_one_absent k ts (needed o i d has n) = inl (owner_not o, inr tt)
  instance_one_absent k ts (has_target o i d m has c) = inl (refl, inr tt)
  instance_one_absent k ts (has_its_feature name m f v) = inl (refl, inr tt)
  instance_one_absent k ts (wants_by_list o i d m g has c a) = inl (refl, inr tt)
  instance_one_absent k ts (weakly name v i d m f g has c e n) = inl (refl, inl (refl, inl (refl, inr tt)))
  instance_one_absent k ts is = inl (refl, inl (refl, inr tt))

  abbrev In : Vertex → List State → Type 0
  In v ss = (s : State) → has_state ss s ≡ true → has_state (space q v) s ≡ true

  -- each state of the terms is one of its vertex's
  abbrev pub AreWithin : List Term → Type 0
  AreWithin ts = AllByRecursion (λ t. In t.vertex t.states) ts

  -- there is a first term, and its vertex is there
  abbrev FirstIsThere : List Term → Type 0
  FirstIsThere [] = ⊥
  FirstIsThere (t ∷ ts) = IsVertex q t.vertex

  one : (v : Vertex) (s : State) → has_state (space q v) s ≡ true → In v (s ∷ [])
  one v s there r h =
      subst (λ x. has_state (space q v) x ≡ true) (sym (only_one s r (state_from (s ∷ []) r h))) there

  absent_alone : (v : Vertex) → In v (absent ∷ [])
  absent_alone v = one v absent (absent_in_space q v)

  abbrev versions : List ℕ → Class → List State
  versions name k = map (λ c. version c.version) (class_candidates q name k)

  version_in : (name : List ℕ) (k : Class) (c : Candidate) → Contains (class_candidates q name k) c
      → has_state (space q (pkg name k)) (version c.version) ≡ true
  version_in name k c h = state_in (space q (pkg name k)) (version c.version) (in_rest absent (version c.version)
      (versions name k) (to_map (λ (c : Candidate). version c.version) (class_candidates q name k) c h))

  versions_in : (test : Candidate → Bool) (name : List ℕ) (k : Class) → In (pkg name k) (versions_that q test name k)
  versions_in test name k s h =
      let r = in_map (λ (c : Candidate). version c.version) (filter test (class_candidates q name k)) s
      (state_from (versions_that q test name k) s h) in
      subst (λ x. has_state (space q (pkg name k)) x ≡ true) r.2
      (version_in name k r.0 (in_filter test (class_candidates q name k) r.0 r.1).0)

  absent_or_in : (test : Candidate → Bool) (name : List ℕ) (k : Class) → In (pkg name k) (absent_or q test name k)
  absent_or_in test name k s h =
      elim (in_cons absent s (versions_that q test name k) (state_from (absent_or q test name k) s h)) [
        | inl e ↦ subst (λ x. has_state (space q (pkg name k)) x ≡ true) e (absent_in_space q (pkg name k))
        | inr c ↦ versions_in test name k s (state_in (versions_that q test name k) s c)
      ]

  candidate_there : (name : List ℕ) (v : Parts) (c : Candidate) → Contains (candidates_of q.candidates name) c
      → c.version ≡ v → Contains (class_candidates q name (class_of v)) c
  candidate_there name v c i e = subst (λ w. Contains (class_candidates q name (class_of w)) c) e (to_filter
      (in_that_class (class_of c.version)) (candidates_of q.candidates name) c i (class-refl (class_of c.version)))

  owner_there : (o : Owner) → IsOwner q o → IsVertex q (owner_holds o).vertex
  owner_there the_root h = tt
  owner_there (version_of name v) (c, i, e) = (c, candidate_there name v c i e)

  owner_in : (o : Owner) → IsOwner q o → In (owner_holds o).vertex (owner_holds o).states
  owner_in the_root h = one root present refl
  owner_in (version_of name v) (c, i, e) = one (pkg name (class_of v)) (version v)
      (subst (λ w. has_state (space q (pkg name (class_of v))) (version w) ≡ true) e
      (version_in name (class_of v) c (candidate_there name v c i e)))

  class_in : (o : Owner) (i : ℕ) (d : Dependency) (k : Class) → HasDep q o i d → HasClass q d k
      → In (dep o i) (in_class k ∷ [])
  class_in o i d k has c = one (dep o i) (in_class k) (ap (λ x. has_state (dep_space q x) (in_class k)) has.1
      ∙ state_in (dep_space q (Some d)) (in_class k)
      (in_rest absent (in_class k) (map in_class (dep_classes q d)) (to_map in_class (dep_classes q d) k c)))

  -- a version, a feature that is on there, and a vertex that is absent
  on_there : (name : List ℕ) (v : Parts) (f : List ℕ) (w : Vertex) → IsOwner q (version_of name v)
      → AreWithin (feature_holds name v f (at w (absent ∷ []) ∷ []))
      × FirstIsThere (feature_holds name v f (at w (absent ∷ []) ∷ []))
  on_there name v f w is = (
    (owner_in (version_of name v) is, (one (feat name (class_of v) f) present refl, (absent_alone w, tt))),
    owner_there (version_of name v) is,
  )

  pub instance_there : (k : Kind) (ts : List Term) → IsInstance q k ts → AreWithin ts × FirstIsThere ts
  instance_there k ts root_is = ((absent_alone root, tt), tt)
  instance_there k ts (needed o i d has n) = ((owner_in o has.0, (absent_alone (dep o i), tt)), owner_there o has.0)
  instance_there k ts (has_target o i d m has c) =
      ((class_in o i d m has c, (absent_or_in _ d.real_name m, tt)), (d, has))
  instance_there k ts (has_its_feature name m f v) =
      ((one (feat name m f) present refl, (absent_or_in _ name m, tt)), v)
  instance_there k ts (wants_by_list o i d m g has c a) =
      ((class_in o i d m has c, (absent_alone (feat d.real_name m g), tt)), (d, has))
  instance_there k ts (wants_by_entry name v i d m f g has c e) = (
    (
      one (ask name v i g) present refl,
      (class_in (version_of name v) i d m has c, (absent_alone (feat d.real_name m g), tt)),
    ),
    (d, f, has, e),
  )
  instance_there k ts (feature_on name v f g e n) = on_there name v f (feat name (class_of v) g) e.0
  instance_there k ts (dependency_on name v i d f has e) = on_there name v f (dep (version_of name v) i) has.0
  instance_there k ts (feature_asks name v i d f g has e) = on_there name v f (ask name v i g) has.0
  instance_there k ts (newest_listed o i j d e m l n has had same c r lower any) =
      ((class_in o i d m has c, (class_in o j e l had r, (versions_in _ d.real_name l, tt))), (d, has))
  instance_there k ts (weakly name v i d m f g has c e n) =
      let first = on_there name v f (feat d.real_name m g) has.0 in
      let on = (first.0).1 in
      (((first.0).0, (on.0, (class_in (version_of name v) i d m has c, on.1))), first.1)

  -- ---- the terms of a cause

  abbrev Begins : Pair → List Term → Type 0
  Begins p ts = (us : List Term) × (ts ≡ at p.0 (p.1 ∷ []) ∷ us)

  owner_begins : (o : Owner) (us : List Term) → Begins (owner_pair o) (owner_holds o ∷ us)
  owner_begins the_root us = (us, refl)
  owner_begins (version_of name v) us = (us, refl)

  -- the terms that a dependency gives, if there are some
  with_some : (P : List Term → Type 0) (terms : Dependency → List Term) (o : Option Dependency)
      → FirstIsThere (terms_with terms o) → ((d : Dependency) → P (terms d)) → P (terms_with terms o)
  with_some P terms None some of = absurd some
  with_some P terms (Some d) some of = of d

  begins : (c : Cause) → FirstIsThere (terms_of_cause q c) → Begins (first_pair c) (terms_of_cause q c)
  begins (of_need o i) some = owner_begins o _
  begins (of_target o i k) some = with_some (Begins _) _ (dependency_at q o i) some (λ d. (_, refl))
  begins (of_list o i k g) some = with_some (Begins _) _ (dependency_at q o i) some (λ d. (_, refl))
  begins (of_ask name v i g k) some =
      with_some (Begins _) _ (dependency_at q (version_of name v) i) some (λ d. (_, refl))
  begins (of_newest o i j k m) some = with_some (Begins _) _ (dependency_at q o i) some (λ d. (_, refl))
  begins (of_weak name v f g i k) some =
      with_some (Begins _) _ (dependency_at q (version_of name v) i) some (λ d. (_, refl))
  begins c some = (_, refl)

  -- the first is on a vertex that is there, in one of its states
  pub first_there : (c : Cause) → is_cause q c ≡ true
      → IsVertex q (first_pair c).0 × Contains (space q (first_pair c).0) (first_pair c).1
  first_there c t =
      let p = first_pair c in
      let is = instance_there (kind_of c) (terms_of_cause q c) (cause_instance q c t) in
      let starts = begins c is.1 in (
        subst FirstIsThere starts.1 is.1,
        state_from (space q p.0) p.1
            ((subst AreWithin starts.1 is.0).0 p.1 (state_in (p.1 ∷ []) p.1 (in_first p.1 []))),
      )

  -- each pair is a term
  abbrev Says : Cause → Pair → Type 0
  Says c p = FirstIsThere (terms_of_cause q c) → Contains (terms_of_cause q c) (at p.0 (p.1 ∷ []))

  first_says : (c : Cause) → Says c (first_pair c)
  first_says c some =
      let starts = begins c some in
      let t = at (first_pair c).0 ((first_pair c).1 ∷ []) in
      subst (λ ts. Contains ts t) (sym starts.1) (in_first t starts.0)

  second_says : (o : Owner) (i j : ℕ) (k m : Class) → Says (of_newest o i j k m) (dep o j, in_class m)
  second_says o i j k m some =
      with_some (λ ts. Contains ts (at (dep o j) (in_class m ∷ []))) _ (dependency_at q o i) some
      (λ d. (1, omega arith, refl))

  -- the terms have of its vertex the one state
  pub pair_states : (c : Cause) → is_cause q c ≡ true → (p : Pair) → Contains (pairs_of c) p
      → states_at (terms_of_cause q c) p.0 ≡ Some (p.1 ∷ [])
  pair_states c t p h =
      let is = cause_instance q c t in
      let there = each_pair Says first_says second_says c p h (instance_there (kind_of c) (terms_of_cause q c) is).1 in
      states_own (terms_of_cause q c) (at p.0 (p.1 ∷ [])) (instance_apart q (kind_of c) (terms_of_cause q c) is) there

-- ---- the numbers of kinds

pub kind_back : (k : Kind) → kind_at (kind_number k) ≡ k
kind_back Root = refl
kind_back k = refl
