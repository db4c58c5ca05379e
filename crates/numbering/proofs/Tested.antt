-- Tests of a space are the sets of states that terms have.
use Rattle.std.proofs.Common.{◌≡◌, ◌⊎◌, ℕ, List, [], ◌∷◌, map, filter, Bool, true, false, cond, not, Contains}
use Rattle.std.proofs.Common.{Option, Some, None, slice_get, refl, sym, ap, ap₂, ◌∙◌, subst, inl, inr, true≢false}
use Rattle.std.proofs.Math.Bool.{or-false}
use Rattle.std.specs.List.{AllPairs}
use Rattle.semver.specs.Parse.{Parts}
use Rattle.semver.specs.EvalViews.{matches_views}
use Rattle.semver.specs.Identifiers.{parts_of}
use Rattle.semver.specs.declared.Version.{Version}
use Rattle.model.specs.Summary.{Dependency, has_feature}
use Rattle.model.specs.Candidates.{Record, as_candidate}
use Rattle.model.specs.Content.{Candidate, Problem, brings_of, candidate_at, candidates_of, same_version}
use Rattle.model.specs.Selection.{Class}
use Rattle.model.specs.Order.{IsCatalogue}
use Rattle.model.specs.Vertices.{Owner, pkg, dep, State, absent, version, in_class, has_state, same_state, same_class}
use Rattle.model.specs.Vertices.{class_candidates, in_that_class, dep_space, owner_brings}
use Rattle.model.specs.Axioms.{absent_or, matched, versions_that}
use Rattle.model.proofs.Same.{version-same, version-refl}
use Rattle.model.proofs.Lists.{in_none, in_cons, in_first, in_rest, in_filter, in_map, to_filter, to_map, to_any}
use Rattle.model.proofs.Lists.{any_of, pairs_first, pairs_rest}
use Rattle.manifest.specs.Manifests.{ManifestView}
use Rattle.catalogue.specs.Problems.{problem_in}
use Rattle.catalogue.specs.Stores.{CatalogueView, candidates_at, Said, said, said_by}
use Rattle.catalogue.specs.declared.candidate.Candidate as stored
use Rattle.model.specs.inner.Listed.{classes_at, classes_if}
use Rattle.numbering.specs.Numberings.{members_at}
use Rattle.numbering.specs.inner.TestedTerms.{is_chosen, is_class}
use Rattle.lookups.specs.inner.Matching.{is_left}
use Rattle.lookups.specs.inner.Ranges.{is_of, versions_with}
use Rattle.numbering.proofs.ClassOrder.{IsOlder}
use Rattle.lookups.proofs.Classed.{class_is_of, classed_are, named, with_classed, with_those}
use Rattle.numbering.proofs.Distinct.{of_rows, older_differ}

module _ {X Y Z : Type 0} where
  pub map_map : (f : Y → Z) (g : X → Y) (xs : List X) → map f (map g xs) ≡ map (λ x. f (g x)) xs
  map_map f g [] = refl
  map_map f g (x ∷ xs) = ap (λ l. f (g x) ∷ l) (map_map f g xs)

module _ {X : Type 0} where
  map_along : {Y : Type 0} (f g : X → Y) (xs : List X) → ((x : X) → Contains xs x → f x ≡ g x) → map f xs ≡ map g xs
  map_along f g [] h = refl
  map_along f g (x ∷ xs) h =
      ap₂ (λ y ys. y ∷ ys) (h x (in_first x xs)) (map_along f g xs (λ y c. h y (in_rest x y xs c)))

  filter_along : (f g : X → Bool) (xs : List X) → ((x : X) → Contains xs x → f x ≡ g x) → filter f xs ≡ filter g xs
  filter_along f g [] h = refl
  filter_along f g (x ∷ xs) h =
      ap (λ b. cond b (x ∷ filter f xs) (filter f xs)) (h x (in_first x xs))
      ∙ ap (λ ys. cond (g x) (x ∷ ys) ys) (filter_along f g xs (λ y c. h y (in_rest x y xs c)))

-- ---- the versions of a class

-- among the states of the versions that pass is a version's just where it passes
passing : (t : Parts → Bool) (ps : List Parts) (p : Parts) → Contains ps p
    → has_state (versions_with t ps) (version p) ≡ t p
passing t ps p c = by (has_state (versions_with t ps) (version p)) refl (t p) refl
  where
    by : (s : Bool) → has_state (versions_with t ps) (version p) ≡ s → (b : Bool) → t p ≡ b → s ≡ b
    by true f true e = refl
    by false f false e = refl
    by false f true e = absurd (true≢false (sym (to_any (same_state (version p)) (versions_with t ps) (version p)
        (to_map version (filter t ps) p (to_filter t ps p c e)) (version-refl p)) ∙ f))
    by true f false e =
        let r = any_of (same_state (version p)) (versions_with t ps) f in
        let m = in_map version (filter t ps) r.0 r.1 in
        let w = in_filter t ps m.0 m.1 in
        let same : p ≡ m.0 = version-same p m.0 (subst (λ s. same_state (version p) s ≡ true) (sym m.2) r.2) in
        absurd (true≢false (sym w.1 ∙ ap t (sym same) ∙ e))

no_absent : (ps : List Parts) → has_state (map version ps) absent ≡ false
no_absent [] = refl
no_absent (p ∷ ps) = no_absent ps

module _ (m : ManifestView) (c : CatalogueView) (name : List ℕ) (k : Class) (vs : List Version)
    (is : map parts_of vs ≡ filter (is_of k) (map (λ r. r.version) (candidates_at c name))) where
  pub states_here : map (λ (e : Candidate). version e.version) (class_candidates (problem_in m c) name k)
      ≡ map version (map parts_of vs)
  states_here =
      sym (named (class_candidates (problem_in m c) name k)) ∙ ap (map version) (sym (is ∙ classed_are m c name k))

  tests_are : (ss : List State) (b : Bool) (t : Parts → Bool) → has_state ss absent ≡ b
      → ((p : Parts) → Contains (map parts_of vs) p → has_state ss (version p) ≡ t p)
      → b ∷ map (λ v. t (parts_of v)) vs ≡ members_at (problem_in m c) (pkg name k) ss
  tests_are ss b t a h = ap₂ (λ x xs. x ∷ xs) (sym a)
      (sym (map_map t parts_of vs) ∙ sym (map_along (λ p. has_state ss (version p)) t (map parts_of vs) h)
      ∙ sym (map_map (has_state ss) version (map parts_of vs)) ∙ ap (map (has_state ss)) (sym states_here))

  pub with_absent : (t : Parts → Bool) → true ∷ map (λ v. t (parts_of v)) vs ≡ members_at (problem_in m c) (pkg name k)
      (absent ∷ versions_that (problem_in m c) (λ (e : Candidate). t e.version) name k)
  with_absent t =
      tests_are (absent ∷ versions_with t (map parts_of vs)) true t refl (λ p i. passing t (map parts_of vs) p i)
      ∙ ap (λ ss. members_at (problem_in m c) (pkg name k) (absent ∷ ss)) (with_classed m c name k vs is t)

  pub alone : (t : Parts → Bool) → false ∷ map (λ v. t (parts_of v)) vs ≡ members_at (problem_in m c) (pkg name k)
      (versions_that (problem_in m c) (λ (e : Candidate). t e.version) name k)
  alone t =
      tests_are (versions_with t (map parts_of vs)) false t (no_absent (filter t (map parts_of vs)))
      (λ p i. passing t (map parts_of vs) p i)
      ∙ ap (members_at (problem_in m c) (pkg name k)) (with_classed m c name k vs is t)

  pub chosen_is : (v : Parts)
      → false ∷ map (λ w. is_chosen v (parts_of w)) vs ≡ members_at (problem_in m c) (pkg name k) (version v ∷ [])
  unfolding is_chosen
  chosen_is v = tests_are (version v ∷ []) false (λ p. same_version p v) refl (λ p i. or-false (same_version p v))

pub left_is : (m : ManifestView) (c : CatalogueView) (d : Dependency) (k : Class) (vs : List Version)
    → map parts_of vs ≡ filter (is_of k) (map (λ r. r.version) (candidates_at c d.real_name))
    → true ∷ map (λ w. is_left d.requirement (parts_of w)) vs ≡ members_at (problem_in m c) (pkg d.real_name k)
    (absent_or (problem_in m c) (λ e. not (matched d e)) d.real_name k)
unfolding is_left
left_is m c d k vs e = with_absent m c d.real_name k vs e (λ v. not (matches_views d.requirement v))

pub taken_is : (m : ManifestView) (c : CatalogueView) (d : Dependency) (k : Class) (vs : List Version)
    → map parts_of vs ≡ filter (is_of k) (map (λ r. r.version) (candidates_at c d.real_name))
    → false ∷ map (λ w. matches_views d.requirement (parts_of w)) vs
    ≡ members_at (problem_in m c) (pkg d.real_name k) (versions_that (problem_in m c) (matched d) d.real_name k)
taken_is m c d k vs e = alone m c d.real_name k vs e (matches_views d.requirement)

-- a candidate is found by its version
found_in : (cs : List Candidate) → AllPairs IsOlder cs → (e : Candidate) → Contains cs e
    → candidate_at cs e.version ≡ Some e
found_in [] a e c = absurd (in_none e c)
found_in (x ∷ cs) a e c =
    by (λ d. found_in cs (pairs_rest IsOlder x cs a) e d) (same_version e.version x.version) refl (in_cons x e cs c)
  where
    by : (Contains cs e → candidate_at cs e.version ≡ Some e) → (b : Bool) → same_version e.version x.version ≡ b
        → (x ≡ e) ⊎ Contains cs e → cond b (Some x) (candidate_at cs e.version) ≡ Some e
    by rest true s (inl i) = ap Some i
    by rest true s (inr d) = absurd
        (older_differ x e (pairs_first IsOlder x e cs a d) (ap version (sym (version-same e.version x.version s))))
    by rest false s (inl i) = absurd (true≢false (sym (subst (λ (z : Candidate). same_version e.version z.version
        ≡ true) (sym i) (version-refl e.version)) ∙ s))
    by rest false s (inr d) = rest d

-- those of a class that lack a feature
lacking_there : (m : ManifestView) (c : CatalogueView) (name : List ℕ) (k : Class) (f : List ℕ)
    → IsCatalogue (problem_in m c)
    → true ∷ map (λ (e : Candidate). not (has_feature e.brings.features f)) (class_candidates (problem_in m c) name k)
    ≡ members_at (problem_in m c) (pkg name k)
    (absent_or (problem_in m c) (λ e. not (has_feature e.brings.features f)) name k)
lacking_there m c name k f known =
    let q = problem_in m c in
    let all = candidates_of q.candidates name in
    let those = class_candidates q name k in
    let lacks : Candidate → Bool = λ (e : Candidate). not (has_feature e.brings.features f) in
    let test : Parts → Bool = λ v. not (has_feature (brings_of (candidate_at all v)).features f) in
    let found : (e : Candidate) → Contains those e → test e.version ≡ lacks e
    = λ e i. ap (λ o. not (has_feature (brings_of o).features f))
    (found_in all (of_rows q.candidates known.versions_rise name) e (in_filter (in_that_class k) all e i).0) in
    let vs = map (λ (e : Candidate). e.version) those in
    let ss = versions_with test vs in
    ap (λ l. true ∷ l) (map_along lacks (λ e. has_state (absent ∷ ss) (version e.version)) those
    (λ e i. sym (found e i) ∙ sym (passing test vs e.version (to_map (λ (e : Candidate). e.version) those e i)))
    ∙ sym (map_map (has_state (absent ∷ ss)) (λ (e : Candidate). version e.version) those))
    ∙ ap (λ zs. members_at q (pkg name k) (absent ∷ zs)) (with_those m c name k test
    ∙ ap (map (λ (e : Candidate). version e.version))
    (filter_along (λ (e : Candidate). test e.version) lacks those found))

pub lacking_is : (m : ManifestView) (c : CatalogueView) (name : List ℕ) (k : Class) (f : List ℕ)
    (cs : List stored.Candidate) → IsCatalogue (problem_in m c)
    → map said_by cs ≡ map said (filter (λ (r : Record). is_of k r.version) (candidates_at c name))
    → true ∷ map (λ x. not (has_feature (said_by x).brings.features f)) cs ≡ members_at (problem_in m c) (pkg name k)
    (absent_or (problem_in m c) (λ e. not (has_feature e.brings.features f)) name k)
lacking_is m c name k f cs known told =
    let rs = filter (λ (r : Record). is_of k r.version) (candidates_at c name) in
    ap (λ l. true ∷ l) (sym (map_map (λ (s : Said). not (has_feature s.brings.features f)) said_by cs)
    ∙ ap (map (λ (s : Said). not (has_feature s.brings.features f))) told
    ∙ map_map (λ (s : Said). not (has_feature s.brings.features f)) said rs
    ∙ sym (map_map (λ (e : Candidate). not (has_feature e.brings.features f)) as_candidate rs)
    ∙ ap (map (λ (e : Candidate). not (has_feature e.brings.features f))) (sym (class_is_of m c name k)))
    ∙ lacking_there m c name k f known

-- ---- the classes of a dependency

module _ (q : Problem) (o : Owner) (i : ℕ) where
  members_dep : (ss : List State)
      → members_at q (dep o i) ss ≡ has_state ss absent ∷ map (λ k. has_state ss (in_class k)) (classes_at q o i)
  members_dep ss = by (slice_get (owner_brings q o).dependencies i)
    where
      by : (d : Option Dependency) → map (has_state ss) (dep_space q d)
          ≡ has_state ss absent ∷ map (λ k. has_state ss (in_class k)) (classes_if q d)
      by None = refl
      by (Some d) = ap (λ l. has_state ss absent ∷ l) (map_map (has_state ss) in_class _)

  pub no_class_is : true ∷ map (λ k. false) (classes_at q o i) ≡ members_at q (dep o i) (absent ∷ [])
  no_class_is = sym (members_dep (absent ∷ []))

  pub class_is : (k : Class) → false ∷ map (is_class k) (classes_at q o i) ≡ members_at q (dep o i) (in_class k ∷ [])
  unfolding is_class
  class_is k =
      ap (λ l. false ∷ l) (map_along (λ m. same_class m k) (λ m. has_state (in_class k ∷ []) (in_class m))
      (classes_at q o i) (λ m c. sym (or-false (same_class m k))))
      ∙ sym (members_dep (in_class k ∷ []))

-- ---- the same where a class is spelt another way

module _ (m : ManifestView) (c : CatalogueView) where
  pub chosen_at : (name : List ℕ) (j k : Class) (v : Parts) (vs : List Version) → j ≡ k
      → map parts_of vs ≡ filter (is_of j) (map (λ r. r.version) (candidates_at c name))
      → false ∷ map (λ w. is_chosen v (parts_of w)) vs ≡ members_at (problem_in m c) (pkg name k) (version v ∷ [])
  chosen_at name j k v vs same e = chosen_is m c name k vs
      (subst (λ x. map parts_of vs ≡ filter (is_of x) (map (λ r. r.version) (candidates_at c name))) same e) v

  pub left_at : (d : Dependency) (j k : Class) (vs : List Version) → j ≡ k
      → map parts_of vs ≡ filter (is_of j) (map (λ r. r.version) (candidates_at c d.real_name))
      → true ∷ map (λ w. is_left d.requirement (parts_of w)) vs ≡ members_at (problem_in m c) (pkg d.real_name k)
      (absent_or (problem_in m c) (λ e. not (matched d e)) d.real_name k)
  left_at d j k vs same e = left_is m c d k vs
      (subst (λ x. map parts_of vs ≡ filter (is_of x) (map (λ r. r.version) (candidates_at c d.real_name))) same e)

  pub taken_at : (d : Dependency) (j k : Class) (vs : List Version) → j ≡ k
      → map parts_of vs ≡ filter (is_of j) (map (λ r. r.version) (candidates_at c d.real_name))
      → false ∷ map (λ w. matches_views d.requirement (parts_of w)) vs
      ≡ members_at (problem_in m c) (pkg d.real_name k) (versions_that (problem_in m c) (matched d) d.real_name k)
  taken_at d j k vs same e = taken_is m c d k vs
      (subst (λ x. map parts_of vs ≡ filter (is_of x) (map (λ r. r.version) (candidates_at c d.real_name))) same e)
