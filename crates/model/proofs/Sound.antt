-- No valid selection breaks an instance of an axiom.
use Rattle.std.proofs.Common.{◌≡◌, ℕ, List, [], ◌∷◌, filter, Bool, true, false, not, ◌||◌, Contains, Some, slice_get}
use Rattle.std.proofs.Common.{refl, sym, ap, ◌∙◌, subst, inl, inr, ◌⊎◌, ◌≤◌, true≢false, subst₂, eq-or-lt_of_le}
use Rattle.std.proofs.lemmas.Option.{same_Some}
use Rattle.semver.specs.Parse.{Parts}
use Rattle.semver.specs.EvalViews.{matches_views}
use Rattle.model.specs.Summary.{Summary, Dependency, Entry, feature, dependency, dependency_feature, weak_feature}
use Rattle.model.specs.Summary.{entries_at, has_feature, asked_of_target}
use Rattle.model.specs.Selection.{on, enabled, Lists, Class, class_of, IsValidSelection, IsFact, IsTarget}
use Rattle.model.specs.Selection.Holds.{root_needs, needs, asks, root_wants, turns_on, enables, enables_for, wants}
use Rattle.model.specs.Selection.Holds.{wants_weakly}
use Rattle.model.specs.Content.{Problem, Content, Package, Candidate, candidates_of, candidate_at, brings_of}
use Rattle.model.specs.Content.{summary_at, serves_if, list_if}
use Rattle.model.specs.Order.{IsCatalogue}
use Rattle.model.specs.Vertices.{Owner, the_root, version_of, Vertex, root, pkg, dep, feat, ask, State, absent, present}
use Rattle.model.specs.Vertices.{version, in_class, same_state, has_state, class_candidates, in_that_class}
use Rattle.model.specs.Axioms.{Term, at, Kind, is_lower, owner_holds, HasDep, HasEntry, absent_or, versions_that}
use Rattle.model.specs.Axioms.{matched, RootAsks, IsNeeded, IsInstance}
use Rattle.model.specs.Axioms.IsInstance.{root_is, needed, has_target, has_its_feature, wants_by_list, wants_by_entry}
use Rattle.model.specs.Axioms.IsInstance.{feature_on, dependency_on, feature_asks, newest_listed, weakly}
use Rattle.model.specs.inner.Assignment.{Locks, Leads, Has, IsOwnerAt, Meets, Breaks}
use Rattle.model.proofs.Same.{state-same}
use Rattle.model.proofs.Inner.{version_inner, class_inner}
use Rattle.model.proofs.Lists.{in_cons, in_filter, in_map}
use Rattle.model.proofs.Orders.{IsLast, class_above, not_lower_itself}
use Rattle.model.proofs.Contents.{each_version_once, older_first, rising_at}
use Rattle.model.proofs.Owners.{candidate_at-is, is_candidate, owner_is, served_is, to_lead, is_here, same_locked}
use Rattle.model.proofs.Owners.{same_package, same_place, same_owner_place, target_is, serves_parts, serves_from}
use Rattle.model.proofs.Owners.{lead_serves, owner_package}
use Rattle.model.proofs.Spaces.{state_from}

-- the state of a set that has one
only_state : (x s : State) → has_state (x ∷ []) s ≡ true → s ≡ x
only_state x s h = by (same_state s x) refl h
  where
    by : (b : Bool) → same_state s x ≡ b → (b || false) ≡ true → s ≡ x
    by true e h = state-same s x e
    by false e h = absurd (true≢false (sym h))

module _ (q : Problem) (content : Content) where
  -- nothing has `absent` as more than the want of another state
  not_absent : (v : Vertex) (s : State) → Has q content v s → s ≡ absent → ⊥
  not_absent root s h e = cc
  not_absent (pkg name k) s (n, p, l, is) e = let x : version p.version ≡ absent = sym is ∙ e in cc
  not_absent (dep o i) s (n, t, d, p, l, is) e = let x : in_class (class_of p.version) ≡ absent = sym is ∙ e in cc
  not_absent (feat name k f) s (n, p, l, fact, is) e = let x : present ≡ absent = sym is ∙ e in cc
  not_absent (ask name v i g) s (n, d, f, a, is) e = let x : present ≡ absent = sym is ∙ e in cc

  -- a vertex that is met at `absent` has nothing
  met_absent : (v : Vertex) (s : State) → Meets q content v (absent ∷ []) → Has q content v s → ⊥
  met_absent v s (r, inl h, m) has = not_absent v r h (only_state absent r m)
  met_absent v s (r, inr h, m) has = h.1 s has

  -- a vertex that is met at another state has it
  met_has : (v : Vertex) (x : State) → (x ≡ absent → ⊥) → Meets q content v (x ∷ []) → Has q content v x
  met_has v x n (r, inl h, m) = subst (λ s. Has q content v s) (only_state x r m) h
  met_has v x n (r, inr h, m) = absurd (n (sym (only_state x r m) ∙ h.0))

  met_present : (v : Vertex) → Meets q content v (present ∷ []) → Has q content v present
  met_present v m = met_has v present (λ e. cc) m

  -- a version that passes the test
  passing : (test : Candidate → Bool) (name : List ℕ) (k : Class) (v : Parts)
      → Contains (versions_that q test name k) (version v)
      → (c : Candidate) × Contains (candidates_of q.candidates name) c × (test c ≡ true) × (c.version ≡ v)
  passing test name k v c =
      let r = in_map (λ (x : Candidate). version x.version) (filter test (class_candidates q name k)) (version v) c in
      let f = in_filter test (class_candidates q name k) r.0 r.1 in
      let g = in_filter (in_that_class k) (candidates_of q.candidates name) r.0 f.0 in
      (r.0, g.0, f.1, version_inner (r.0).version v r.2)

  passing_or : (test : Candidate → Bool) (name : List ℕ) (k : Class) (v : Parts)
      → has_state (absent_or q test name k) (version v) ≡ true
      → (c : Candidate) × Contains (candidates_of q.candidates name) c × (test c ≡ true) × (c.version ≡ v)
  passing_or test name k v h = passing test name k v (elim (in_cons absent (version v) (versions_that q test name k)
      (state_from (absent_or q test name k) (version v) h)) [
        | inl e ↦ absurd (let x : absent ≡ version v = e in cc)
        | inr c ↦ c
      ])

  module _ (valid : IsValidSelection q content) where
    -- a vertex that is met has the locked version
    met_version : (name : List ℕ) (k : Class) (ss : List State) (n : ℕ) (p : Package) → Locks q content name k n p
        → Meets q content (pkg name k) ss
        → has_state ss (version p.version) ≡ true
    met_version name k ss n p l (s, inl (m, r, j, e), h) =
        let is : s ≡ version p.version =
        e ∙ ap (λ (x : Package). version x.version) (same_package q content valid name k m n r p j l) in
        subst (λ x. has_state ss x ≡ true) is h
    met_version name k ss n p l (s, inr none, h) = absurd (none.1 (version p.version) (n, p, l, refl))

    -- the owner is locked
    met_owner : (name : List ℕ) (v : Parts) → Meets q content (pkg name (class_of v)) (version v ∷ [])
        → (n : ℕ) × IsOwnerAt q content (version_of name v) n
    met_owner name v m =
        let h = met_has (pkg name (class_of v)) (version v) (λ e. cc) m in
        (h.0, (h.1, h.2, version_inner (h.1).version v (sym h.3)))

    -- the feature is on at the owner
    met_feature : (name : List ℕ) (v : Parts) (f : List ℕ) (n : ℕ) → IsOwnerAt q content (version_of name v) n
        → Meets q content (feat name (class_of v) f) (present ∷ [])
        → IsFact q content (on n f)
    met_feature name v f n (p, l, is) m =
        let h = met_present (feat name (class_of v) f) m in
        subst (λ k. IsFact q content (on k f)) (same_locked q content valid name (class_of v) h.0 n h.1 p h.2 l) h.3

    -- what the owner brings, at its place
    dep_here : (o : Owner) (i n : ℕ) (d : Dependency) → HasDep q o i d → IsOwnerAt q content o n
        → slice_get (summary_at q content n).dependencies i ≡ Some d
    dep_here o i n d has owner =
        subst (λ w. slice_get w.dependencies i ≡ Some d) (sym (owner_is q content valid o n owner)) has.1

    entry_here : (name : List ℕ) (v : Parts) (f : List ℕ) (e : Entry) (n : ℕ) → HasEntry q name v f e
        → IsOwnerAt q content (version_of name v) n
        → Lists (summary_at q content) n f e
    entry_here name v f e n has owner = (
      has.1,
      subst (λ w. entries_at f w.features ≡ Some has.1)
          (sym (owner_is q content valid (version_of name v) n owner)) has.2,
      has.3,
    )

    -- where the dependency leads
    pub record Leading (o : Owner) (i : ℕ) (d : Dependency) (k : Class) : Type 0 where
      pub n : ℕ
      pub t : ℕ
      pub p : Package
      pub lead : Leads q content o i n t d p
      pub classed : class_of p.version ≡ k

    met_lead : (o : Owner) (i : ℕ) (d : Dependency) (k : Class) → HasDep q o i d
        → Meets q content (dep o i) (in_class k ∷ []) → Leading o i d k
    met_lead o i d k has m =
        let h = met_has (dep o i) (in_class k) (λ e. cc) m in
        let l = h.4 in
        let is : h.2 ≡ d = same_Some h.2 d (sym (l.enabled).0 ∙ dep_here o i h.0 d has l.owner) in
        record {
          n = h.0;
          t = h.1;
          p = h.3;
          lead = subst (λ e. Leads q content o i h.0 h.1 e h.3) is l;
          classed =
              sym (class_inner k (class_of (h.3).version) h.5);
        }

    -- the target, as the locked version of its name and class
    leading_locks : (o : Owner) (i : ℕ) (d : Dependency) (k : Class) (l : Leading o i d k)
        → Locks q content d.real_name k l.t l.p
    leading_locks o i d k l = subst
        (λ m. Locks q content d.real_name m l.t l.p) l.classed (served_is q content valid o i l.n l.t d l.p l.lead).0

    -- what is met at absent isn't on
    off : (name : List ℕ) (k : Class) (g : List ℕ) (n : ℕ) (p : Package) → Locks q content name k n p
        → IsFact q content (on n g) → Meets q content (feat name k g) (absent ∷ []) → ⊥
    off name k g n p l fact m = met_absent (feat name k g) present m (n, p, l, fact, refl)

    -- what is met at absent isn't enabled
    not_enabled : (o : Owner) (i n : ℕ) (d : Dependency) → HasDep q o i d → IsOwnerAt q content o n
        → IsFact q content (enabled n i) → Meets q content (dep o i) (absent ∷ []) → ⊥
    not_enabled o i n d has owner fact m =
        let r = to_lead q content valid o i n d owner (dep_here o i n d has owner) fact in
        met_absent (dep o i) r.0 m r.1

    pub sound_X0 : Breaks q content (at root (absent ∷ []) ∷ []) → ⊥
    sound_X0 b = met_absent root present b.0 refl

    pub sound_X1 : (o : Owner) (i : ℕ) (d : Dependency) → HasDep q o i d → IsNeeded o d
        → Breaks q content (owner_holds o ∷ at (dep o i) (absent ∷ []) ∷ []) → ⊥
    sound_X1 the_root i d has because (_, (m, _)) =
        let (n, owner) = valid.root in
        not_enabled the_root i n d has owner
        (root_needs n i d (is_here q content valid n owner.0 owner.1) owner (dep_here the_root i n d has owner)) m
    sound_X1 (version_of name v) i d has because (m, (a, _)) =
        let (n, owner) = met_owner name v m in
        let l = owner.1 in
        not_enabled (version_of name v) i n d has owner (needs n i d (is_here q content valid n owner.0 (l.other).0)
        (dep_here (version_of name v) i n d has owner) because) a

    pub sound_X2 : (o : Owner) (i : ℕ) (d : Dependency) (k : Class) → HasDep q o i d
        → Breaks q content (at (dep o i) (in_class k ∷ [])
        ∷ at (pkg d.real_name k) (absent_or q (λ c. not (matched d c)) d.real_name k) ∷ []) → ⊥
    sound_X2 o i d k has (m, (w, _)) =
        let l = met_lead o i d k has m in
        let h = met_version d.real_name k (absent_or q (λ c. not (matched d c)) d.real_name k) l.t l.p
        (leading_locks o i d k l) w in
        let c = passing_or (λ c. not (matched d c)) d.real_name k (l.p).version h in
        let no : not (matches_views d.requirement (l.p).version) ≡ true =
        subst (λ v. not (matches_views d.requirement v) ≡ true) c.3 c.2 in
        true≢false (sym no ∙ ap not (served_is q content valid o i l.n l.t d l.p l.lead).1)

    pub sound_X3 : IsCatalogue q → (name : List ℕ) (k : Class) (f : List ℕ)
        → Breaks q content (at (feat name k f) (present ∷ [])
        ∷ at (pkg name k) (absent_or q (λ c. not (has_feature c.brings.features f)) name k) ∷ []) → ⊥
    sound_X3 formed name k f (m, (w, _)) =
        let h = met_present (feat name k f) m in
        let l = h.2 in
        let p = h.1 in
        let t : Candidate → Bool = λ c. not (has_feature c.brings.features f) in
        let c = passing_or t name k p.version (met_version name k (absent_or q t name k) h.0 p l w) in
        let e = is_candidate q content valid h.0 p l.other in
        let r = candidate_at-is (candidates_of q.candidates p.name) p.version e.0 e.2 in
        let is : c.0 ≡ e.0 = each_version_once q formed name c.0 e.0 c.1
        (subst (λ m. Contains (candidates_of q.candidates m) e.0) l.named r.0) (c.3 ∙ r.1) in
        let brings : summary_at q content h.0 ≡ (e.0).brings = owner_is q content valid (version_of name p.version) h.0
        (p, record { other = l.other; named = l.named; classed = refl }, refl)
        ∙ ap brings_of (subst (λ m. candidate_at (candidates_of q.candidates m) p.version ≡ Some e.0) l.named e.2) in
        let there : has_feature ((c.0).brings).features f ≡ true =
        subst (λ (b : Summary). has_feature b.features f ≡ true) (brings ∙ ap (λ (x : Candidate). x.brings) (sym is))
        (valid.features_exist h.0 f h.3) in
        true≢false (sym c.2 ∙ ap not there)

    pub sound_X4 : (o : Owner) (i : ℕ) (d : Dependency) (k : Class) (g : List ℕ) → HasDep q o i d
        → Contains (asked_of_target d) g ⊎ RootAsks q o d g
        → Breaks q content (at (dep o i) (in_class k ∷ []) ∷ at (feat d.real_name k g) (absent ∷ []) ∷ []) → ⊥
    sound_X4 o i d k g has (inl asked) (m, (a, _)) =
        let l = met_lead o i d k has m in
        let s = l.lead in
        off d.real_name k g l.t l.p (leading_locks o i d k l)
        (asks l.n l.t i d g (s.enabled).1 (s.enabled).0 s.target asked) a
    sound_X4 the_root i d k g has (inr asked) (m, (a, _)) =
        let l = met_lead the_root i d k has m in
        let s = l.lead in
        let o = s.owner in
        off d.real_name k g l.t l.p (leading_locks the_root i d k l)
        (root_wants l.n l.t i d g (is_here q content valid l.n o.0 o.1) o (s.enabled).0 s.target asked) a
    sound_X4 (version_of name v) i d k g has (inr asked) b = absurd asked

    pub sound_X4_by_entry : (name : List ℕ) (v : Parts) (i : ℕ) (d : Dependency) (k : Class) (f g : List ℕ)
        → HasDep q (version_of name v) i d
        → Breaks q content (at (ask name v i g) (present ∷ []) ∷ at (dep (version_of name v) i) (in_class k ∷ [])
        ∷ at (feat d.real_name k g) (absent ∷ []) ∷ []) → ⊥
    sound_X4_by_entry name v i d k f g has (w, (m, (a, _))) =
        let h = met_present (ask name v i g) w in
        let x = h.3 in
        let l = met_lead (version_of name v) i d k has m in
        let s = l.lead in
        let same : h.0 ≡ l.n = same_place q content valid name v h.0 l.n x.owner s.owner in
        let is : h.1 ≡ d = same_Some h.1 d (sym x.dependency ∙ dep_here (version_of name v) i h.0 d has x.owner) in
        let entry : HasEntry q name v h.2 (dependency_feature d.name g) =
        subst (λ (e : Dependency). HasEntry q name v h.2 (dependency_feature e.name g)) is x.entry in
        off d.real_name k g l.t l.p (leading_locks (version_of name v) i d k l)
        (wants l.n l.t i d h.2 g (subst (λ n. IsFact q content (on n h.2)) same x.is_on)
        (s.enabled).0 (entry_here name v h.2 (dependency_feature d.name g) l.n entry s.owner) s.target) a

    pub sound_X5 : (name : List ℕ) (v : Parts) (f g : List ℕ) → HasEntry q name v f (feature g)
        → Breaks q content (at (pkg name (class_of v)) (version v ∷ []) ∷ at (feat name (class_of v) f) (present ∷ [])
        ∷ at (feat name (class_of v) g) (absent ∷ []) ∷ []) → ⊥
    sound_X5 name v f g has (m, (w, (a, _))) =
        let (n, owner) = met_owner name v m in
        off name (class_of v) g n owner.0 owner.1
        (turns_on n f g (met_feature name v f n owner w) (entry_here name v f (feature g) n has owner)) a

    pub sound_X6 : (name : List ℕ) (v : Parts) (i : ℕ) (d : Dependency) (f : List ℕ) → HasDep q (version_of name v) i d
        → HasEntry q name v f (dependency d.name) ⊎ ((g : List ℕ) × HasEntry q name v f (dependency_feature d.name g))
        → Breaks q content (at (pkg name (class_of v)) (version v ∷ []) ∷ at (feat name (class_of v) f) (present ∷ [])
        ∷ at (dep (version_of name v) i) (absent ∷ []) ∷ []) → ⊥
    sound_X6 name v i d f has entry (m, (w, (a, _))) =
        let (n, owner) = met_owner name v m in
        let there = dep_here (version_of name v) i n d has owner in
        let is_on = met_feature name v f n owner w in
        let fact : IsFact q content (enabled n i) = elim entry [
          | inl e ↦ enables n i d f is_on there (entry_here name v f (dependency d.name) n e owner)
          | inr e ↦ enables_for n i d f e.0 is_on there
              (entry_here name v f (dependency_feature d.name e.0) n e.1 owner)
        ] in
        not_enabled (version_of name v) i n d has owner fact a

    pub sound_X7 : (name : List ℕ) (v : Parts) (i : ℕ) (d : Dependency) (f g : List ℕ)
        → HasDep q (version_of name v) i d
        → HasEntry q name v f (dependency_feature d.name g)
        → Breaks q content (at (pkg name (class_of v)) (version v ∷ []) ∷ at (feat name (class_of v) f) (present ∷ [])
        ∷ at (ask name v i g) (absent ∷ []) ∷ []) → ⊥
    sound_X7 name v i d f g has entry (m, (w, (a, _))) =
        let (n, owner) = met_owner name v m in
        let is_on = met_feature name v f n owner w in
        met_absent (ask name v i g) present a (
          n,
          d,
          f,
          record {
            owner = owner;
            dependency = dep_here (version_of name v) i n d has owner;
            is_on =
                is_on;
            entry = entry;
          },
          refl,
        )

    named : {name : List ℕ} {k : Class} {n : ℕ} {p : Package} → Locks q content name k n p → p.name ≡ name
    named l = l.named

    -- in package order nothing of a higher class stands before
    newest : (t u : ℕ) (p r : Package) → slice_get content t ≡ Some p → slice_get content u ≡ Some r → u ≤ t
        → p.name ≡ r.name → is_lower (class_of p.version) (class_of r.version) ≡ true → ⊥
    newest t u p r got had le same lower = elim (eq-or-lt_of_le le) [
      | inl e ↦
          let is : r ≡ p = same_Some r p (sym had ∙ ap (slice_get content) e ∙ got) in
          not_lower_itself (class_of p.version)
          (ap (λ (x : Package). is_lower (class_of p.version) (class_of x.version)) (sym is) ∙ lower)
      | inr lt ↦ true≢false (sym (class_above p.version r.version lower)
          ∙ older_first content valid.is_content u t r p had got lt (sym same))
    ]

    pub sound_X8 : (o : Owner) (i j : ℕ) (d e : Dependency) (k m : Class) → HasDep q o i d → HasDep q o j e
        → d.real_name ≡ e.real_name → is_lower k m ≡ true
        → Breaks q content (at (dep o i) (in_class k ∷ []) ∷ at (dep o j) (in_class m ∷ [])
        ∷ at (pkg d.real_name m) (versions_that q (matched d) d.real_name m) ∷ []) → ⊥
    sound_X8 o i j d e k m has had same lower (x, (y, (w, _))) =
        let a = met_lead o i d k has x in
        let b = met_lead o j e m had y in
        let locks : Locks q content d.real_name m b.t b.p =
        subst (λ name. Locks q content name m b.t b.p) (sym same) (leading_locks o j e m b) in
        let h = met_version d.real_name m (versions_that q (matched d) d.real_name m) b.t b.p locks w in
        let c = passing (matched d) d.real_name m
        (b.p).version (state_from (versions_that q (matched d) d.real_name m) (version (b.p).version) h) in
        let matches : matches_views d.requirement (b.p).version ≡ true =
        ap (matches_views d.requirement) (sym c.3) ∙ c.2 in
        let has_source =
        (serves_parts q content valid e b.p (lead_serves q content valid o j b.n b.t e b.p b.lead)).0 in
        let serving : serves_if d (slice_get content b.t) ≡ true =
        ap (serves_if d) (b.lead).served ∙ serves_from q content valid d b.p has_source (sym locks.named) matches in
        let one : b.n ≡ a.n = same_owner_place q content valid o b.n a.n (b.lead).owner (a.lead).owner in
        let is_target : IsTarget q content a.n b.t =
        subst (λ n. IsTarget q content n b.t) one (j, e, (b.lead).enabled, (b.lead).target) in
        let (p, got) = owner_package q content valid o a.n (a.lead).owner in
        let listed : Contains p.list b.t = (valid.lists a.n b.t p got).1 is_target in
        let last : IsLast content d p.list a.t = subst
        (λ l. IsLast content d l a.t) (ap list_if got) (target_is q content valid a.n a.t d (a.lead).target) in
        let le : b.t ≤ a.t = last.last (rising_at content valid.is_content a.n p got) b.t listed serving in
        newest a.t b.t a.p b.p (a.lead).served (b.lead).served le
        (named (leading_locks o i d k a) ∙ sym locks.named)
        (subst₂ (λ x y. is_lower x y ≡ true) (sym a.classed) (sym b.classed) lower)

    pub sound_X9 : (name : List ℕ) (v : Parts) (i : ℕ) (d : Dependency) (k : Class) (f g : List ℕ)
        → HasDep q (version_of name v) i d
        → HasEntry q name v f (weak_feature d.name g)
        → Breaks q content (at (pkg name (class_of v)) (version v ∷ []) ∷ at (feat name (class_of v) f) (present ∷ [])
        ∷ at (dep (version_of name v) i) (in_class k ∷ []) ∷ at (feat d.real_name k g) (absent ∷ []) ∷ []) → ⊥
    sound_X9 name v i d k f g has entry (_, (w, (m, (a, _)))) =
        let l = met_lead (version_of name v) i d k has m in
        let s = l.lead in
        off d.real_name k g l.t l.p (leading_locks (version_of name v) i d k l)
        (wants_weakly l.n l.t i d f g (met_feature name v f l.n s.owner w)
        (s.enabled).0 (entry_here name v f (weak_feature d.name g) l.n entry s.owner) (s.enabled).1 s.target) a

    -- no instance of an axiom is broken
    pub sound : IsCatalogue q → (k : Kind) (ts : List Term) → IsInstance q k ts → Breaks q content ts → ⊥
    sound formed k ts root_is b = sound_X0 b
    sound formed k ts (needed o i d has n) b = sound_X1 o i d has n b
    sound formed k ts (has_target o i d m has c) b = sound_X2 o i d m has b
    sound formed k ts (has_its_feature name m f v) b = sound_X3 formed name m f b
    sound formed k ts (wants_by_list o i d m g has c a) b = sound_X4 o i d m g has a b
    sound formed k ts (wants_by_entry name v i d m f g has c e) b = sound_X4_by_entry name v i d m f g has b
    sound formed k ts (feature_on name v f g e n) b = sound_X5 name v f g e b
    sound formed k ts (dependency_on name v i d f has e) b = sound_X6 name v i d f has e b
    sound formed k ts (feature_asks name v i d f g has e) b = sound_X7 name v i d f g has e b
    sound formed k ts (newest_listed o i j d e m l n has had same c r lower any) b =
        sound_X8 o i j d e m l has had same lower b
    sound formed k ts (weakly name v i d m f g has c e n) b = sound_X9 name v i d m f g has e b
