-- The causes that are listed for a vertex and one of its states are those whose first term says so.
use Rattle.std.proofs.Common.{◌≡◌, ◌≢◌, ◌↔◌, ℕ, List, [], ◌∷◌, ◌++◌, map, Bool, true, false, not, cond, ◌&&◌, ◌||◌}
use Rattle.std.proofs.Common.{Contains, Option, Some, None, nat_eq, refl, sym, ap, ◌∙◌, subst, inl, inr, true≢false}
use Rattle.std.specs.List.{list_any, flat_map}
use Rattle.std.proofs.lemmas.Bool.{and_from, not-true}
use Rattle.semver.specs.Parse.{Parts}
use Rattle.model.specs.Summary.{Dependency, Entry, feature, dependency, dependency_feature, weak_feature}
use Rattle.model.specs.Summary.{asked_of_target, same_text}
use Rattle.model.specs.Content.{Problem, Candidate, candidates_of, passes}
use Rattle.model.specs.Selection.{Class, class_of}
use Rattle.model.specs.Vertices.{Owner, the_root, version_of, Vertex, root, pkg, dep, feat, ask, State, absent, present}
use Rattle.model.specs.Vertices.{version, in_class, same_vertex, owner_brings, dep_classes, dep_space, class_candidates}
use Rattle.model.specs.Vertices.{in_that_class, space}
use Rattle.model.specs.Axioms.{is_lower, IsVertex, RootAsks}
use Rattle.model.proofs.Flat.{in_flat, to_flat}
use Rattle.model.proofs.Lists.{in_none, in_cons, in_first, in_rest, in_filter, in_map, to_map, any_of, to_any}
use Rattle.model.proofs.Lists.{pairs_none}
use Rattle.model.proofs.Same.{both, text-same, text-refl, class-same}
use Rattle.model.specs.Causes.{Cause, of_root, of_need, of_target, of_feature, of_list, of_ask, of_entry}
use Rattle.model.specs.Causes.{of_enabling, of_asking, of_newest, of_weak, same_entry, enables, is_needed}
use Rattle.model.specs.Causes.{dependency_at, has_class, has_entry, some_entry, lists_feature, root_asks_for}
use Rattle.model.specs.Causes.{same_pair, is_overtaken, is_weak_on, entries_of, table_of_owner, is_cause}
use Rattle.model.specs.inner.Listed.{classes_at, classes_if}
use Rattle.std.proofs.lemmas.List.Elements.{Contains-append_cases, Contains-append_right, Contains-append_left}
use Rattle.model.proofs.Named.{entry-refl, passes-is, to_passes, has_entry-is, to_entry, row_of, class-is}
use Rattle.model.proofs.Named.{to_class, to_lists, to_feature, to_some_entry}
use Rattle.numbering.specs.Pairs.{Pair, owner_pair, first_pair, AreCausesAt, IsCauseAt}
use Rattle.numbering.specs.inner.CausesAt.{each_from, need_if, turned_if, weak_if, needs_of, entry_if, entry_causes}
use Rattle.numbering.specs.inner.CausesAt.{feature_causes, version_causes, root_asked, newest_if, overtaken_if}
use Rattle.numbering.specs.inner.CausesAt.{alone_causes, lead_causes, causes_at, with_causes}
use Rattle.numbering.specs.inner.OnPackage.{is_other}
use Rattle.numbering.proofs.Each.{from_if, in_all, only_one, to_all, to_if}
use Rattle.numbering.proofs.SameCauses.{all_once, same_ones}

-- ---- tests

-- what stands in a list only if a test doesn't pass
from_unless : {X : Type 0} (b : Bool) (c : X) (cs : List X) → Contains (cond b [] cs) c → (b ≡ false) × Contains cs c
from_unless true c cs h = absurd (in_none c h)
from_unless false c cs h = (refl, h)

to_unless : {X : Type 0} (b : Bool) (c : X) (cs : List X) → b ≡ false → Contains cs c → Contains (cond b [] cs) c
to_unless b c cs e h = subst (λ x. Contains (cond x [] cs) c) (sym e) h

-- ---- each cause is listed

module _ (q : Problem) where
  class_listed : (o : Owner) (i : ℕ) (d : Dependency) (k : Class) → dependency_at q o i ≡ Some d
      → has_class q k d ≡ true → Contains (classes_at q o i) k
  class_listed o i d k e h = subst (λ x. Contains (classes_if q x) k) (sym e) (class-is q d k h)

  need_there : (o : Owner) (i : ℕ) → is_cause q (of_need o i) ≡ true → Contains (needs_of q o) (of_need o i)
  need_there o i t =
      let r = passes-is (is_needed o) (dependency_at q o i) t in
      to_all (need_if o) (owner_brings q o).dependencies i r.0 (of_need o i) r.1
      (to_if (is_needed o r.0) (of_need o i) (of_need o i ∷ []) r.2 (in_first (of_need o i) []))

  -- what an entry of a version gives
  entry_there : (name : List ℕ) (v : Parts) (f : List ℕ) (e : Entry) (c : Cause) → has_entry q name v f e ≡ true
      → Contains (entry_causes q name v f e) c → Contains (version_causes q name v) c
  entry_there name v f e c t h =
      let r = has_entry-is q name v f e t in
      let row = row_of q (table_of_owner q (version_of name v)) f r.1 r.2 in
      Contains-append_right (needs_of q (version_of name v))
      (flat_map (λ row. feature_causes q name v row.0) (table_of_owner q (version_of name v))) c
      (to_flat (λ row. feature_causes q name v row.0) (table_of_owner q (version_of name v)) row.0 c row.1
      (subst (λ g. Contains (feature_causes q name v g) c) row.2
      (to_flat (entry_causes q name v f) (entries_of q name v f) e c (to_entry q name v f e r) h)))

  on_dep : (name : List ℕ) (v : Parts) (f : List ℕ) (e : Entry) (i : ℕ) (d : Dependency) (c : Cause)
      → has_entry q name v f e ≡ true → dependency_at q (version_of name v) i ≡ Some d
      → Contains (entry_if q name v f e i d) c → Contains (version_causes q name v) c
  on_dep name v f e i d c t at h = entry_there name v f e c t
      (Contains-append_right (turned_if name v f e)
      (each_from (entry_if q name v f e) 0 (owner_brings q (version_of name v)).dependencies) c
      (to_all (entry_if q name v f e) (owner_brings q (version_of name v)).dependencies i d c at h))

  enabled_there : (name : List ℕ) (v : Parts) (f : List ℕ) (e : Entry) (i : ℕ) (d : Dependency)
      → enables d.name e ≡ true → Contains (entry_if q name v f e i d) (of_enabling name v f e i)
  enabled_there name v f (feature g) i d h = absurd (true≢false (sym h))
  enabled_there name v f (dependency x) i d h = to_if (same_text d.name x) (of_enabling name v f (dependency x) i)
      (of_enabling name v f (dependency x) i ∷ []) h (in_first (of_enabling name v f (dependency x) i) [])
  enabled_there name v f (dependency_feature x g) i d h =
      to_if (same_text d.name x) (of_enabling name v f (dependency_feature x g) i)
      (of_enabling name v f (dependency_feature x g) i ∷ of_asking name v f g i ∷ []) h
      (in_first (of_enabling name v f (dependency_feature x g) i) (of_asking name v f g i ∷ []))
  enabled_there name v f (weak_feature x g) i d h = absurd (true≢false (sym h))

  lead_there : (o : Owner) (i : ℕ) (k : Class) (d : Dependency) (c : Cause) → dependency_at q o i ≡ Some d
      → Contains (lead_causes q o i k (Some d)) c → Contains (lead_causes q o i k (dependency_at q o i)) c
  lead_there o i k d c e h = subst (λ x. Contains (lead_causes q o i k x) c) (sym e) h

  root_asked_there : (o : Owner) (d : Dependency) (g : List ℕ) → root_asks_for q o d g ≡ true
      → Contains (root_asked q o d) g
  root_asked_there the_root d g t =
      let r = any_of (same_pair (d.name, g)) q.root_asks t in
      let p = both (same_text d.name (r.0).0) (same_text g (r.0).1) r.2 in
      to_flat (λ (p : List ℕ × List ℕ). cond (same_text d.name p.0) (p.1 ∷ []) []) q.root_asks r.0 g r.1
      (subst (λ b. Contains (cond b ((r.0).1 ∷ []) []) g) (sym p.0)
      (subst (λ x. Contains (x ∷ []) g) (text-same g (r.0).1 p.1) (in_first g [])))
  root_asked_there (version_of name v) d g t = absurd (true≢false (sym t))

  asked_there : (o : Owner) (d : Dependency) (g : List ℕ) → lists_feature q o d g ≡ true
      → Contains (asked_of_target d ++ root_asked q o d) g
  asked_there o d g t = by (list_any (same_text g) (asked_of_target d)) refl t
    where
      by : (b : Bool) → list_any (same_text g) (asked_of_target d) ≡ b → (b || root_asks_for q o d g) ≡ true
          → Contains (asked_of_target d ++ root_asked q o d) g
      by true e h = let r = any_of (same_text g) (asked_of_target d) e in Contains-append_left (asked_of_target d)
          (root_asked q o d) g (subst (Contains (asked_of_target d)) (sym (text-same g r.0 r.2)) r.1)
      by false e h = Contains-append_right (asked_of_target d) (root_asked q o d) g (root_asked_there o d g h)

  pub newest_there : (o : Owner) (i j : ℕ) (k m : Class) (d e : Dependency) → dependency_at q o j ≡ Some e
      → is_other i d.real_name j e ≡ true → has_class q m e ≡ true → (is_lower k m && has_class q m d) ≡ true
      → Contains (each_from (newest_if q o i k d) 0 (owner_brings q o).dependencies) (of_newest o i j k m)
  newest_there o i j k m d e at other has higher =
      let c = of_newest o i j k m in
      to_all (newest_if q o i k d) (owner_brings q o).dependencies j e c at
      (to_if (is_other i d.real_name j e) c (flat_map (overtaken_if q o i k d j) (dep_classes q e)) other
      (to_flat (overtaken_if q o i k d j) (dep_classes q e) m c (class-is q e m has)
      (to_if (is_lower k m && has_class q m d) c (c ∷ []) higher (in_first c []))))

  -- what its being there says
  pub newest_is : (o : Owner) (i j : ℕ) (k m : Class) → is_cause q (of_newest o i j k m) ≡ true
      → (d : Dependency) × (e : Dependency) × (dependency_at q o i ≡ Some d) × (dependency_at q o j ≡ Some e)
      × (is_other i d.real_name j e ≡ true) × (has_class q k d ≡ true) × (has_class q m e ≡ true)
      × ((is_lower k m && has_class q m d) ≡ true)
  newest_is o i j k m t =
      let x = both (not (nat_eq i j))
      (passes (λ d. passes (is_overtaken q k m d) (dependency_at q o j)) (dependency_at q o i)) t in
      let r = passes-is (λ d. passes (is_overtaken q k m d) (dependency_at q o j)) (dependency_at q o i) x.1 in
      let s = passes-is (is_overtaken q k m r.0) (dependency_at q o j) r.2 in
      let a = both (same_text (r.0).real_name (s.0).real_name)
      (has_class q k r.0 && (has_class q m s.0 && (is_lower k m && has_class q m r.0))) s.2 in
      let b = both (has_class q k r.0) (has_class q m s.0 && (is_lower k m && has_class q m r.0)) a.1 in
      let c = both (has_class q m s.0) (is_lower k m && has_class q m r.0) b.1 in (
        r.0,
        s.0,
        r.1,
        s.1,
        and_from (not (nat_eq i j)) (same_text (r.0).real_name (s.0).real_name) x.0 a.0,
        b.0,
        c.0,
        c.1,
      )

  pub is_listed : (c : Cause) → is_cause q c ≡ true → Contains (causes_at q (first_pair c).0 (first_pair c).1) c
  is_listed of_root t = in_first of_root []
  is_listed (of_need the_root i) t = need_there the_root i t
  is_listed (of_need (version_of name v) i) t =
      Contains-append_left (needs_of q (version_of name v)) (flat_map (λ row. feature_causes q name v row.0)
      (table_of_owner q (version_of name v))) (of_need (version_of name v) i) (need_there (version_of name v) i t)
  is_listed (of_target o i k) t = let r = passes-is (has_class q k) (dependency_at q o i) t in
      lead_there o i k r.0 (of_target o i k) r.1 (in_first (of_target o i k) _)
  is_listed (of_feature name k f) t = in_first (of_feature name k f) []
  is_listed (of_list o i k g) t =
      let r = passes-is (λ d. has_class q k d && lists_feature q o d g) (dependency_at q o i) t in
      let a = both (has_class q k r.0) (lists_feature q o r.0 g) r.2 in
      lead_there o i k r.0 (of_list o i k g) r.1 (in_rest (of_target o i k) (of_list o i k g) _
      (Contains-append_left (map (of_list o i k) (asked_of_target r.0 ++ root_asked q o r.0)) _ (of_list o i k g)
      (to_map (of_list o i k) (asked_of_target r.0 ++ root_asked q o r.0) g (asked_there o r.0 g a.1))))
  is_listed (of_ask name v i g k) t =
      let r = passes-is (λ d. has_class q k d && some_entry q (same_entry (dependency_feature d.name g)) name v)
      (dependency_at q (version_of name v) i) t in
      let a = both (has_class q k r.0) (some_entry q (same_entry (dependency_feature (r.0).name g)) name v) r.2 in
      to_map (of_ask name v i g) (classes_at q (version_of name v) i) k
      (class_listed (version_of name v) i r.0 k r.1 a.0)
  is_listed (of_entry name v f g) t =
      let a = both (has_entry q name v f (feature g)) (not (same_text f g)) t in
      entry_there name v f (feature g) (of_entry name v f g) a.0
      (Contains-append_left (turned_if name v f (feature g)) _ (of_entry name v f g)
      (to_unless (same_text f g) (of_entry name
      v f g) (of_entry name v f g ∷ []) (not-true (same_text f g) a.1) (in_first (of_entry name v f g) [])))
  is_listed (of_enabling name v f e i) t =
      let a =
      both (has_entry q name v f e) (passes (λ d. enables d.name e) (dependency_at q (version_of name v) i)) t in
      let r = passes-is (λ d. enables d.name e) (dependency_at q (version_of name v) i) a.1 in
      on_dep name v f e i r.0 (of_enabling name v f e i) a.0 r.1 (enabled_there name v f e i r.0 r.2)
  is_listed (of_asking name v f g i) t =
      let r = passes-is
      (λ d. has_entry q name v f (dependency_feature d.name g)) (dependency_at q (version_of name v) i) t in
      on_dep name v f (dependency_feature (r.0).name g) i r.0 (of_asking name v f g i) r.2 r.1
      (to_if (same_text (r.0).name (r.0).name) (of_asking name v f g i) (of_enabling name v f
      (dependency_feature (r.0).name g) i ∷ of_asking name v f g i ∷ []) (text-refl (r.0).name)
      (in_rest _ (of_asking name v f g i) (of_asking name v f g i ∷ []) (in_first (of_asking name v f g i) [])))
  is_listed (of_newest o i j k m) t =
      let r = newest_is o i j k m t in
      lead_there o i k r.0 (of_newest o i j k m) r.2 (in_rest (of_target o i k) (of_newest o i j k m) _
      (Contains-append_right (map (of_list o i k) (asked_of_target r.0 ++ root_asked q o r.0)) _ (of_newest o i j k m)
      (newest_there o i j k m r.0 r.1 r.3 r.4 r.6 r.7)))
  is_listed (of_weak name v f g i k) t =
      let r = passes-is (is_weak_on q name v f g k) (dependency_at q (version_of name v) i) t in
      let a = both (has_class q k r.0) (has_entry q name v f (weak_feature (r.0).name g)
      && not (same_vertex (feat name (class_of v) f) (feat (r.0).real_name k g))) r.2 in
      let b = both (has_entry q name v f (weak_feature (r.0).name g))
      (not (same_vertex (feat name (class_of v) f) (feat (r.0).real_name k g))) a.1 in
      on_dep name v f (weak_feature (r.0).name g) i r.0 (of_weak name v f g i k) b.0 r.1
      (to_if (same_text (r.0).name (r.0).name) (of_weak name v f g i k)
      (flat_map (weak_if name v f g i r.0) (dep_classes q r.0)) (text-refl (r.0).name)
      (to_flat (weak_if name v f g i r.0) (dep_classes q r.0) k (of_weak name v f g i k) (class-is q r.0 k a.0)
      (to_unless (same_vertex (feat name (class_of v) f) (feat (r.0).real_name k g)) (of_weak name v f g i k)
      (of_weak name v f g i k ∷ []) (not-true _ b.1) (in_first (of_weak name v f g i k) []))))

-- ---- and no other

-- a dependency and another one, both in classes to which they may lead, of which the first may lead to the higher one
pub overtaken_is : (q : Problem) (o : Owner) (i j : ℕ) (k m : Class) (d e : Dependency) → dependency_at q o i ≡ Some d
    → dependency_at q o j ≡ Some e → is_other i d.real_name j e ≡ true → has_class q k d ≡ true
    → has_class q m e ≡ true → (is_lower k m && has_class q m d) ≡ true → is_cause q (of_newest o i j k m) ≡ true
overtaken_is q o i j k m d e at_i at_j other has has_m higher =
    let a = both (not (nat_eq i j)) (same_text d.real_name e.real_name) other in
    and_from (not (nat_eq i j))
    (passes (λ d. passes (is_overtaken q k m d) (dependency_at q o j)) (dependency_at q o i)) a.0
    (to_passes (λ d. passes (is_overtaken q k m d) (dependency_at q o j)) (dependency_at q o i) d at_i
    (to_passes (is_overtaken q k m d) (dependency_at q o j) e at_j
    (and_from (same_text d.real_name e.real_name)
    (has_class q k d && (has_class q m e && (is_lower k m && has_class q m d))) a.1
    (and_from (has_class q k d) (has_class q m e && (is_lower k m && has_class q m d)) has
    (and_from (has_class q m e) (is_lower k m && has_class q m d) has_m higher)))))

module _ (q : Problem) where
  -- the cause is there, and its first term says so
  abbrev Is : Vertex → State → Cause → Type 0
  Is v s c = (is_cause q c ≡ true) × (first_pair c ≡ (v, s))

  thus : (v : Vertex) (s : State) (a c : Cause) → c ≡ a → is_cause q a ≡ true → first_pair a ≡ (v, s) → Is v s c
  thus v s a c e t f = (ap (is_cause q) e ∙ t, ap first_pair e ∙ f)

  class_of_version : (name : List ℕ) (k : Class) (v : Parts)
      → Contains (space q (pkg name k)) (version v) → k ≡ class_of v
  class_of_version name k v c =
      elim (in_cons absent (version v) (map (λ (e : Candidate). version e.version) (class_candidates q name k)) c) [
        | inl e ↦ (let x : absent ≡ version v = e in cc)
        | inr d ↦ let r = in_map (λ (e : Candidate). version e.version) (class_candidates q name k) (version v) d in
            let w : (r.0).version ≡ v = inner (r.0).version v r.2 in
            class-same k (class_of (r.0).version)
            (in_filter (in_that_class k) (candidates_of q.candidates name) r.0 r.1).1 ∙ ap class_of w
      ]
    where
      inner : (v w : Parts) → version v ≡ version w → v ≡ w
      inner v w e = cc

  need_back : (o : Owner) (c : Cause) → Contains (needs_of q o) c → Is (owner_pair o).0 (owner_pair o).1 c
  need_back o c h =
      let r = in_all (need_if o) (owner_brings q o).dependencies c h in
      let w = from_if (is_needed o r.1) c (of_need o r.0 ∷ []) r.3 in
      thus (owner_pair o).0 (owner_pair o).1 (of_need o r.0) c (only_one (of_need o r.0) c w.1)
      (to_passes (is_needed o) (dependency_at q o r.0) r.1 r.2 w.0) refl

  -- ---- of a version

  module _ (name : List ℕ) (v : Parts) (f : List ℕ) where
    abbrev Here : Cause → Type 0
    Here c = Is (pkg name (class_of v)) (version v) c

    turned_back : (e : Entry) (c : Cause) → has_entry q name v f e ≡ true → Contains (turned_if name v f e) c → Here c
    turned_back (feature g) c t h =
        let w = from_unless (same_text f g) c (of_entry name v f g ∷ []) h in
        thus _ _ (of_entry name v f g) c (only_one (of_entry name v f g) c w.1)
        (and_from (has_entry q name v f (feature g)) (not (same_text f g)) t (ap not w.0)) refl
    turned_back e c t h = absurd (in_none c h)

    enabling_back : (e : Entry) (i : ℕ) (d : Dependency) (c : Cause) → has_entry q name v f e ≡ true
        → dependency_at q (version_of name v) i ≡ Some d → enables d.name e ≡ true
        → c ≡ of_enabling name v f e i → Here c
    enabling_back e i d c t at s is =
        thus _ _ (of_enabling name v f e i) c is
        (and_from (has_entry q name v f e) (passes (λ d. enables d.name e) (dependency_at q (version_of name v) i)) t
        (to_passes (λ d. enables d.name e) (dependency_at q (version_of name v) i) d at s)) refl

    asking_back : (x g : List ℕ) (i : ℕ) (d : Dependency) (c : Cause) → has_entry q name v f (dependency_feature x g)
        ≡ true → dependency_at q (version_of name v) i ≡ Some d → same_text d.name x ≡ true
        → c ≡ of_asking name v f g i → Here c
    asking_back x g i d c t at s is =
        thus _ _ (of_asking name v f g i) c is
        (to_passes (λ d. has_entry q name v f (dependency_feature d.name g))
        (dependency_at q (version_of name v) i) d at
        (subst (λ n. has_entry q name v f (dependency_feature n g) ≡ true) (sym (text-same d.name x s)) t)) refl

    weak_back : (x g : List ℕ) (i : ℕ) (d : Dependency) (c : Cause) → has_entry q name v f (weak_feature x g) ≡ true
        → dependency_at q (version_of name v) i ≡ Some d → same_text d.name x ≡ true
        → Contains (flat_map (weak_if name v f g i d) (dep_classes q d)) c → Here c
    weak_back x g i d c t at s h =
        let r = in_flat (weak_if name v f g i d) (dep_classes q d) c h in
        let w = from_unless (same_vertex (feat name (class_of v) f) (feat d.real_name r.0 g)) c
        (of_weak name v f g i r.0 ∷ []) r.2 in
        thus _ _ (of_weak name v f g i r.0) c (only_one (of_weak name v f g i r.0) c w.1)
        (to_passes (is_weak_on q name v f g r.0) (dependency_at q (version_of name v) i) d at
        (and_from (has_class q r.0 d) (has_entry q name v f (weak_feature d.name g)
        && not (same_vertex (feat name (class_of v) f) (feat d.real_name r.0 g))) (to_class q d r.0 r.1)
        (and_from (has_entry q name v f (weak_feature d.name g))
        (not (same_vertex (feat name (class_of v) f) (feat d.real_name r.0 g)))
        (subst (λ n. has_entry q name v f (weak_feature n g) ≡ true) (sym (text-same d.name x s)) t) (ap not w.0))))
        refl

    on_back : (e : Entry) (i : ℕ) (d : Dependency) (c : Cause) → has_entry q name v f e ≡ true
        → dependency_at q (version_of name v) i ≡ Some d → Contains (entry_if q name v f e i d) c → Here c
    on_back (feature g) i d c t at h = absurd (in_none c h)
    on_back (dependency x) i d c t at h =
        let w = from_if (same_text d.name x) c (of_enabling name v f (dependency x) i ∷ []) h in
        enabling_back (dependency x) i d c t at w.0 (only_one (of_enabling name v f (dependency x) i) c w.1)
    on_back (dependency_feature x g) i d c t at h =
        let w = from_if (same_text d.name x) c
        (of_enabling name v f (dependency_feature x g) i ∷ of_asking name v f g i ∷ []) h in
        elim (in_cons (of_enabling name v f (dependency_feature x g) i) c (of_asking name v f g i ∷ []) w.1) [
          | inl e ↦ enabling_back (dependency_feature x g) i d c t at w.0 (sym e)
          | inr r ↦ asking_back x g i d c t at w.0 (only_one (of_asking name v f g i) c r)
        ]
    on_back (weak_feature x g) i d c t at h =
        let w = from_if (same_text d.name x) c (flat_map (weak_if name v f g i d) (dep_classes q d)) h in
        weak_back x g i d c t at w.0 w.1

    entry_back : (e : Entry) (c : Cause) → Contains (entries_of q name v f) e
        → Contains (entry_causes q name v f e) c → Here c
    entry_back e c i h =
        let t : has_entry q name v f e ≡ true = to_any (same_entry e) (entries_of q name v f) e i (entry-refl e) in
        elim (Contains-append_cases (turned_if name v f e)
        (each_from (entry_if q name v f e) 0 (owner_brings q (version_of name v)).dependencies) c h) [
          | inl a ↦ turned_back e c t a
          | inr b ↦ let r = in_all (entry_if q name v f e) (owner_brings q (version_of name v)).dependencies c b in
              on_back e r.0 r.1 c t r.2 r.3
        ]

  version_back : (name : List ℕ) (v : Parts) (c : Cause) → Contains (version_causes q name v) c
      → Is (pkg name (class_of v)) (version v) c
  version_back name v c h = elim (Contains-append_cases (needs_of q (version_of name v))
      (flat_map (λ row. feature_causes q name v row.0) (table_of_owner q (version_of name v))) c h) [
        | inl a ↦ need_back (version_of name v) c a
        | inr b ↦ let r = in_flat (λ row. feature_causes q name v row.0) (table_of_owner q (version_of name v)) c b in
            let s = in_flat (entry_causes q name v (r.0).0) (entries_of q name v (r.0).0) c r.2 in
            entry_back name v (r.0).0 s.0 c s.1 s.2
      ]

  -- ---- of a dependency

  root_asked_back : (o : Owner) (d : Dependency) (g : List ℕ) → Contains (root_asked q o d) g → RootAsks q o d g
  root_asked_back the_root d g h =
      let r = in_flat (λ (p : List ℕ × List ℕ). cond (same_text d.name p.0) (p.1 ∷ []) []) q.root_asks g h in
      let w = from_if (same_text d.name (r.0).0) g ((r.0).1 ∷ []) r.2 in
      let e : (r.0).0 ≡ d.name = sym (text-same d.name (r.0).0 w.0) in
      let f : (r.0).1 ≡ g = sym (only_one (r.0).1 g w.1) in
      let same : r.0 ≡ (d.name, g) = λ i. (e i, f i) in
      subst (Contains q.root_asks) same r.1
  root_asked_back (version_of name v) d g h = absurd (in_none g h)

  module _ (o : Owner) (i : ℕ) (k : Class) (d : Dependency) (at : dependency_at q o i ≡ Some d)
      (has : has_class q k d ≡ true) where
    list_back : (g : List ℕ) (c : Cause) → Contains (asked_of_target d ++ root_asked q o d) g → c ≡ of_list o i k g
        → Is (dep o i) (in_class k) c
    list_back g c h is =
        thus _ _ (of_list o i k g) c is
        (to_passes (λ d. has_class q k d && lists_feature q o d g) (dependency_at q o i) d at
        (and_from (has_class q k d) (lists_feature q o d g) has
        (to_lists q o d g (elim (Contains-append_cases (asked_of_target d) (root_asked q o d) g h)
        [ inl a ↦ inl a | inr b ↦ inr (root_asked_back o d g b) ])))) refl

    newest_back : (c : Cause) → Contains (each_from (newest_if q o i k d) 0 (owner_brings q o).dependencies) c
        → Is (dep o i) (in_class k) c
    newest_back c h =
        let r = in_all (newest_if q o i k d) (owner_brings q o).dependencies c h in
        let j = r.0 in
        let e = r.1 in
        let a = from_if (is_other i d.real_name j e) c (flat_map (overtaken_if q o i k d j) (dep_classes q e)) r.3 in
        let b = in_flat (overtaken_if q o i k d j) (dep_classes q e) c a.1 in
        let m = b.0 in
        let w = from_if (is_lower k m && has_class q m d) c (of_newest o i j k m ∷ []) b.2 in
        thus _ _ (of_newest o i j k m) c (only_one (of_newest o i j k m) c w.1)
        (overtaken_is q o i j k m d e at r.2 a.0 has (to_class q e m b.1) w.0) refl

    lead_back : (c : Cause) → Contains (lead_causes q o i k (Some d)) c → Is (dep o i) (in_class k) c
    lead_back c h = elim (in_cons (of_target o i k) c (map (of_list o i k) (asked_of_target d ++ root_asked q o d)
        ++ each_from (newest_if q o i k d) 0 (owner_brings q o).dependencies) h) [
          | inl e ↦ thus _ _ (of_target o i k) c (sym e) (to_passes (has_class q k) (dependency_at q o i) d at has) refl
          | inr r ↦ elim (Contains-append_cases (map (of_list o i k) (asked_of_target d ++ root_asked q o d))
              (each_from (newest_if q o i k d) 0 (owner_brings q o).dependencies) c r) [
                | inl a ↦ let m =
                    in_map (of_list o i k) (asked_of_target d ++ root_asked q o d) c a in list_back m.0 c m.1 (sym m.2)
                | inr b ↦ newest_back c b
              ]
        ]

  pub class_there : (ks : List Class) (k : Class) → Contains (absent ∷ map in_class ks) (in_class k) → Contains ks k
  class_there ks k c = elim (in_cons absent (in_class k) (map in_class ks) c) [
    | inl e ↦ (let x : absent ≡ in_class k = e in cc)
    | inr d ↦ let r = in_map in_class ks (in_class k) d in subst (Contains ks) (inner r.0 k r.2) r.1
  ]
    where
      inner : (k m : Class) → in_class k ≡ in_class m → k ≡ m
      inner k m e = cc

  dep_back : (o : Owner) (i : ℕ) (k : Class) (c : Cause) → Contains (space q (dep o i)) (in_class k)
      → Contains (causes_at q (dep o i) (in_class k)) c → Is (dep o i) (in_class k) c
  dep_back o i k c = by (dependency_at q o i) refl
    where
      by : (x : Option Dependency) → dependency_at q o i ≡ x → Contains (dep_space q x) (in_class k)
          → Contains (lead_causes q o i k x) c → Is (dep o i) (in_class k) c
      by None e s h = absurd (in_none c h)
      by (Some d) e s h = lead_back o i k d e (to_class q d k (class_there (dep_classes q d) k s)) c h

  ask_back : (name : List ℕ) (v : Parts) (i : ℕ) (g : List ℕ) (c : Cause) → IsVertex q (ask name v i g)
      → Contains (causes_at q (ask name v i g) present) c → Is (ask name v i g) present c
  ask_back name v i g c (d, f, has, entry) h =
      let r = in_map (of_ask name v i g) (classes_at q (version_of name v) i) c h in
      let there : Contains (dep_classes q d) r.0 = subst (λ x. Contains (classes_if q x) r.0) has.1 r.1 in
      thus _ _ (of_ask name v i g r.0) c (sym r.2)
      (to_passes (λ d. has_class q r.0 d && some_entry q (same_entry (dependency_feature d.name g)) name v)
      (dependency_at q (version_of name v) i) d has.1
      (and_from (has_class q r.0 d)
      (some_entry q (same_entry (dependency_feature d.name g)) name v) (to_class q d r.0 there)
      (to_some_entry q (same_entry (dependency_feature d.name g)) name v f (dependency_feature d.name g) entry
      (entry-refl (dependency_feature d.name g))))) refl

  pub is_there : (v : Vertex) (s : State) → IsVertex q v → Contains (space q v) s → (c : Cause)
      → Contains (causes_at q v s) c → (is_cause q c ≡ true) × (first_pair c ≡ (v, s))
  is_there root absent is within c h = thus root absent of_root c (only_one of_root c h) refl refl
  is_there root present is within c h = need_back the_root c h
  is_there (pkg name k) (version v) is within c h =
      let r = version_back name v c h in
      (r.0, r.1 ∙ ap (λ m. (pkg name m, version v)) (sym (class_of_version name k v within)))
  is_there (dep o i) (in_class k) is within c h = dep_back o i k c within h
  is_there (feat name k f) present is within c h =
      thus _ _ (of_feature name k f) c (only_one (of_feature name k f) c h) (to_feature q name k f is) refl
  is_there (ask name v i g) present is within c h = ask_back name v i g c is h
  is_there v s is within c h = absurd (in_none c h)

  -- those of a dependency in a class that name no other dependency are among them
  pub alone_there : (o : Owner) (i : ℕ) (k : Class) → IsVertex q (dep o i) → Contains (space q (dep o i)) (in_class k)
      → (d : Dependency) → dependency_at q o i ≡ Some d
      → (c : Cause) → Contains (alone_causes q o i k (Some d)) c → IsCauseAt q (dep o i, in_class k) c
  alone_there o i k is within d e c h = is_there (dep o i) (in_class k) is within c
      (subst (λ y. Contains (lead_causes q o i k y) c) (sym e) (Contains-append_left (alone_causes q o i k (Some d))
      (each_from (newest_if q o i k d) 0 (owner_brings q o).dependencies) c h))

  -- A cause is listed for its pair exactly where it is there.
  pub listed_at : (v : Vertex) (s : State) → IsVertex q v → Contains (space q v) s → (c : Cause)
      → Contains (causes_at q v s) c ↔ ((is_cause q c ≡ true) × (first_pair c ≡ (v, s)))
  listed_at v s is within c = (
    is_there v s is within c,
    λ (t, e). subst (λ (p : Pair). Contains (causes_at q p.0 p.1) c) e (is_listed q c t),
  )

  -- ---- each once

  pub at_exact : (v : Vertex) (s : State) → IsVertex q v → Contains (space q v) s → (xs : List Cause)
      → xs ≡ with_causes [] (causes_at q v s) → AreCausesAt q (v, s) xs
  at_exact v s is within xs e =
      let cs = causes_at q v s in
      subst (AreCausesAt q (v, s)) (sym e) (record {
        listed = λ c. (
          λ i. (listed_at v s is within c).0 ((same_ones cs c).0 i),
          λ h. (same_ones cs c).1 ((listed_at v s is within c).1 h),
        );
        once = all_once [] cs (pairs_none (λ a b. a ≢ b));
      })
