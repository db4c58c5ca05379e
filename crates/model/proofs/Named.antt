-- The tests of what a cause names say what the definitions of the axioms ask.
use Rattle.std.proofs.Common.{◌≡◌, ℕ, List, [], ◌∷◌, ◌++◌, map, Bool, true, false, not, cond, ◌&&◌, ◌||◌, Contains}
use Rattle.std.proofs.Common.{Option, Some, None, slice_get, refl, sym, ap, ap₂, ◌∙◌, subst, inl, inr, ◌⊎◌, true≢false}
use Rattle.std.specs.List.{list_any}
use Rattle.std.proofs.lemmas.Bool.{and_from, not-true, or_left, or_right}
use Rattle.std.proofs.lemmas.Option.{none-some}
use Rattle.semver.specs.Parse.{Parts}
use Rattle.model.specs.Summary.{Dependency, Entry, feature, dependency, dependency_feature, weak_feature, Table}
use Rattle.model.specs.Summary.{entries_at, has_feature, asked_of_target, same_text}
use Rattle.model.specs.Content.{Candidate, Problem, candidates_of, candidate_at, brings_of, passes}
use Rattle.model.specs.Selection.{Class, class_of}
use Rattle.model.specs.Vertices.{Owner, the_root, version_of, same_class, in_that_class, owner_brings, matching}
use Rattle.model.specs.Vertices.{dep_classes, class_candidates}
use Rattle.model.specs.Axioms.{matched, IsNeeded, IsOwner, HasDep, HasClass, HasEntry, RootAsks, HasFeatVertex}
use Rattle.model.specs.Axioms.HasFeatVertex.{had, asked, by_entry}
use Rattle.model.proofs.Same.{both, text-same, text-refl, class-refl, class-same}
use Rattle.model.proofs.Lists.{in_none, in_first, in_rest, in_filter, to_filter, to_map, any_of, to_any}
use Rattle.model.proofs.Owners.{candidate_at-is}
use Rattle.model.proofs.Spaces.{class_in}
use Rattle.model.proofs.Vertices.{class_from}
use Rattle.model.specs.Causes.{same_entry, enables, asks_for, entries_or_none, is_needed, same_pair}
use Rattle.model.specs.Causes.{dependency_at, has_class, table_of_owner, entries_of, has_entry, some_entry}
use Rattle.model.specs.Causes.{root_asks_for, lists_feature, entry_asks, owners_in, owners, owner_asks}
use Rattle.model.specs.Causes.{has_feature_vertex}
use Rattle.std.proofs.lemmas.List.Elements.{Contains-append_right, Contains-append_left}
use Rattle.model.proofs.Places.{place_of, got_in}

-- ---- entries

pub entry-same : (e x : Entry) → same_entry e x ≡ true → e ≡ x
entry-same (feature g) (feature h) t = ap feature (text-same g h t)
entry-same (dependency d) (dependency e) t = ap dependency (text-same d e t)
entry-same (dependency_feature d g) (dependency_feature e h) t = let p =
    both (same_text d e) (same_text g h) t in ap₂ dependency_feature (text-same d e p.0) (text-same g h p.1)
entry-same (weak_feature d g) (weak_feature e h) t = let p =
    both (same_text d e) (same_text g h) t in ap₂ weak_feature (text-same d e p.0) (text-same g h p.1)
entry-same e x t = absurd (true≢false (sym t))

pub entry-refl : (e : Entry) → same_entry e e ≡ true
entry-refl (feature g) = text-refl g
entry-refl (dependency d) = text-refl d
entry-refl (dependency_feature d g) = and_from (same_text d d) (same_text g g) (text-refl d) (text-refl g)
entry-refl (weak_feature d g) = and_from (same_text d d) (same_text g g) (text-refl d) (text-refl g)

-- an entry that enables a dependency is `dep:d` or `d/g`
pub enables-is : (d : List ℕ) (e : Entry) → enables d e ≡ true
    → (e ≡ dependency d) ⊎ ((g : List ℕ) × (e ≡ dependency_feature d g))
enables-is d (feature g) t = absurd (true≢false (sym t))
enables-is d (dependency e) t = inl (ap dependency (sym (text-same d e t)))
enables-is d (dependency_feature e g) t = inr (g, ap (λ x. dependency_feature x g) (sym (text-same d e t)))
enables-is d (weak_feature e g) t = absurd (true≢false (sym t))

pub asks-is : (d g : List ℕ) (e : Entry) → asks_for d g e ≡ true → (e ≡ dependency_feature d g) ⊎ (e ≡ weak_feature d g)
asks-is d g (feature h) t = absurd (true≢false (sym t))
asks-is d g (dependency e) t = absurd (true≢false (sym t))
asks-is d g (dependency_feature e h) t = let p = both (same_text d e) (same_text g h) t in
    inl (ap₂ dependency_feature (sym (text-same d e p.0)) (sym (text-same g h p.1)))
asks-is d g (weak_feature e h) t = let p =
    both (same_text d e) (same_text g h) t in inr (ap₂ weak_feature (sym (text-same d e p.0)) (sym (text-same g h p.1)))

pub asks-strong : (d g : List ℕ) → asks_for d g (dependency_feature d g) ≡ true
asks-strong d g = and_from (same_text d d) (same_text g g) (text-refl d) (text-refl g)

pub asks-weak : (d g : List ℕ) → asks_for d g (weak_feature d g) ≡ true
asks-weak d g = and_from (same_text d d) (same_text g g) (text-refl d) (text-refl g)

pair-same : (a b : List ℕ × List ℕ) → same_pair a b ≡ true → a ≡ b
pair-same a b t = let p = both (same_text a.0 b.0) (same_text a.1 b.1) t in
    let e : a.0 ≡ b.0 = text-same a.0 b.0 p.0 in
    let f : a.1 ≡ b.1 = text-same a.1 b.1 p.1 in
    λ i. (e i, f i)

pair-refl : (a : List ℕ × List ℕ) → same_pair a a ≡ true
pair-refl a = and_from (same_text a.0 a.0) (same_text a.1 a.1) (text-refl a.0) (text-refl a.1)

-- what passes is there
pub passes-is : {X : Type 0} (p : X → Bool) (o : Option X) → passes p o ≡ true → (x : X) × (o ≡ Some x) × (p x ≡ true)
passes-is p None t = absurd (true≢false (sym t))
passes-is p (Some x) t = (x, refl, t)

pub to_passes : {X : Type 0} (p : X → Bool) (o : Option X) (x : X) → o ≡ Some x → p x ≡ true → passes p o ≡ true
to_passes p o x e t = ap (passes p) e ∙ t

pub needed-is : (o : Owner) (d : Dependency) → is_needed o d ≡ true → IsNeeded o d
needed-is the_root d t = tt
needed-is (version_of name v) d t = not-true d.optional t

pub to_needed : (o : Owner) (d : Dependency) → IsNeeded o d → is_needed o d ≡ true
to_needed the_root d h = refl
to_needed (version_of name v) d h = ap not h

module _ (q : Problem) where
  -- ---- owners: what brings anything is the root or a candidate

  owner_if_found : (name : List ℕ) (v : Parts) (c : Candidate)
      → candidate_at (candidates_of q.candidates name) v ≡ Some c → IsOwner q (version_of name v)
  owner_if_found name v c e = let r = candidate_at-is (candidates_of q.candidates name) v c e in (c, r.0, sym r.1)

  pub dep_owner : (o : Owner) (i : ℕ) (d : Dependency) → dependency_at q o i ≡ Some d → HasDep q o i d
  dep_owner the_root i d e = (tt, e)
  dep_owner (version_of name v) i d e = (by (candidate_at (candidates_of q.candidates name) v) refl e, e)
    where
      by : (c : Option Candidate) → candidate_at (candidates_of q.candidates name) v ≡ c
          → slice_get (brings_of c).dependencies i ≡ Some d → IsOwner q (version_of name v)
      by None f e = absurd (none-some d e)
      by (Some c) f e = owner_if_found name v c f

  -- ---- entries of a version

  pub entry-is : (name : List ℕ) (v : Parts) (f : List ℕ) (e : Entry)
      → Contains (entries_of q name v f) e → HasEntry q name v f e
  entry-is name v f e c = by (candidate_at (candidates_of q.candidates name) v) refl
    where
      listed : (o : Option (List Entry)) → entries_at f (table_of_owner q (version_of name v)) ≡ o
          → Contains (entries_or_none o) e
          → (es : List Entry) × (entries_at f (table_of_owner q (version_of name v)) ≡ Some es) × Contains es e
      listed None g c = absurd (in_none e c)
      listed (Some es) g c = (es, g, c)

      by : (o : Option Candidate) → candidate_at (candidates_of q.candidates name) v ≡ o → HasEntry q name v f e
      by None g =
          absurd (in_none e (subst (λ o. Contains (entries_or_none (entries_at f (brings_of o).features)) e) g c))
      by (Some x) g = let r = listed (entries_at f (table_of_owner q (version_of name v))) refl c in
          (owner_if_found name v x g, r.0, r.1, r.2)

  pub to_entry : (name : List ℕ) (v : Parts) (f : List ℕ) (e : Entry) → HasEntry q name v f e
      → Contains (entries_of q name v f) e
  to_entry name v f e (o, es, g, c) = subst (λ x. Contains (entries_or_none x) e) (sym g) c

  pub has_entry-is : (name : List ℕ) (v : Parts) (f : List ℕ) (e : Entry)
      → has_entry q name v f e ≡ true → HasEntry q name v f e
  has_entry-is name v f e t =
      let r = any_of (same_entry e) (entries_of q name v f) t in
      entry-is name v f e (subst (Contains (entries_of q name v f)) (sym (entry-same e r.0 r.2)) r.1)

  pub to_has_entry : (name : List ℕ) (v : Parts) (f : List ℕ) (e : Entry) → HasEntry q name v f e
      → has_entry q name v f e ≡ true
  to_has_entry name v f e h = to_any (same_entry e) (entries_of q name v f) e (to_entry name v f e h) (entry-refl e)

  pub some_entry-is : (test : Entry → Bool) (name : List ℕ) (v : Parts) → some_entry q test name v ≡ true
      → (f : List ℕ) × (e : Entry) × HasEntry q name v f e × (test e ≡ true)
  some_entry-is test name v t =
      let r = any_of (λ row. list_any test (entries_of q name v row.0)) (table_of_owner q (version_of name v)) t in
      let s = any_of test (entries_of q name v (r.0).0) r.2 in
      ((r.0).0, s.0, entry-is name v (r.0).0 s.0 s.1, s.2)

  -- a feature with entries has a row
  pub row_of : (table : Table) (f : List ℕ) (es : List Entry) → entries_at f table ≡ Some es
      → (row : List ℕ × List Entry) × Contains table row × (f ≡ row.0)
  row_of [] f es e = absurd (none-some es e)
  row_of (row ∷ rows) f es e = by (λ e. row_of rows f es e) (same_text f row.0) refl e
    where
      by : (entries_at f rows ≡ Some es → (r : List ℕ × List Entry) × Contains rows r × (f ≡ r.0))
          → (b : Bool) → same_text f row.0 ≡ b
          → cond b (Some row.1) (entries_at f rows) ≡ Some es
          → (r : List ℕ × List Entry) × Contains (row ∷ rows) r × (f ≡ r.0)
      by rest true s e = (row, in_first row rows, text-same f row.0 s)
      by rest false s e = let r = rest e in (r.0, in_rest row r.0 rows r.1, r.2)

  pub to_some_entry : (test : Entry → Bool) (name : List ℕ) (v : Parts) (f : List ℕ) (e : Entry) → HasEntry q name v f e
      → test e ≡ true → some_entry q test name v ≡ true
  to_some_entry test name v f e h t =
      let r = row_of (table_of_owner q (version_of name v)) f h.1 h.2 in
      to_any (λ row. list_any test (entries_of q name v row.0)) (table_of_owner q (version_of name v)) r.0 r.1
      (subst (λ g. list_any test (entries_of q name v g) ≡ true) r.2
      (to_any test (entries_of q name v f) e (to_entry name v f e h) t))

  -- ---- classes that a dependency may lead to

  pub class-is : (d : Dependency) (k : Class) → has_class q k d ≡ true → HasClass q d k
  class-is d k t =
      let r = any_of (matched d) (class_candidates q d.real_name k) t in
      let f = in_filter (in_that_class k) (candidates_of q.candidates d.real_name) r.0 r.1 in
      let m : Contains (matching q d) r.0 =
      to_filter (matched d) (candidates_of q.candidates d.real_name) r.0 f.0 r.2 in
      subst (Contains (dep_classes q d)) (sym (class-same k (class_of (r.0).version) f.1))
      (class_in (matching q d) r.0 m)

  pub to_class : (d : Dependency) (k : Class) → HasClass q d k → has_class q k d ≡ true
  to_class d k h =
      let r = class_from (matching q d) k h in
      let f = in_filter (matched d) (candidates_of q.candidates d.real_name) r.0 r.1 in
      to_any (matched d) (class_candidates q d.real_name k) r.0
      (to_filter (in_that_class k) (candidates_of q.candidates d.real_name) r.0 f.0
      (subst (λ m. same_class k m ≡ true) (sym r.2) (class-refl k))) f.1

  -- ---- what is asked for

  pub root_asks-is : (o : Owner) (d : Dependency) (g : List ℕ) → root_asks_for q o d g ≡ true → RootAsks q o d g
  root_asks-is the_root d g t = let r = any_of (same_pair (d.name, g)) q.root_asks t in
      subst (Contains q.root_asks) (sym (pair-same (d.name, g) r.0 r.2)) r.1
  root_asks-is (version_of name v) d g t = true≢false (sym t)

  pub to_root_asks : (o : Owner) (d : Dependency) (g : List ℕ) → RootAsks q o d g → root_asks_for q o d g ≡ true
  to_root_asks the_root d g c = to_any (same_pair (d.name, g)) q.root_asks (d.name, g) c (pair-refl (d.name, g))
  to_root_asks (version_of name v) d g c = absurd c

  pub lists-is : (o : Owner) (d : Dependency) (g : List ℕ) → lists_feature q o d g ≡ true
      → Contains (asked_of_target d) g ⊎ RootAsks q o d g
  lists-is o d g t = by (list_any (same_text g) (asked_of_target d)) refl t
    where
      by : (b : Bool) → list_any (same_text g) (asked_of_target d) ≡ b → (b || root_asks_for q o d g) ≡ true
          → Contains (asked_of_target d) g ⊎ RootAsks q o d g
      by true e t = let r = any_of (same_text g) (asked_of_target d) e in
          inl (subst (Contains (asked_of_target d)) (sym (text-same g r.0 r.2)) r.1)
      by false e t = inr (root_asks-is o d g t)

  pub to_lists : (o : Owner) (d : Dependency) (g : List ℕ) → Contains (asked_of_target d) g ⊎ RootAsks q o d g
      → lists_feature q o d g ≡ true
  to_lists o d g (inl c) = or_left (list_any (same_text g) (asked_of_target d)) (root_asks_for q o d g)
      (to_any (same_text g) (asked_of_target d) g c (text-refl g))
  to_lists o d g (inr c) =
      or_right (list_any (same_text g) (asked_of_target d)) (root_asks_for q o d g) (to_root_asks o d g c)

  -- ---- owners, one after another

  owner_in : (rows : List (List ℕ × List Candidate)) (name : List ℕ) (c : Candidate)
      → Contains (candidates_of rows name) c → Contains (owners_in rows) (version_of name c.version)
  owner_in [] name c i = absurd (in_none c i)
  owner_in (row ∷ rows) name c i = by (λ i. owner_in rows name c i) (same_text name row.0) refl i
    where
      by : (Contains (candidates_of rows name) c → Contains (owners_in rows) (version_of name c.version)) → (b : Bool)
          → same_text name row.0 ≡ b
          → Contains (cond b row.1 (candidates_of rows name)) c
          → Contains (map (λ x. version_of row.0 x.version) row.1 ++ owners_in rows) (version_of name c.version)
      by rest true s i =
          Contains-append_left (map (λ x. version_of row.0 x.version) row.1) (owners_in rows)
          (version_of name c.version)
          (subst (λ n. Contains (map (λ (x : Candidate). version_of row.0 x.version) row.1) (version_of n c.version))
          (sym (text-same name row.0 s))
          (to_map (λ (x : Candidate). version_of row.0 x.version) row.1 c i))
      by rest false s i = Contains-append_right (map (λ x. version_of row.0 x.version) row.1) (owners_in rows)
          (version_of name c.version) (rest i)

  pub to_owners : (o : Owner) → IsOwner q o → Contains (owners q) o
  to_owners the_root h = in_first the_root (owners_in q.candidates)
  to_owners (version_of name v) (c, i, e) = in_rest the_root (version_of name v) (owners_in q.candidates)
      (subst (λ w. Contains (owners_in q.candidates) (version_of name w)) e (owner_in q.candidates name c i))

  -- ---- the vertices of features

  pub feature-is : (name : List ℕ) (k : Class) (f : List ℕ) → has_feature_vertex q name k f ≡ true
      → HasFeatVertex q name k f
  feature-is name k f t =
      by (list_any (λ c. has_feature c.brings.features f) (candidates_of q.candidates name)) refl e.1
    where
      e : (list_any (λ c. true) (class_candidates q name k) ≡ true)
          × ((list_any (λ c. has_feature c.brings.features f) (candidates_of q.candidates name)
          || list_any (owner_asks q name f) (owners q)) ≡ true)
      e = both _ _ t

      there : (c : Candidate) × Contains (class_candidates q name k) c × (true ≡ true)
      there = any_of (λ c. true) (class_candidates q name k) e.0

      at_name : (d : Dependency) → same_text d.real_name name ≡ true
          → Contains (class_candidates q d.real_name k) there.0
      at_name d s = subst (λ n. Contains (class_candidates q n k) there.0) (sym (text-same d.real_name name s)) there.1

      renamed : (d : Dependency) → same_text d.real_name name ≡ true → HasFeatVertex q d.real_name k f
          → HasFeatVertex q name k f
      renamed d s h = subst (λ n. HasFeatVertex q n k f) (text-same d.real_name name s) h

      of_entry : (o : Owner) (i : ℕ) (d : Dependency) → dependency_at q o i ≡ Some d → same_text d.real_name name ≡ true
          → entry_asks q o d f ≡ true → HasFeatVertex q name k f
      of_entry the_root i d at s t = absurd (true≢false (sym t))
      of_entry (version_of m v) i d at s t =
          let r = some_entry-is (asks_for d.name f) m v t in
          renamed d s (by_entry m v i d k r.0 f there.0 (dep_owner (version_of m v) i d at) (at_name d s)
          (elim (asks-is d.name f r.1 r.3) [
            | inl x ↦ inl (subst (HasEntry q m v r.0) x r.2)
            | inr x ↦ inr (subst (HasEntry q m v r.0) x r.2)
          ]))

      of_dep : (o : Owner) (i : ℕ) (d : Dependency) → dependency_at q o i ≡ Some d → same_text d.real_name name ≡ true
          → (b : Bool) → lists_feature q o d f ≡ b
          → (b || entry_asks q o d f) ≡ true → HasFeatVertex q name k f
      of_dep o i d at s true l t =
          renamed d s (asked o i d k f there.0 (dep_owner o i d at) (at_name d s) (lists-is o d f l))
      of_dep o i d at s false l t = of_entry o i d at s t

      by : (b : Bool) → list_any (λ c. has_feature c.brings.features f) (candidates_of q.candidates name) ≡ b
          → (b || list_any (owner_asks q name f) (owners q)) ≡ true
          → HasFeatVertex q name k f
      by true h t = let r =
          any_of (λ (c : Candidate). has_feature c.brings.features f) (candidates_of q.candidates name) h in
          had name k f r.0 there.0 r.1 there.1 r.2
      by false h t =
          let r = any_of (owner_asks q name f) (owners q) t in
          let d = any_of (λ d. same_text d.real_name name && (lists_feature q r.0 d f || entry_asks q r.0 d f))
          (owner_brings q r.0).dependencies r.2 in
          let p = place_of (owner_brings q r.0).dependencies d.0 d.1 in
          let x = both (same_text (d.0).real_name name) (lists_feature q r.0 d.0 f || entry_asks q r.0 d.0 f) d.2 in
          of_dep r.0 p.0 d.0 p.1 x.0 (lists_feature q r.0 d.0 f) refl x.1

  asked_by_owner : (o : Owner) (i : ℕ) (d : Dependency) (k : Class) (f : List ℕ) (e : Candidate) → HasDep q o i d
      → Contains (class_candidates q d.real_name k) e
      → (lists_feature q o d f || entry_asks q o d f) ≡ true → has_feature_vertex q d.real_name k f ≡ true
  asked_by_owner o i d k f e h c t = and_from _ _ (to_any (λ c. true) (class_candidates q d.real_name k) e c refl)
      (or_right (list_any (λ c. has_feature c.brings.features f) (candidates_of q.candidates d.real_name))
      (list_any (owner_asks q d.real_name f) (owners q))
      (to_any (owner_asks q d.real_name f) (owners q) o (to_owners o h.0)
      (to_any (λ x. same_text x.real_name d.real_name && (lists_feature q o x f || entry_asks q o x f))
      (owner_brings q o).dependencies d
      (got_in (owner_brings q o).dependencies i d h.1) (and_from _ _ (text-refl d.real_name) t))))

  pub to_feature : (name : List ℕ) (k : Class) (f : List ℕ) → HasFeatVertex q name k f
      → has_feature_vertex q name k f ≡ true
  to_feature name k f (had _ _ _ c e i j h) = and_from _ _ (to_any (λ c. true) (class_candidates q name k) e j refl)
      (or_left (list_any (λ c. has_feature c.brings.features f) (candidates_of q.candidates name))
      (list_any (owner_asks q name f) (owners q))
      (to_any (λ (c : Candidate). has_feature c.brings.features f) (candidates_of q.candidates name) c i h))
  to_feature name k f (asked o i d _ _ e h c a) =
      asked_by_owner o i d k f e h c (or_left (lists_feature q o d f) (entry_asks q o d f) (to_lists o d f a))
  to_feature name k f (by_entry m v i d _ g _ e h c a) = asked_by_owner (version_of m v) i d k f e h c
      (or_right (lists_feature q (version_of m v) d f) (entry_asks q (version_of m v) d f) (elim a [
        | inl x ↦ to_some_entry (asks_for d.name f) m v g (dependency_feature d.name f) x (asks-strong d.name f)
        | inr x ↦ to_some_entry (asks_for d.name f) m v g (weak_feature d.name f) x (asks-weak d.name f)
      ]))
