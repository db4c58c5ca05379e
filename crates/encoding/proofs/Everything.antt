-- Just the vertices of a problem are named.
use Rattle.std.proofs.Common.{◌≡◌, ℕ, List, [], ◌∷◌, ◌++◌, map, Bool, true, false, cond, Contains, Option, Some}
use Rattle.std.proofs.Common.{None, is_some, refl, sym, ap, ◌∙◌, subst, inl, inr, ◌⊎◌, true≢false}
use Rattle.std.specs.List.{flat_map, AllPairs}
use Rattle.semver.specs.Parse.{Parts}
use Rattle.model.specs.Summary.{Summary, Dependency, Entry, Table, feature, dependency, dependency_feature}
use Rattle.model.specs.Summary.{weak_feature, asked_of_target, entries_at, has_feature, same_text}
use Rattle.model.specs.Content.{Problem, Candidate, candidates_of, candidate_at, brings_of, same_version}
use Rattle.model.specs.Selection.{Class, class_of}
use Rattle.model.specs.Order.{IsCatalogue}
use Rattle.model.specs.Vertices.{Owner, the_root, version_of, Vertex, root, pkg, dep, feat, ask, version}
use Rattle.model.specs.Vertices.{in_that_class, owner_brings, class_candidates}
use Rattle.model.specs.Axioms.{IsOwner, HasDep, HasEntry, RootAsks, HasFeatVertex, IsVertex}
use Rattle.model.specs.Axioms.HasFeatVertex.{had, asked, by_entry}
use Rattle.model.proofs.Flat.{in_flat, to_flat}
use Rattle.model.proofs.Lists.{in_none, in_cons, in_first, in_rest, in_filter, to_filter, in_map, to_map, pairs_first}
use Rattle.model.proofs.Lists.{pairs_rest}
use Rattle.model.proofs.Owners.{candidate_at-is}
use Rattle.model.proofs.Same.{text-same, text-refl, class-same, class-refl, version-same, version-refl}
use Rattle.model.proofs.Places.{place_of, got_in}
use Rattle.model.specs.Causes.{entries_of, table_of_owner}
use Rattle.std.proofs.lemmas.List.Elements.{Contains-append_cases, Contains-append_right, Contains-append_left}
use Rattle.model.proofs.Named.{dep_owner, entry-is, to_entry, row_of}
use Rattle.numbering.proofs.Each.{from_if, in_all, only_one, to_all, to_if}
use Rattle.numbering.proofs.ClassOrder.{IsOlder}
use Rattle.numbering.proofs.Distinct.{of_rows, older_differ}
use Rattle.encoding.specs.inner.Everything.{ask_if, asks_of, versions_of, feature_of, asked_if, asked_of, asked_for}
use Rattle.encoding.specs.inner.Everything.{of_dependency, of_dependencies, of_entry, of_feature, of_version, of_name}
use Rattle.encoding.specs.inner.Everything.{of_root, named}

-- ---- lists

-- a row of a table is a feature of it
row_feature : (table : Table) (row : List ℕ × List Entry) → Contains table row → has_feature table row.0 ≡ true
row_feature [] row c = absurd (in_none row c)
row_feature (r ∷ rows) row c = by (λ c. row_feature rows row c) (same_text row.0 r.0) refl (in_cons r row rows c)
  where
    by : (Contains rows row → has_feature rows row.0 ≡ true) → (b : Bool) → same_text row.0 r.0 ≡ b
        → (r ≡ row) ⊎ Contains rows row → is_some (cond b (Some r.1) (entries_at row.0 rows)) ≡ true
    by rest true s c = refl
    by rest false s (inl e) = absurd (true≢false (sym (subst (λ (x : List ℕ × List Entry). same_text row.0 x.0 ≡ true)
        (sym e) (text-refl row.0)) ∙ s))
    by rest false s (inr c) = rest c

feature_row : (table : Table) (f : List ℕ) → has_feature table f ≡ true
    → (es : List Entry) × (entries_at f table ≡ Some es)
feature_row table f h = by (entries_at f table) refl h
  where
    by : (o : Option (List Entry)) → entries_at f table ≡ o → is_some o ≡ true
        → (es : List Entry) × (entries_at f table ≡ Some es)
    by None e t = absurd (true≢false (sym t))
    by (Some es) e t = (es, e)

-- a candidate among others that rise is found by its version
found_itself : (cs : List Candidate) (c : Candidate) → AllPairs IsOlder cs → Contains cs c
    → candidate_at cs c.version ≡ Some c
found_itself [] c rise i = absurd (in_none c i)
found_itself (x ∷ cs) c rise i = by
    (λ i. found_itself cs c (pairs_rest IsOlder x cs rise) i) (same_version c.version x.version) refl (in_cons x c cs i)
  where
    by : (Contains cs c → candidate_at cs c.version ≡ Some c) → (b : Bool) → same_version c.version x.version ≡ b
        → (x ≡ c) ⊎ Contains cs c
        → cond b (Some x) (candidate_at cs c.version) ≡ Some c
    by rest true s (inl e) = ap Some e
    by rest true s (inr d) = absurd
        (older_differ x c (pairs_first IsOlder x c cs rise d) (ap version (sym (version-same c.version x.version s))))
    by rest false s (inl e) = absurd (true≢false (sym (subst (λ (y : Candidate). same_version c.version y.version
        ≡ true) (sym e) (version-refl c.version)) ∙ s))
    by rest false s (inr d) = rest d

-- a candidate's name has a row
name_there : (rows : List (List ℕ × List Candidate)) (name : List ℕ) (c : Candidate)
    → Contains (candidates_of rows name) c → Contains (map (λ row. row.0) rows) name
name_there [] name c i = absurd (in_none c i)
name_there (row ∷ rows) name c i = by (λ i. name_there rows name c i) (same_text name row.0) refl i
  where
    by : (Contains (candidates_of rows name) c → Contains (map (λ row. row.0) rows) name) → (b : Bool)
        → same_text name row.0 ≡ b
        → Contains (cond b row.1 (candidates_of rows name)) c → Contains (row.0 ∷ map (λ row. row.0) rows) name
    by rest true s i = subst (Contains (row.0 ∷ map (λ (r : List ℕ × List Candidate). r.0) rows))
        (sym (text-same name row.0 s)) (in_first row.0 (map (λ (r : List ℕ × List Candidate). r.0) rows))
    by rest false s i = in_rest row.0 name (map (λ (r : List ℕ × List Candidate). r.0) rows) (rest i)

module _ (q : Problem) where
  -- ---- what is named is a vertex

  -- a version of a name is that of a candidate
  candidate_is : (name : List ℕ) (v : Parts) → Contains (versions_of q name) v → IsOwner q (version_of name v)
  candidate_is name v c = let r =
      in_map (λ (c : Candidate). c.version) (candidates_of q.candidates name) v c in (r.0, r.1, r.2)

  in_class : (name : List ℕ) (c : Candidate) → Contains (candidates_of q.candidates name) c
      → Contains (class_candidates q name (class_of c.version)) c
  in_class name c i = to_filter (in_that_class (class_of c.version)) (candidates_of q.candidates name) c i
      (class-refl (class_of c.version))

  -- the feature of a name, of which there is a candidate
  feature_is : (name f : List ℕ) (v : Vertex) → Contains (feature_of q name f) v
      → (c : Candidate) × Contains (candidates_of q.candidates name) c × (feat name (class_of c.version) f ≡ v)
  feature_is name f v h =
      let r = in_map (λ w. feat name (class_of w) f) (versions_of q name) v h in
      let s = in_map (λ (c : Candidate). c.version) (candidates_of q.candidates name) r.0 r.1 in
      (s.0, s.1, ap (λ w. feat name (class_of w) f) s.2 ∙ r.2)

  -- the class in which a feature is asked for has a candidate
  asked_vertex : (o : Owner) (i : ℕ) (d : Dependency) (g : List ℕ) (v : Vertex) → HasDep q o i d
      → Contains (asked_of_target d) g ⊎ RootAsks q o d g → Contains (feature_of q d.real_name g) v
      → IsVertex q v
  asked_vertex o i d g v has a h =
      let r = feature_is d.real_name g v h in
      subst (IsVertex q) r.2 (asked o i d (class_of (r.0).version) g r.0 has (in_class d.real_name r.0 r.1) a)

  entry_vertex : (name : List ℕ) (w : Parts) (i : ℕ) (d : Dependency) (f g : List ℕ) (v : Vertex)
      → HasDep q (version_of name w) i d
      → HasEntry q name w f (dependency_feature d.name g) ⊎ HasEntry q name w f (weak_feature d.name g)
      → Contains (feature_of q d.real_name g) v → IsVertex q v
  entry_vertex name w i d f g v has a h =
      let r = feature_is d.real_name g v h in
      subst (IsVertex q) r.2
      (by_entry name w i d (class_of (r.0).version) f g r.0 has (in_class d.real_name r.0 r.1) a)

  dependencies_are : (o : Owner) (v : Vertex) → Contains (of_dependencies q o) v → IsVertex q v
  dependencies_are o v h =
      let r = in_all (of_dependency q o) (owner_brings q o).dependencies v h in
      let has : HasDep q o r.0 r.1 = dep_owner q o r.0 r.1 r.2 in
      elim (in_cons (dep o r.0) v (flat_map (feature_of q (r.1).real_name) (asked_of_target r.1)) r.3) [
        | inl e ↦ subst (IsVertex q) e (r.1, has)
        | inr c ↦ let s = in_flat (feature_of q (r.1).real_name) (asked_of_target r.1) v c in
            asked_vertex o r.0 r.1 s.0 v has (inl s.1) s.2
      ]

  -- a feature that a version has
  own_feature : (name : List ℕ) (w : Parts) (row : List ℕ × List Entry) (v : Vertex)
      → Contains (table_of_owner q (version_of name w)) row → Contains (feature_of q name row.0) v → IsVertex q v
  own_feature name w row v there h = by (candidate_at (candidates_of q.candidates name) w) refl there
    where
      by : (o : Option Candidate) → candidate_at (candidates_of q.candidates name) w ≡ o
          → Contains (brings_of o).features row → IsVertex q v
      by None e c = absurd (in_none row c)
      by (Some x) e c =
          let r = feature_is name row.0 v h in
          let is = candidate_at-is (candidates_of q.candidates name) w x e in
          subst (IsVertex q) r.2 (had name (class_of (r.0).version) row.0 x r.0 is.0 (in_class name r.0 r.1)
          (row_feature x.brings.features row c))

  ask_vertex : (name : List ℕ) (w : Parts) (f x g : List ℕ) (i : ℕ) (d : Dependency) (v : Vertex)
      → HasEntry q name w f (dependency_feature x g) → HasDep q (version_of name w) i d
      → Contains (ask_if name w x g i d) v → IsVertex q v
  ask_vertex name w f x g i d v has at h =
      let r = from_if (same_text d.name x) v (ask name w i g ∷ []) h in
      subst (IsVertex q) (sym (only_one (ask name w i g) v r.1))
      (d, f, at, subst (λ n. HasEntry q name w f (dependency_feature n g)) (sym (text-same d.name x r.0)) has)

  asks_are : (name : List ℕ) (w : Parts) (f : List ℕ) (e : Entry) (v : Vertex) → HasEntry q name w f e
      → Contains (asks_of name w (owner_brings q (version_of name w)).dependencies e) v → IsVertex q v
  asks_are name w f (feature g) v has h = absurd (in_none v h)
  asks_are name w f (dependency x) v has h = absurd (in_none v h)
  asks_are name w f (weak_feature x g) v has h = absurd (in_none v h)
  asks_are name w f (dependency_feature x g) v has h =
      let r = in_all (ask_if name w x g) (owner_brings q (version_of name w)).dependencies v h in
      ask_vertex name w f x g r.0 r.1 v has (dep_owner q (version_of name w) r.0 r.1 r.2) r.3

  -- what is asked of dependencies that are called x
  called_are : (o : Owner) (x g : List ℕ) (v : Vertex)
      → ((i : ℕ) (d : Dependency) → HasDep q o i d → d.name ≡ x
      → Contains (feature_of q d.real_name g) v → IsVertex q v)
      → Contains (asked_of q (owner_brings q o).dependencies x g) v → IsVertex q v
  called_are o x g v is h =
      let ds = (owner_brings q o).dependencies in
      let s = in_flat (asked_if q x g) ds v h in
      let p = place_of ds s.0 s.1 in
      let r = from_if (same_text (s.0).name x) v (feature_of q (s.0).real_name g) s.2 in
      is p.0 s.0 (dep_owner q o p.0 s.0 p.1) (text-same (s.0).name x r.0) r.1

  asked_are : (name : List ℕ) (w : Parts) (f : List ℕ) (e : Entry) (v : Vertex) → HasEntry q name w f e
      → Contains (asked_for q (owner_brings q (version_of name w)).dependencies e) v → IsVertex q v
  asked_are name w f (feature g) v has h = absurd (in_none v h)
  asked_are name w f (dependency x) v has h = absurd (in_none v h)
  asked_are name w f (dependency_feature x g) v has h = called_are (version_of name w) x g v
      (λ i d at e c. entry_vertex name w i d f g v at
      (inl (subst (λ n. HasEntry q name w f (dependency_feature n g)) (sym e) has)) c) h
  asked_are name w f (weak_feature x g) v has h = called_are (version_of name w) x g v
      (λ i d at e c. entry_vertex name w i d f g v at
      (inr (subst (λ n. HasEntry q name w f (weak_feature n g)) (sym e) has)) c) h

  entry_are : (name : List ℕ) (w : Parts) (f : List ℕ) (e : Entry) (v : Vertex) → HasEntry q name w f e
      → Contains (of_entry q name w (owner_brings q (version_of name w)).dependencies e) v → IsVertex q v
  entry_are name w f e v has h =
      let ds = (owner_brings q (version_of name w)).dependencies in
      elim (Contains-append_cases (asks_of name w ds e) (asked_for q ds e) v h)
      [ inl a ↦ asks_are name w f e v has a | inr b ↦ asked_are name w f e v has b ]

  version_are : (name : List ℕ) (w : Parts) (v : Vertex) → Contains (versions_of q name) w
      → Contains (of_version q name w) v → IsVertex q v
  version_are name w v there h =
      let own = candidate_is name w there in
      let table = table_of_owner q (version_of name w) in
      elim (in_cons (pkg name (class_of w)) v (of_dependencies q (version_of name w)
      ++ flat_map (λ row. of_feature q name w (owner_brings q (version_of name w)) row.0) table) h) [
        | inl e ↦ subst (IsVertex q) e (
          own.0,
          subst (λ x. Contains (class_candidates q name (class_of x)) own.0) own.2 (in_class name own.0 own.1),
        )
        | inr c ↦ elim (Contains-append_cases (of_dependencies q (version_of name w))
            (flat_map (λ row. of_feature q name w (owner_brings q (version_of name w)) row.0) table) v c) [
              | inl a ↦ dependencies_are (version_of name w) v a
              | inr b ↦ let r = in_flat (λ (row : List ℕ × List Entry).
                  of_feature q name w (owner_brings q (version_of name w)) row.0) table v b in
                  let f = (r.0).0 in
                  elim (Contains-append_cases (feature_of q name f) (flat_map (of_entry q name w
                  (owner_brings q (version_of name w)).dependencies) (entries_of q name w f)) v r.2) [
                    | inl x ↦ own_feature name w r.0 v r.1 x
                    | inr y ↦ let s = in_flat (of_entry q name w (owner_brings q (version_of name w)).dependencies)
                        (entries_of q name w f) v y in
                        entry_are name w f s.0 v (entry-is q name w f s.0 s.1) s.2
                  ]
            ]
      ]

  -- what the entries of the root ask for
  abbrev root_asked : List ℕ × List ℕ → List Vertex
  root_asked p = asked_of q (owner_brings q the_root).dependencies p.0 p.1

  root_are : (v : Vertex) → Contains (of_root q) v → IsVertex q v
  root_are v h =
      elim (in_cons root v (of_dependencies q the_root ++ flat_map root_asked q.root_asks) h) [
        | inl e ↦ subst (IsVertex q) e tt
        | inr c ↦ elim (Contains-append_cases (of_dependencies q the_root) (flat_map root_asked q.root_asks) v c) [
          | inl a ↦ dependencies_are the_root v a
          | inr b ↦ let r = in_flat root_asked q.root_asks v b in
              called_are the_root (r.0).0 (r.0).1 v
              (λ i d at e c. asked_vertex the_root i d (r.0).1 v at
              (inr (subst (λ (x : List ℕ). Contains q.root_asks (x, (r.0).1)) (sym e) r.1)) c) r.2
        ]
      ]

  pub named_are : (v : Vertex) → Contains (named q) v → IsVertex q v
  named_are v h = elim
      (Contains-append_cases (of_root q) (flat_map (of_name q) (map (λ row. row.0) q.candidates)) v h) [
        | inl a ↦ root_are v a
        | inr b ↦ let r = in_flat (of_name q) (map (λ (row : List ℕ × List Candidate). row.0) q.candidates) v b in
            let s = in_flat (of_version q r.0) (versions_of q r.0) v r.2 in
            version_are r.0 s.0 v s.1 s.2
      ]

  -- ---- each vertex is named

  owner_named : (name : List ℕ) (w : Parts) (v : Vertex) → IsOwner q (version_of name w)
      → Contains (of_version q name w) v → Contains (named q) v
  owner_named name w v (c, i, e) h =
      Contains-append_right (of_root q) (flat_map (of_name q) (map (λ row. row.0) q.candidates)) v
      (to_flat (of_name q) (map (λ (row : List ℕ × List Candidate). row.0) q.candidates) name v
      (name_there q.candidates name c i)
      (to_flat (of_version q name) (versions_of q name) w v (subst (Contains (versions_of q name)) e
      (to_map (λ (c : Candidate). c.version) (candidates_of q.candidates name) c i)) h))

  dependency_named : (o : Owner) (i : ℕ) (d : Dependency) (v : Vertex) → HasDep q o i d
      → Contains (of_dependency q o i d) v → Contains (named q) v
  dependency_named the_root i d v has h =
      Contains-append_left (of_root q) (flat_map (of_name q) (map (λ row. row.0) q.candidates)) v
      (in_rest root v
      (of_dependencies q the_root ++ flat_map root_asked q.root_asks)
      (Contains-append_left (of_dependencies q the_root) (flat_map root_asked q.root_asks) v
      (to_all (of_dependency q the_root) (owner_brings q the_root).dependencies i d v has.1 h)))
  dependency_named (version_of name w) i d v has h =
      owner_named name w v has.0
      (in_rest (pkg name (class_of w)) v (of_dependencies q (version_of name w) ++ flat_map (λ row.
      of_feature q name w (owner_brings q (version_of name w)) row.0) (table_of_owner q (version_of name w)))
      (Contains-append_left (of_dependencies q (version_of name w)) (flat_map (λ row. of_feature q name w
      (owner_brings q (version_of name w)) row.0) (table_of_owner q (version_of name w))) v
      (to_all (of_dependency q (version_of name w)) (owner_brings q (version_of name w)).dependencies i d v has.1 h)))

  feature_named : (name : List ℕ) (w : Parts) (f : List ℕ) (es : List Entry) (v : Vertex)
      → IsOwner q (version_of name w) → entries_at f (table_of_owner q (version_of name w)) ≡ Some es
      → Contains (of_feature q name w (owner_brings q (version_of name w)) f) v → Contains (named q) v
  feature_named name w f es v own at h =
      let table = table_of_owner q (version_of name w) in
      let row = row_of q table f es at in
      owner_named name w v own
      (in_rest (pkg name (class_of w)) v (of_dependencies q (version_of name w)
      ++ flat_map (λ row. of_feature q name w (owner_brings q (version_of name w)) row.0) table)
      (Contains-append_right (of_dependencies q (version_of name w))
      (flat_map (λ row. of_feature q name w (owner_brings q (version_of name w)) row.0) table) v
      (to_flat (λ (row : List ℕ × List Entry).
      of_feature q name w (owner_brings q (version_of name w)) row.0) table row.0 v row.1
      (subst (λ g. Contains (of_feature q name w (owner_brings q (version_of name w)) g) v) row.2 h))))

  entry_named : (name : List ℕ) (w : Parts) (f : List ℕ) (e : Entry) (v : Vertex) → HasEntry q name w f e
      → Contains (of_entry q name w (owner_brings q (version_of name w)).dependencies e) v → Contains (named q) v
  entry_named name w f e v has h =
      feature_named name w f has.1 v has.0 has.2
      (Contains-append_right (feature_of q name f)
      (flat_map (of_entry q name w (owner_brings q (version_of name w)).dependencies) (entries_of q name w f)) v
      (to_flat (of_entry q name w (owner_brings q (version_of name w)).dependencies) (entries_of q name w f) e v
      (to_entry q name w f e has) h))

  -- what is asked of a dependency by its name
  called_named : (o : Owner) (i : ℕ) (d : Dependency) (g : List ℕ) (v : Vertex) → HasDep q o i d
      → Contains (feature_of q d.real_name g) v → Contains (asked_of q (owner_brings q o).dependencies d.name g) v
  called_named o i d g v has h =
      let ds = (owner_brings q o).dependencies in
      to_flat (asked_if q d.name g) ds d v (got_in ds i d has.1)
      (to_if (same_text d.name d.name) v (feature_of q d.real_name g) (text-refl d.name) h)

  pair_named : (name : List ℕ) (w : Parts) (f g : List ℕ) (i : ℕ) (d : Dependency) (v : Vertex)
      → HasEntry q name w f (dependency_feature d.name g) ⊎ HasEntry q name w f (weak_feature d.name g)
      → HasDep q (version_of name w) i d → Contains (feature_of q d.real_name g) v → Contains (named q) v
  pair_named name w f g i d v (inl has) at h =
      let ds = (owner_brings q (version_of name w)).dependencies in
      let e = dependency_feature d.name g in
      entry_named name w f e v has (Contains-append_right (asks_of name w ds e) (asked_for q ds e) v
      (called_named (version_of name w) i d g v at h))
  pair_named name w f g i d v (inr has) at h =
      let ds = (owner_brings q (version_of name w)).dependencies in
      let e = weak_feature d.name g in
      entry_named name w f e v has (Contains-append_right (asks_of name w ds e) (asked_for q ds e) v
      (called_named (version_of name w) i d g v at h))

  asked_named : (o : Owner) (i : ℕ) (d : Dependency) (g : List ℕ) (v : Vertex) → HasDep q o i d
      → Contains (asked_of_target d) g ⊎ RootAsks q o d g → Contains (feature_of q d.real_name g) v
      → Contains (named q) v
  asked_named o i d g v has (inl c) h =
      dependency_named o i d v has (in_rest (dep o i) v (flat_map (feature_of q d.real_name) (asked_of_target d))
      (to_flat (feature_of q d.real_name) (asked_of_target d) g v c h))
  asked_named the_root i d g v has (inr c) h =
      Contains-append_left (of_root q) (flat_map (of_name q) (map (λ row. row.0) q.candidates)) v
      (in_rest root v (of_dependencies q the_root ++ flat_map root_asked q.root_asks)
      (Contains-append_right (of_dependencies q the_root) (flat_map root_asked q.root_asks) v
      (to_flat root_asked q.root_asks (d.name, g) v c (called_named the_root i d g v has h))))
  asked_named (version_of name w) i d g v has (inr c) h = absurd c

  in_class_of : (name : List ℕ) (k : Class) (e : Candidate) → Contains (class_candidates q name k) e
      → Contains (candidates_of q.candidates name) e × (k ≡ class_of e.version)
  in_class_of name k e i = let r =
      in_filter (in_that_class k) (candidates_of q.candidates name) e i in (r.0, class-same k (class_of e.version) r.1)

  module _ (known : IsCatalogue q) where
    itself : (name : List ℕ) (c : Candidate) → Contains (candidates_of q.candidates name) c
        → owner_brings q (version_of name c.version) ≡ c.brings
    itself name c i = ap brings_of
        (found_itself (candidates_of q.candidates name) c (of_rows q.candidates known.versions_rise name) i)

    feature_there : (name : List ℕ) (k : Class) (f : List ℕ) (v : Vertex) → HasFeatVertex q name k f
        → Contains (feature_of q name f) v → Contains (named q) v
    feature_there name k f v (had _ _ _ c e i j h) there =
        let own : IsOwner q (version_of name c.version) = (c, i, refl) in
        let r = feature_row (table_of_owner q (version_of name c.version)) f
        (ap (λ (s : Summary). has_feature s.features f) (itself name c i) ∙ h) in
        feature_named name c.version f r.0 v own r.1
        (Contains-append_left (feature_of q name f) (flat_map (of_entry q name c.version
        (owner_brings q (version_of name c.version)).dependencies) (entries_of q name c.version f)) v there)
    feature_there name k f v (asked o i d _ _ e has j a) there = asked_named o i d f v has a there
    feature_there name k f v (by_entry n w i d _ g _ e has j a) there = pair_named n w g f i d v a has there

    class_there : (name : List ℕ) (k : Class) (f : List ℕ) → HasFeatVertex q name k f
        → (e : Candidate) × Contains (class_candidates q name k) e
    class_there name k f (had _ _ _ c e i j h) = (e, j)
    class_there name k f (asked o i d _ _ e has j a) = (e, j)
    class_there name k f (by_entry n w i d _ g _ e has j a) = (e, j)

    -- a feature comes in each class of its name
    in_its_class : (name : List ℕ) (k : Class) (f : List ℕ) (e : Candidate) → Contains (class_candidates q name k) e
        → Contains (feature_of q name f) (feat name k f)
    in_its_class name k f e c =
        let r = in_class_of name k e c in
        subst (λ m. Contains (feature_of q name f) (feat name m f)) (sym r.1)
        (to_map (λ v. feat name (class_of v) f) (versions_of q name) e.version
        (to_map (λ (c : Candidate). c.version) (candidates_of q.candidates name) e r.0))

    pub all_named : (v : Vertex) → IsVertex q v → Contains (named q) v
    all_named root is = in_first root _
    all_named (pkg name k) (c, i) =
        let r = in_class_of name k c i in
        owner_named name c.version (pkg name k) (c, r.0, refl)
        (subst (λ m. Contains (of_version q name c.version) (pkg name m)) (sym r.1)
        (in_first (pkg name (class_of c.version)) _))
    all_named (dep o i) (d, has) = dependency_named o i d (dep o i) has (in_first (dep o i) _)
    all_named (ask name w i g) (d, f, has, entry) =
        let ds = (owner_brings q (version_of name w)).dependencies in
        let e = dependency_feature d.name g in
        entry_named name w f e (ask name w i g) entry
        (Contains-append_left (asks_of name w ds e) (asked_for q ds e) (ask name w i g)
        (to_all (ask_if name w d.name g) ds i d (ask name w i g) has.1
        (to_if (same_text d.name d.name) (ask name w i g) (ask name w i g ∷ []) (text-refl d.name)
        (in_first (ask name w i g) []))))
    all_named (feat name k f) is =
        let e = class_there name k f is in
        feature_there name k f (feat name k f) is (in_its_class name k f e.0 e.1)
