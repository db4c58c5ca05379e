-- The vertices of a problem of valid parts are valid.
use Rattle.std.proofs.Common.{◌≡◌, ℕ, zero, suc, ◌<◌, List, [], ◌∷◌, ◌++◌, length, Bool, true, false, cond, Contains}
use Rattle.std.proofs.Common.{Option, Some, None, slice_get, is_some, codes, refl, sym, subst, arith, inl, inr}
use Rattle.std.specs.List.{All}
use Rattle.std.proofs.lemmas.List.Elements.{All-contains}
use Rattle.semver.specs.Grammar.{IsValid}
use Rattle.semver.specs.Parse.{Parts}
use Rattle.model.specs.Axioms.{IsOwner, HasDep, HasEntry, HasFeatVertex, had, asked, by_entry, IsVertex, RootAsks}
use Rattle.model.specs.Content.{Problem, Candidate, candidates_of, candidate_at, brings_of}
use Rattle.model.specs.Summary.{Dependency, Entry, dependency_feature, weak_feature, Table, entries_at, has_feature}
use Rattle.model.specs.Summary.{asked_of_target, same_text}
use Rattle.model.specs.Selection.{Class, class_of}
use Rattle.model.specs.Vertices.{Owner, the_root, version_of, Vertex, root, pkg, dep, feat, ask, owner_brings}
use Rattle.model.specs.Vertices.{in_that_class, class_candidates}
use Rattle.model.proofs.Lists.{in_none, in_cons, in_filter, all_first, all_rest, all_get, all_none}
use Rattle.model.proofs.Owners.{candidate_at-is}
use Rattle.model.proofs.Same.{class-same, text-same}
use Rattle.features.specs.inner.Valid.{IsPackageName, IsFeatureName, IsValidEntry, IsValidRow, IsValidDependency}
use Rattle.features.specs.inner.Valid.{BringsValid}
use Rattle.vertices.specs.inner.Valid.{IsValidClass, IsIndex, IsValidOwner, IsValidVertex, IsValidRecord, HasValidParts}
use Rattle.vertices.proofs.Numbers.{class-of-valid}

-- ---- lists

below : {X : Type 0} (xs : List X) (i : ℕ) (x : X) → slice_get xs i ≡ Some x → i < length xs
below [] zero x h = cc
below [] (suc i) x h = cc
below (y ∷ xs) zero x h = omega arith
below (y ∷ xs) (suc i) x h = let lt = below xs i x h in omega arith

abbrev Rows : Type 0
Rows = List (List ℕ × List Candidate)

abbrev IsRow : List ℕ × List Candidate → Type 0
IsRow row = IsPackageName row.0 × All IsValidRecord row.1

at-name : (rows : Rows) (name : List ℕ) (c : Candidate) → All IsRow rows → Contains (candidates_of rows name) c
    → IsPackageName name × IsValidRecord c
at-name [] name c h i = absurd (in_none c i)
at-name (row ∷ rows) name c h i =
    by (λ i. at-name rows name c (all_rest IsRow row rows h) i) (same_text name row.0) refl i
  where
    by : (Contains (candidates_of rows name) c → IsPackageName name × IsValidRecord c) → (b : Bool)
        → same_text name row.0 ≡ b → Contains (cond b row.1 (candidates_of rows name)) c
        → IsPackageName name × IsValidRecord c
    by rest true is i =
        let first = all_first IsRow row rows h in (
          subst (λ n. IsPackageName n) (sym (text-same name row.0 is)) first.0,
          All-contains IsValidRecord row.1 c first.1 i,
        )
    by rest false is i = rest i

-- ---- feature tables

row-of : (f : List ℕ) (table : Table) (es : List Entry) → All IsValidRow table → entries_at f table ≡ Some es
    → IsFeatureName f × All IsValidEntry es
row-of f [] es h e = cc
row-of f (row ∷ rows) es h e = by (λ e. row-of f rows es (all_rest IsValidRow row rows h) e) (same_text f row.0) refl e
  where
    inside : (xs ys : List Entry) → Some xs ≡ Some ys → xs ≡ ys
    inside xs ys h = cc

    by : (entries_at f rows ≡ Some es → IsFeatureName f × All IsValidEntry es) → (b : Bool) → same_text f row.0 ≡ b
        → cond b (Some row.1) (entries_at f rows) ≡ Some es → IsFeatureName f × All IsValidEntry es
    by rest true is e =
        let first = all_first IsValidRow row rows h in (
          subst (λ n. IsFeatureName n) (sym (text-same f row.0 is)) first.0,
          subst (λ x. All IsValidEntry x) (inside row.1 es e) first.1,
        )
    by rest false is e = rest e

known : (f : List ℕ) (table : Table) → All IsValidRow table → has_feature table f ≡ true → IsFeatureName f
known f table h has = by (entries_at f table) refl has
  where
    by : (o : Option (List Entry)) → entries_at f table ≡ o → is_some o ≡ true → IsFeatureName f
    by None e k = cc
    by (Some es) e k = (row-of f table es h e).0

in-both : (xs : List (List ℕ)) (f : List ℕ) → All IsFeatureName xs
    → Contains (xs ++ codes "default" ∷ []) f → IsFeatureName f
in-both [] f h i = elim
    (in_cons (codes "default") f [] i) [ inl e ↦ subst (λ n. IsFeatureName n) e refl | inr n ↦ absurd (in_none f n) ]
in-both (x ∷ xs) f h i = elim (in_cons x f (xs ++ codes "default" ∷ []) i) [
  | inl e ↦ subst (λ n. IsFeatureName n) e (all_first IsFeatureName x xs h)
  | inr r ↦ in-both xs f (all_rest IsFeatureName x xs h) r
]

listed : (d : Dependency) (f : List ℕ) → IsValidDependency d → Contains (asked_of_target d) f → IsFeatureName f
listed d f h i = by d.default_features i
  where
    by : (b : Bool) → Contains (cond b (d.features ++ codes "default" ∷ []) d.features) f → IsFeatureName f
    by true i = in-both d.features f h i
    by false i = All-contains IsFeatureName d.features f h i

module _ (q : Problem) (valid : HasValidParts q) where
  pub found : (name : List ℕ) (c : Candidate) → Contains (candidates_of q.candidates name) c
      → IsPackageName name × IsValidRecord c
  found name c i = at-name q.candidates name c valid.candidates i

  in-class : (name : List ℕ) (k : Class) (c : Candidate) → Contains (class_candidates q name k) c
      → IsPackageName name × IsValidClass k
  in-class name k c i =
      let f = in_filter (in_that_class k) (candidates_of q.candidates name) c i in
      let r = found name c f.0 in (
        r.0,
        subst (λ x. IsValidClass x) (sym (class-same k (class_of c.version) f.1))
            (class-of-valid c.version (r.1).version),
      )

  is-owner : (o : Owner) → IsOwner q o → IsValidOwner o
  is-owner the_root h = tt
  is-owner (version_of name v) h = let r = found name h.0 h.1 in (r.0, subst (λ w. IsValid w) h.2 (r.1).version)

  brought : (o : Owner) → BringsValid (owner_brings q o)
  brought the_root = valid.brings
  brought (version_of name v) = by (candidate_at (candidates_of q.candidates name) v) refl
    where
      by : (c : Option Candidate) → candidate_at (candidates_of q.candidates name) v ≡ c → BringsValid (brings_of c)
      by None e =
          record { few = omega arith; dependencies = all_none IsValidDependency; features = all_none IsValidRow }
      by (Some c) e = (found name c (candidate_at-is (candidates_of q.candidates name) v c e).0).1.brings

  has-dep : (o : Owner) (i : ℕ) (d : Dependency) → HasDep q o i d → IsIndex i × IsValidDependency d
  has-dep o i d h =
      let b = brought o in
      let lt = below (owner_brings q o).dependencies i d h.1 in
      let few = b.few in
      (omega arith, all_get IsValidDependency (owner_brings q o).dependencies i d b.dependencies h.1)

  entry : (name : List ℕ) (v : Parts) (f : List ℕ) (e : Entry) → HasEntry q name v f e → IsValidEntry e
  entry name v f e h = All-contains IsValidEntry h.1 e
      (row-of f (owner_brings q (version_of name v)).features h.1 (brought (version_of name v)).features h.2).1 h.3

  root-asks : (o : Owner) (d : Dependency) (f : List ℕ) → RootAsks q o d f → IsFeatureName f
  root-asks the_root d f i =
      All-contains (λ (p : List ℕ × List ℕ). IsFeatureName p.1) q.root_asks (d.name, f) valid.root_asks i
  root-asks (version_of name v) d f i = absurd i

  has-feat : (name : List ℕ) (k : Class) (f : List ℕ) → HasFeatVertex q name k f → IsValidVertex (feat name k f)
  has-feat n k f (had name _ _ c e i j h) =
      let r = in-class n k e j in (r.0, r.1, known f c.brings.features ((found n c i).1.brings).features h)
  has-feat n k f (asked o i d _ _ e h j a) =
      let r = in-class n k e j in
      (r.0, r.1, elim a [ inl l ↦ listed d f (has-dep o i d h).1 l | inr l ↦ root-asks o d f l ])
  has-feat n k g (by_entry name v i d _ f _ e h j a) =
      let r = in-class n k e j in (
        r.0,
        r.1,
        elim a [
          | inl l ↦ entry name v f
              (dependency_feature d.name g) l
          | inr l ↦ entry name v f (weak_feature d.name g) l
        ],
      )

  pub in-problem : (v : Vertex) → IsVertex q v → IsValidVertex v
  in-problem root h = tt
  in-problem (pkg name k) h = in-class name k h.0 h.1
  in-problem (dep o i) h = (is-owner o h.1.0, (has-dep o i h.0 h.1).0)
  in-problem (feat name k f) h = has-feat name k f h
  in-problem (ask name v i g) h =
      let o = is-owner (version_of name v) h.2.0 in
      (o.0, o.1, (has-dep (version_of name v) i h.0 h.2).0, entry name v h.1 (dependency_feature h.0.name g) h.3)
