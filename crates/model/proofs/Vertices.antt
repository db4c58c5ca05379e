-- The terms of an instance speak of vertices that are there.
use Rattle.std.proofs.Common.{◌≡◌, ℕ, List, [], ◌∷◌, Bool, true, false, cond, Contains, Some, is_some, sym, ap, ◌∙◌}
use Rattle.std.proofs.Common.{subst, inl, inr, ◌⊎◌}
use Rattle.std.specs.List.{list_any, All}
use Rattle.semver.specs.Parse.{Parts}
use Rattle.model.specs.Summary.{Summary, Dependency, Entry, asked_of_target, feature, dependency, dependency_feature}
use Rattle.model.specs.Summary.{weak_feature, entries_at, has_feature}
use Rattle.model.specs.Content.{Candidate, Problem, candidates_of, candidate_at, brings_of}
use Rattle.model.specs.Selection.{Class, class_of}
use Rattle.model.specs.Order.{IsCatalogue}
use Rattle.model.specs.Vertices.{Owner, the_root, version_of, pkg, same_class, classes_of, in_that_class}
use Rattle.model.specs.Vertices.{class_candidates, owner_brings, matching}
use Rattle.model.specs.Axioms.{Term, Kind, IsOwner, HasDep, HasClass, HasEntry, HasFeatVertex, RootAsks, IsVertex}
use Rattle.model.specs.Axioms.{owner_holds, IsInstance}
use Rattle.model.specs.Axioms.IsInstance.{root_is, needed, has_target, has_its_feature, wants_by_list, wants_by_entry}
use Rattle.model.specs.Axioms.IsInstance.{feature_on, dependency_on, feature_asks, newest_listed, weakly}
use Rattle.model.specs.Axioms.HasFeatVertex.{had, asked, by_entry}
use Rattle.model.proofs.Same.{class-refl}
use Rattle.model.proofs.Lists.{in_none, in_cons, in_first, in_rest, in_filter, to_filter, all_none, all_cons}
use Rattle.model.proofs.Contents.{feature_known}
use Rattle.model.proofs.Owners.{candidate_at-is, candidate_at-there}

-- a class of some candidates is that of one
pub class_from : (cs : List Candidate) (k : Class) → Contains (classes_of cs) k
    → (c : Candidate) × Contains cs c × (class_of c.version ≡ k)
class_from [] k i = absurd (in_none k i)
class_from (e ∷ cs) k i = by (list_any (same_class (class_of e.version)) (classes_of cs)) i (λ i. class_from cs k i)
  where
    Found : List Candidate → Type 0
    Found cs = (c : Candidate) × Contains cs c × (class_of c.version ≡ k)

    later : (c : Candidate) × Contains cs c × (class_of c.version ≡ k)
        → (c : Candidate) × Contains (e ∷ cs) c × (class_of c.version ≡ k)
    later r = (r.0, in_rest e r.0 cs r.1, r.2)

    by : (b : Bool) → Contains (cond b (classes_of cs) (class_of e.version ∷ classes_of cs)) k
        → (Contains (classes_of cs) k → (c : Candidate) × Contains cs c × (class_of c.version ≡ k))
        → (c : Candidate) × Contains (e ∷ cs) c × (class_of c.version ≡ k)
    by true i rest = later (rest i)
    by false i rest = elim
        (in_cons (class_of e.version) k (classes_of cs) i) [ inl s ↦ (e, in_first e cs, s) | inr i ↦ later (rest i) ]

module _ (q : Problem) where
  -- a candidate of a class
  in_its_class : (name : List ℕ) (k : Class) (c : Candidate) → Contains (candidates_of q.candidates name) c
      → class_of c.version ≡ k → Contains (class_candidates q name k) c
  in_its_class name k c i e = to_filter (in_that_class k) (candidates_of q.candidates name) c i
      (subst (λ x. same_class k x ≡ true) (sym e) (class-refl k))

  -- the class that a dependency may lead to has a candidate
  class_there : (d : Dependency) (k : Class) → HasClass q d k → IsVertex q (pkg d.real_name k)
  class_there d k has =
      let r = class_from (matching q d) k has in
      let f = in_filter _ (candidates_of q.candidates d.real_name) r.0 r.1 in
      (r.0, in_its_class d.real_name k r.0 f.0 r.2)

  owner_there : (name : List ℕ) (v : Parts) → IsOwner q (version_of name v) → IsVertex q (pkg name (class_of v))
  owner_there name v (c, i, e) = (c, in_its_class name (class_of v) c i (ap class_of e))

  -- a feature that the version has
  feature_there : (name : List ℕ) (v : Parts) (c : Candidate) (f : List ℕ)
      → Contains (candidates_of q.candidates name) c → v ≡ c.version → has_feature c.brings.features f ≡ true
      → HasFeatVertex q name (class_of v) f
  feature_there name v c f i e h =
      had name (class_of v) f c c i (in_its_class name (class_of v) c i (ap class_of (sym e))) h

  -- the candidate that a version is
  pub record Found (name : List ℕ) (v : Parts) : Type 0 where
    pub c : Candidate
    pub there : Contains (candidates_of q.candidates name) c
    pub is : v ≡ c.version
    pub brings : owner_brings q (version_of name v) ≡ c.brings

  found : (name : List ℕ) (v : Parts) → IsOwner q (version_of name v) → Found name v
  found name v (c, i, e) =
      let r = candidate_at-there (candidates_of q.candidates name) c i in
      let at_v : candidate_at (candidates_of q.candidates name) v ≡ Some r.0 =
      subst (λ w. candidate_at (candidates_of q.candidates name) w ≡ Some r.0) e r.1 in
      let x = candidate_at-is (candidates_of q.candidates name) v r.0 at_v in
      record { c = r.0; there = x.0; is = x.1; brings = ap brings_of at_v }

  entry_feature : (name : List ℕ) (v : Parts) (f : List ℕ) (e : Entry) → HasEntry q name v f e
      → HasFeatVertex q name (class_of v) f
  entry_feature name v f e has =
      let x = found name v has.0 in
      feature_there name v x.c f x.there x.is
      (ap (λ (o : Summary). has_feature o.features f) (sym x.brings) ∙ ap is_some has.2)

  entry_names : IsCatalogue q → (name : List ℕ) (v : Parts) (f g : List ℕ) → HasEntry q name v f (feature g)
      → HasFeatVertex q name (class_of v) g
  entry_names known name v f g has =
      let x = found name v has.0 in
      let entries : entries_at f (x.c.brings).features ≡ Some has.1 =
      subst (λ (o : Summary). entries_at f o.features ≡ Some has.1) x.brings has.2 in
      feature_there name v x.c g x.there x.is (feature_known q known name x.c x.there f g has.1 entries has.3)

  owner_vertex : (o : Owner) → IsOwner q o → IsVertex q (owner_holds o).vertex
  owner_vertex the_root h = tt
  owner_vertex (version_of name v) h = owner_there name v h

  -- the feature of a class that a dependency asks for
  asked_there : (o : Owner) (i : ℕ) (d : Dependency) (k : Class) (g : List ℕ) → HasDep q o i d → HasClass q d k
      → Contains (asked_of_target d) g ⊎ RootAsks q o d g
      → HasFeatVertex q d.real_name k g
  asked_there o i d k g has class a = let c = class_there d k class in asked o i d k g c.0 has c.1 a

  entry_there : (name : List ℕ) (v : Parts) (i : ℕ) (d : Dependency) (k : Class) (f g : List ℕ)
      → HasDep q (version_of name v) i d → HasClass q d k
      → HasEntry q name v f (dependency_feature d.name g) ⊎ HasEntry q name v f (weak_feature d.name g)
      → HasFeatVertex q d.real_name k g
  entry_there name v i d k f g has class e = let c = class_there d k class in by_entry name v i d k f g c.0 has c.1 e

  -- the class of a feature's vertex has a candidate
  class_of_vertex : (name : List ℕ) (k : Class) (f : List ℕ) → HasFeatVertex q name k f → IsVertex q (pkg name k)
  class_of_vertex name k f (had _ _ _ c e i j h) = (e, j)
  class_of_vertex name k f (asked o i d _ _ e has j a) = (e, j)
  class_of_vertex name k f (by_entry n v i d _ _ _ e has j a) = (e, j)

  abbrev Stands : Term → Type 0
  Stands t = IsVertex q t.vertex

  one : (t : Term) → IsVertex q t.vertex → All Stands (t ∷ [])
  one t h = all_cons Stands t [] h (all_none Stands)

  two : (t u : Term) → IsVertex q t.vertex → IsVertex q u.vertex → All Stands (t ∷ u ∷ [])
  two t u h k = all_cons Stands t (u ∷ []) h (one u k)

  three : (t u w : Term) → IsVertex q t.vertex → IsVertex q u.vertex → IsVertex q w.vertex → All Stands (t ∷ u ∷ w ∷ [])
  three t u w h k l = all_cons Stands t (u ∷ w ∷ []) h (two u w k l)

  four : (t u w x : Term) → IsVertex q t.vertex → IsVertex q u.vertex → IsVertex q w.vertex → IsVertex q x.vertex
      → All Stands (t ∷ u ∷ w ∷ x ∷ [])
  four t u w x h k l m = all_cons Stands t (u ∷ w ∷ x ∷ []) h (three u w x k l m)

  -- the vertex of each term of an instance is there
  pub instance_vertices : IsCatalogue q → (k : Kind) (ts : List Term) → IsInstance q k ts
      → All (λ t. IsVertex q t.vertex) ts
  instance_vertices known k ts root_is = one _ tt
  instance_vertices known k ts (needed o i d has n) = two _ _ (owner_vertex o has.0) (d, has)
  instance_vertices known k ts (has_target o i d m has c) = two _ _ (d, has) (class_there d m c)
  instance_vertices known k ts (has_its_feature name m f v) = two _ _ v (class_of_vertex name m f v)
  instance_vertices known k ts (wants_by_list o i d m g has c a) = two _ _ (d, has) (asked_there o i d m g has c a)
  instance_vertices known k ts (wants_by_entry name v i d m f g has c e) =
      three _ _ _ (d, f, has, e) (d, has) (entry_there name v i d m f g has c (inl e))
  instance_vertices known k ts (feature_on name v f g e n) =
      three _ _ _ (owner_there name v e.0) (entry_feature name v f (feature g) e) (entry_names known name v f g e)
  instance_vertices known k ts (dependency_on name v i d f has e) = three _ _ _ (owner_there name v has.0) (elim e [
    | inl x ↦ entry_feature name v f (dependency d.name) x
    | inr x ↦ entry_feature name v f (dependency_feature d.name x.0) x.1
  ]) (d, has)
  instance_vertices known k ts (feature_asks name v i d f g has e) =
      three _ _ _ (owner_there name v e.0) (entry_feature name v f (dependency_feature d.name g) e) (d, f, has, e)
  instance_vertices known k ts (newest_listed o i j d e m l n has other same c r lower any) =
      three _ _ _ (d, has) (e, other)
      (subst (λ name. IsVertex q (pkg name l)) (sym same) (class_there e l r))
  instance_vertices known k ts (weakly name v i d m f g has c e n) =
      four _ _ _ _ (owner_there name v has.0) (entry_feature name v f (weak_feature d.name g) e)
      (d, has) (entry_there name v i d m f g has c (inr e))
