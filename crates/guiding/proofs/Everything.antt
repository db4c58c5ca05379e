-- Each vertex of a problem is in the list of all, once.
use Rattle.std.proofs.Common.{◌≡◌, ◌≢◌, ℕ, List, [], ◌++◌, map, true, Contains, sym, subst}
use Rattle.std.specs.List.{flat_map, AllPairs}
use Rattle.model.specs.Summary.{Dependency, dependency_feature}
use Rattle.model.specs.Content.{Problem, Candidate, candidates_of}
use Rattle.model.specs.Selection.{Class, class_of}
use Rattle.model.specs.Vertices.{Owner, version_of, Vertex, root, pkg, dep, feat, ask, same_vertex, in_that_class}
use Rattle.model.specs.Vertices.{owner_brings, classes_of, class_candidates}
use Rattle.model.specs.Axioms.{HasDep, IsVertex}
use Rattle.model.proofs.Lists.{in_first, in_rest, in_filter, to_map}
use Rattle.model.proofs.Flat.{to_flat}
use Rattle.model.proofs.Same.{class-same, vertex-same, vertex-refl}
use Rattle.model.proofs.Spaces.{class_in}
use Rattle.model.specs.Causes.{Cause, of_feature, of_asking, dependency_at, has_entry, is_cause, owners}
use Rattle.model.specs.inner.Listed.{causes, numbers_of}
use Rattle.std.proofs.lemmas.List.Elements.{Contains-append_right, Contains-append_left}
use Rattle.model.proofs.Listing.{in_numbers, listed-is, name_there, once_distinct, to_once}
use Rattle.model.proofs.Named.{to_feature, to_has_entry, to_owners, to_passes}
use Rattle.guiding.specs.inner.Everything.{dependency_vertices, named, package_vertices, spoken_by, vertices}

module _ (q : Problem) where
  owned : List Vertex
  owned = flat_map (dependency_vertices q) (owners q)

  packaged : List Vertex
  packaged = flat_map (package_vertices q) q.candidates

  spoken : List Vertex
  spoken = flat_map spoken_by (causes q)

  -- ---- each kind of vertex is named

  of_dep : (o : Owner) (i : ℕ) (d : Dependency) → HasDep q o i d → Contains (named q) (dep o i)
  unfolding owned packaged spoken
  of_dep o i d h =
      in_rest root (dep o i) (owned ++ (packaged ++ spoken)) (Contains-append_left owned (packaged ++ spoken) (dep o i)
      (to_flat (dependency_vertices q) (owners q) o (dep o i) (to_owners q o h.0)
      (to_map (dep o) (numbers_of q o) i (in_numbers (owner_brings q o).dependencies i d h.1))))

  of_package : (name : List ℕ) (k : Class) (c : Candidate) → Contains (class_candidates q name k) c
      → Contains (named q) (pkg name k)
  unfolding owned packaged spoken
  of_package name k c h =
      let x = in_filter (in_that_class k) (candidates_of q.candidates name) c h in
      let r = name_there q.candidates name c x.0 in
      let k_in : Contains (classes_of (candidates_of q.candidates name)) k =
      subst (Contains (classes_of (candidates_of q.candidates name))) (sym (class-same k (class_of c.version) x.1))
      (class_in (candidates_of q.candidates name) c x.0) in
      in_rest root (pkg name k) (owned ++ (packaged ++ spoken))
      (Contains-append_right owned (packaged ++ spoken) (pkg name k) (Contains-append_left packaged spoken (pkg name k)
      (to_flat (package_vertices q) q.candidates r.0 (pkg name k) r.1
      (subst (λ n. Contains (map (pkg n) (classes_of (candidates_of q.candidates n))) (pkg name k)) r.2
      (to_map (pkg name) (classes_of (candidates_of q.candidates name)) k k_in)))))

  of_cause : (c : Cause) (v : Vertex) → is_cause q c ≡ true → Contains (spoken_by c) v → Contains (named q) v
  unfolding owned packaged spoken
  of_cause c v t i = in_rest root v (owned ++ (packaged ++ spoken))
      (Contains-append_right owned (packaged ++ spoken) v (Contains-append_right packaged spoken v
      (to_flat spoken_by (causes q) c v ((listed-is q c).1 t) i)))

  is_named : (v : Vertex) → IsVertex q v → Contains (named q) v
  unfolding owned packaged spoken
  is_named root h = in_first root (owned ++ (packaged ++ spoken))
  is_named (pkg name k) h = of_package name k h.0 h.1
  is_named (dep o i) h = of_dep o i h.0 h.1
  is_named (feat name k f) h =
      of_cause (of_feature name k f) (feat name k f) (to_feature q name k f h) (in_first (feat name k f) [])
  is_named (ask name v i g) h =
      let d = h.0 in let f = h.1 in
      of_cause (of_asking name v f g i) (ask name v i g)
      (to_passes (λ d. has_entry q name v f (dependency_feature d.name g)) (dependency_at q (version_of name v) i) d
      ((h.2).1) (to_has_entry q name v f (dependency_feature d.name g) h.3))
      (in_first (ask name v i g) [])

  pub all_listed : (v : Vertex) → IsVertex q v → Contains (vertices q) v
  all_listed v h = to_once same_vertex vertex-same (named q) v (is_named v h)

  pub listed_apart : AllPairs (λ v w. v ≢ w) (vertices q)
  listed_apart = once_distinct same_vertex vertex-same vertex-refl (named q)
