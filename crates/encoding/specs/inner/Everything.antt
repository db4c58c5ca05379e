-- All vertices of a problem as they are come upon, many of them more than once: the root's, then those of each
-- candidate. A feature comes once for each candidate of its name, in that one's class. Code of this crate makes the list;
-- that of `Everything` in guiding is for proofs alone.
use Rattle.std.specs.Prelude.{ℕ, List, [], ◌∷◌, ◌++◌, if◌then◌else◌, map}
use Rattle.std.specs.List.{flat_map}
use Rattle.semver.specs.Parse.{Parts}
use Rattle.model.specs.Summary.{Summary, Dependency, Entry, feature, dependency, dependency_feature, weak_feature}
use Rattle.model.specs.Summary.{asked_of_target, entries_at, same_text}
use Rattle.model.specs.Content.{Candidate, Problem, candidates_of}
use Rattle.model.specs.Selection.{class_of}
use Rattle.model.specs.Vertices.{Owner, the_root, version_of, Vertex, root, pkg, dep, feat, ask}
use Rattle.model.specs.Vertices.{owner_brings}
use Rattle.model.specs.Causes.{entries_or_none}
use Rattle.numbering.specs.inner.CausesAt.{each_from}

abbrev pub versions : List Candidate → List Parts
versions cs = map (λ c. c.version) cs

-- a feature of a name in the classes of these versions
abbrev pub in_each : List ℕ → List ℕ → List Parts → List Vertex
in_each name f vs = map (λ v. feat name (class_of v) f) vs

-- a version asks a dependency called x for g
abbrev pub ask_if : List ℕ → Parts → List ℕ → List ℕ → ℕ → Dependency → List Vertex
ask_if name v x g i d = if same_text d.name x then ask name v i g ∷ [] else []

-- an entry `d/g` of a version asks each dependency called d
abbrev pub asks_of : List ℕ → Parts → List Dependency → Entry → List Vertex
asks_of name v ds (feature g) = []
asks_of name v ds (dependency x) = []
asks_of name v ds (dependency_feature x g) = each_from (ask_if name v x g) 0 ds
asks_of name v ds (weak_feature x g) = []

module _ (q : Problem) where
  abbrev pub versions_of : List ℕ → List Parts
  versions_of name = versions (candidates_of q.candidates name)

  abbrev pub feature_of : List ℕ → List ℕ → List Vertex
  feature_of name f = in_each name f (versions_of name)

  -- the feature g of a dependency's package, if it is called x
  abbrev pub asked_if : List ℕ → List ℕ → Dependency → List Vertex
  asked_if x g d = if same_text d.name x then feature_of d.real_name g else []

  abbrev pub asked_of : List Dependency → List ℕ → List ℕ → List Vertex
  asked_of ds x g = flat_map (asked_if x g) ds

  -- what an entry asks of the dependencies that it names
  abbrev pub asked_for : List Dependency → Entry → List Vertex
  asked_for ds (feature g) = []
  asked_for ds (dependency x) = []
  asked_for ds (dependency_feature x g) = asked_of ds x g
  asked_for ds (weak_feature x g) = asked_of ds x g

  -- a dependency, and the features that it asks for
  abbrev pub of_dependency : Owner → ℕ → Dependency → List Vertex
  of_dependency o i d = dep o i ∷ flat_map (feature_of d.real_name) (asked_of_target d)

  abbrev pub of_dependencies : Owner → List Vertex
  of_dependencies o = each_from (of_dependency o) 0 (owner_brings q o).dependencies

  -- what an entry asks of the dependencies of a version
  abbrev pub of_entry : List ℕ → Parts → List Dependency → Entry → List Vertex
  of_entry name v ds e = asks_of name v ds e ++ asked_for ds e

  -- a feature of a version that brings this, and what its entries ask for
  abbrev pub of_feature : List ℕ → Parts → Summary → List ℕ → List Vertex
  of_feature name v s f =
      feature_of name f ++ flat_map (of_entry name v s.dependencies) (entries_or_none (entries_at f s.features))

  abbrev pub of_table : List ℕ → Parts → Summary → List Vertex
  of_table name v s = flat_map (λ row. of_feature name v s row.0) s.features

  abbrev pub of_version : List ℕ → Parts → List Vertex
  of_version name v = pkg name (class_of v)
      ∷ (of_dependencies (version_of name v) ++ of_table name v (owner_brings q (version_of name v)))

  abbrev pub of_name : List ℕ → List Vertex
  of_name name = flat_map (of_version name) (versions_of name)

  -- the root asks by all entries of its features
  abbrev pub of_root : List Vertex
  of_root = root ∷ (of_dependencies the_root
      ++ flat_map (λ p. asked_of (owner_brings q the_root).dependencies p.0 p.1) q.root_asks)

  abbrev pub named : List Vertex
  named = of_root ++ flat_map of_name (map (λ row. row.0) q.candidates)
