-- Vertices as they are put one after another.
use Rattle.std.proofs.Common.{◌≡◌, List, [], ◌∷◌, ◌++◌, map, Bool, true, false, cond, Option, Some, None, refl, sym}
use Rattle.std.proofs.Common.{ap, ap₂, ◌∙◌, ℕ}
use Rattle.std.specs.Prelude.{codes, unwrap_or}
use Rattle.std.specs.List.{flat_map}
use Rattle.std.proofs.lemmas.List.{append_assoc, append-nil}
use Rattle.std.proofs.lemmas.List.Concat.{flat_map-append}
use Rattle.semver.specs.Identifiers.{parts_of}
use Rattle.semver.specs.declared.Version.{Version}
use Rattle.model.specs.Candidates.{Record, as_candidate}
use Rattle.model.specs.Content.{Candidate, Problem}
use Rattle.model.specs.Summary.{Dependency, Entry, Table, asked_of_target, dependency, dependency_feature, feature}
use Rattle.model.specs.Summary.{weak_feature}
use Rattle.model.specs.Vertices.{Vertex}
use Rattle.manifest.specs.Manifests.{ManifestView, asked_by, root_asks}
use Rattle.catalogue.specs.Problems.{problem_in}
use Rattle.catalogue.specs.Stores.{records, CatalogueView, Row, candidates_at}
use Rattle.model.specs.Causes.{entries_or_none}
use Rattle.catalogue.proofs.Lookups.{candidates_are}
use Rattle.encoding.specs.inner.Everything.{asked_for, asked_of, versions, versions_of}

-- one more of a list
pub rest_more : {X : Type 0} (f : X → List Vertex) (vs new all : List Vertex) (x : X) (xs : List X)
    → vs ++ flat_map f (x ∷ xs) ≡ all → new ≡ vs ++ f x → new ++ flat_map f xs ≡ all
rest_more f vs new all x xs told step = ap (λ l. l ++ flat_map f xs) step ∙ append_assoc vs (f x) (flat_map f xs) ∙ told

-- what the entries of the root ask for
module _ (q : Problem) (ds : List Dependency) where
  entry_asks : (e : Entry) → asked_for q ds e ≡ flat_map (λ p. asked_of q ds p.0 p.1) (asked_by e)
  entry_asks (feature g) = refl
  entry_asks (dependency x) = refl
  entry_asks (dependency_feature x g) = sym (append-nil (asked_of q ds x g))
  entry_asks (weak_feature x g) = sym (append-nil (asked_of q ds x g))

  row_asks : (es : List Entry)
      → flat_map (asked_for q ds) es ≡ flat_map (λ p. asked_of q ds p.0 p.1) (flat_map asked_by es)
  row_asks [] = refl
  row_asks (e ∷ es) = ap₂ (λ a b. a ++ b) (entry_asks e) (row_asks es)
      ∙ sym (flat_map-append (λ p. asked_of q ds p.0 p.1) (asked_by e) (flat_map asked_by es))

  pub rows_ask : (rows : Table)
      → flat_map (λ row. flat_map (asked_for q ds) row.1) rows ≡ flat_map (λ p. asked_of q ds p.0 p.1) (root_asks rows)
  rows_ask [] = refl
  rows_ask (row ∷ rows) = ap₂ (λ a b. a ++ b) (row_asks row.1) (rows_ask rows)
      ∙ sym (flat_map-append (λ p. asked_of q ds p.0 p.1) (flat_map asked_by row.1) (root_asks rows))

-- the features of a dependency's own list, and `default`
pub own_list : (f : List ℕ → List Vertex) (d : Dependency)
    → flat_map f d.features ++ cond d.default_features (f (codes "default")) [] ≡ flat_map f (asked_of_target d)
own_list f d = by d.default_features
  where
    by : (b : Bool) → flat_map f d.features ++ cond b (f (codes "default")) []
        ≡ flat_map f (cond b (d.features ++ codes "default" ∷ []) d.features)
    by true = ap (λ l. flat_map f d.features ++ l) (sym (append-nil (f (codes "default"))))
        ∙ sym (flat_map-append f d.features (codes "default" ∷ []))
    by false = append-nil (flat_map f d.features)

-- ---- the versions of a name

record_versions : (rs : List Record) → map (λ r. r.version) rs ≡ versions (map as_candidate rs)
record_versions [] = refl
record_versions (r ∷ rs) = ap (λ l. r.version ∷ l) (record_versions rs)

pub versions_are : (m : ManifestView) (c : CatalogueView) (name : List ℕ) (vs : List Version) → map parts_of vs
    ≡ map (λ r. r.version) (candidates_at c name) → map parts_of vs ≡ versions_of (problem_in m c) name
versions_are m c name vs e = e ∙ record_versions (candidates_at c name) ∙ ap versions (sym (candidates_are c name))

-- the names that were asked for
pub names_are : (rows : List Row) → map (λ (row : Row). row.0) rows ≡ map (λ (row : List ℕ × List Candidate). row.0)
    (map (λ (row : Row). (row.0, map as_candidate (records row.1))) rows)
names_are [] = refl
names_are (row ∷ rows) = ap (λ l. row.0 ∷ l) (names_are rows)

pub three : {X : Type 0} (a b c d : List X) → ((a ++ b) ++ c) ++ d ≡ a ++ (b ++ (c ++ d))
three a b c d = append_assoc (a ++ b) c d ∙ append_assoc a b (c ++ d)

pub entries_are : (o : Option (List Entry)) → unwrap_or o [] ≡ entries_or_none o
entries_are None = refl
entries_are (Some es) = refl
