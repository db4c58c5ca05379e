-- The states of a vertex that follow absent, by number.
use Rattle.std.proofs.Common.{◌≡◌, ◌≤◌, ◌+◌, ℕ, zero, suc, ◌-◌, List, ◌∷◌, map, filter, length, Bor, Option, Some, None}
use Rattle.std.proofs.Common.{slice_get, refl, sym, ap, ◌∙◌, arith}
use Rattle.std.specs.Prelude.{option_map, unwrap_or}
use Rattle.std.specs.Slice.{IsItemAt}
use Rattle.std.proofs.lemmas.Option.{slice_get-map}
use Rattle.std.proofs.lemmas.List.{length-map}
use Rattle.semver.specs.Identifiers.{parts_of}
use Rattle.semver.specs.declared.Version.{Version}
use Rattle.model.specs.Content.{Problem}
use Rattle.model.specs.Selection.{Class}
use Rattle.model.specs.Summary.{Dependency}
use Rattle.model.specs.Vertices.{Owner, State, absent, version, in_class, Vertex, root, pkg, dep, feat, ask, dep_space}
use Rattle.model.specs.Vertices.{owner_brings, space}
use Rattle.manifest.specs.Manifests.{ManifestView}
use Rattle.catalogue.proofs.Rows.{item_at}
use Rattle.catalogue.specs.Problems.{problem_in}
use Rattle.catalogue.specs.Stores.{CatalogueView, candidates_at}
use Rattle.classes.specs.Classes.{class_view}
use Rattle.classes.specs.declared.class.Class as code
use Rattle.model.specs.Causes.{dependency_at}
use Rattle.model.specs.inner.Listed.{classes_at, classes_if}
use Rattle.numbering.specs.inner.Assignments.{state_at}
use Rattle.lookups.specs.inner.Ranges.{is_of}
use Rattle.numbering.proofs.Tested.{map_map, states_here}

state_after : (xs : List State) (n : ℕ) → (n ≡ 0 → ⊥) → slice_get (absent ∷ xs) n ≡ slice_get xs (n - 1)
state_after xs zero after = absurd (after refl)
state_after xs (suc n) after = let e : n ≡ suc n - 1 = omega arith in ap (slice_get xs) e

pub version_there : (vs : List Version) (n : ℕ) (r : Option (Bor Version)) → (n ≡ 0 → ⊥) → IsItemAt vs (n - 1) r
    → unwrap_or (option_map (λ (b : Bor Version). version (parts_of b.now)) r) absent
    ≡ unwrap_or (slice_get (absent ∷ map (λ v. version (parts_of v)) vs) n) absent
version_there vs n r after at = ap (λ s. unwrap_or s absent)
    (item_at (λ (v : Version). version (parts_of v)) vs (n - 1) r at ∙ sym (slice_get-map (λ v. version (parts_of v)) vs
    (n - 1)) ∙ sym (state_after (map (λ v. version (parts_of v)) vs) n after))

pub class_there : (ks : List code.Class) (n : ℕ) (r : Option (Bor code.Class)) → (n ≡ 0 → ⊥) → IsItemAt ks (n - 1) r
    → unwrap_or (option_map (λ (b : Bor code.Class). in_class (class_view b.now)) r) absent
    ≡ unwrap_or (slice_get (absent ∷ map (λ k. in_class (class_view k)) ks) n) absent
class_there ks n r after at = ap (λ s. unwrap_or s absent)
    (item_at (λ (k : code.Class). in_class (class_view k)) ks (n - 1) r at ∙ sym (slice_get-map (λ k.
    in_class (class_view k)) ks (n - 1)) ∙ sym (state_after (map (λ k. in_class (class_view k)) ks) n after))

-- ---- the whole spaces

pub versions_space : (m : ManifestView) (c : CatalogueView) (name : List ℕ) (k : Class) (vs : List Version) (n : ℕ)
    → map parts_of vs ≡ filter (is_of k) (map (λ r. r.version) (candidates_at c name))
    → unwrap_or (slice_get (absent ∷ map (λ v. version (parts_of v)) vs) n) absent
    ≡ state_at (problem_in m c) (pkg name k) n
versions_space m c name k vs n is = ap (λ ss. unwrap_or (slice_get (absent ∷ ss) n) absent)
    (sym (map_map version parts_of vs) ∙ sym (states_here m c name k vs is))

pub classes_space : (q : Problem) (o : Owner) (i : ℕ) → absent ∷ map in_class (classes_at q o i) ≡ space q (dep o i)
classes_space q o i = by (dependency_at q o i)
  where
    by : (d : Option Dependency) → absent ∷ map in_class (classes_if q d) ≡ dep_space q d
    by None = refl
    by (Some d) = refl

pub classes_are_states : (q : Problem) (o : Owner) (i : ℕ) (ks : List code.Class) (n : ℕ)
    → map class_view ks ≡ classes_at q o i
    → unwrap_or (slice_get (absent ∷ map (λ k. in_class (class_view k)) ks) n) absent ≡ state_at q (dep o i) n
classes_are_states q o i ks n are =
    ap (λ ss. unwrap_or (slice_get (absent ∷ ss) n) absent)
    (sym (map_map in_class class_view ks) ∙ ap (map in_class) are)
    ∙ ap (λ ss. unwrap_or (slice_get ss n) absent) (classes_space q o i)

-- ---- how many states there are

pub versions_counted : (m : ManifestView) (c : CatalogueView) (name : List ℕ) (k : Class) (vs : List Version)
    → map parts_of vs ≡ filter (is_of k) (map (λ r. r.version) (candidates_at c name))
    → length vs + 1 ≡ length (space (problem_in m c) (pkg name k))
versions_counted m c name k vs is =
    let one : length vs + 1 ≡ suc (length vs) = omega arith in
    one ∙ ap suc (sym (length-map (map parts_of vs) version ∙ length-map vs parts_of))
    ∙ ap (λ (ss : List State). suc (length ss)) (sym (states_here m c name k vs is))

pub classes_long : (q : Problem) (o : Owner) (i : ℕ) → length (classes_at q o i) + 1 ≡ length (space q (dep o i))
classes_long q o i =
    let one : length (classes_at q o i) + 1 ≡ suc (length (classes_at q o i)) = omega arith in
    one ∙ ap suc (sym (length-map (classes_at q o i) in_class))
    ∙ ap (λ (ss : List State). length ss) (classes_space q o i)

-- every space has absent
pub some_states : (q : Problem) (v : Vertex) → 1 ≤ length (space q v)
some_states q root = omega arith
some_states q (pkg name k) = omega arith
some_states q (dep o i) = by (slice_get (owner_brings q o).dependencies i)
  where
    by : (d : Option Dependency) → 1 ≤ length (dep_space q d)
    by None = omega arith
    by (Some d) = omega arith
some_states q (feat name k f) = omega arith
some_states q (ask name v i g) = omega arith
