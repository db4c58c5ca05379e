-- Which terms are full, by the versions of a name.
use Rattle.std.proofs.Common.{◌≡◌, Bool, true, false, cond, not, ◌&&◌, ◌||◌, List, [], ◌∷◌, map, filter}
use Rattle.std.proofs.Common.{refl, sym, ap, ◌∙◌, true≢false}
use Rattle.std.specs.Prelude.{ℕ}
use Rattle.std.specs.List.{list_any, list_all}
use Rattle.semver.specs.Parse.{Parts}
use Rattle.semver.specs.Identifiers.{parts_of}
use Rattle.semver.specs.EvalViews.{matches_views}
use Rattle.semver.specs.declared.Version.{Version}
use Rattle.model.specs.Summary.{Dependency}
use Rattle.model.specs.Content.{Candidate, candidates_of}
use Rattle.model.specs.Selection.{Class, class_of}
use Rattle.model.specs.Vertices.{pkg, State, version, in_class, has_state}
use Rattle.model.specs.Vertices.{same_class, class_candidates, classes_of, dep_classes}
use Rattle.model.specs.Axioms.{matched}
use Rattle.model.specs.Candidates.{Record, as_candidate}
use Rattle.model.proofs.Same.{class-same}
use Rattle.manifest.specs.Manifests.{ManifestView}
use Rattle.catalogue.specs.Problems.{problem_in}
use Rattle.catalogue.specs.Stores.{CatalogueView, candidates_at, rows_by_name}
use Rattle.axioms.specs.inner.FullTerms.{others, has_if_matched}
use Rattle.lookups.specs.inner.Ranges.{is_of}
use Rattle.catalogue.proofs.Lookups.{candidates_are}
use Rattle.lookups.proofs.Classed.{all_classed}
use Rattle.lookups.proofs.Versions.{all-map}

all-filter : {X : Type 0} (p q : X → Bool) (xs : List X)
    → list_all p (filter q xs) ≡ list_all (λ x. not (q x) || p x) xs
all-filter p q [] = refl
all-filter {X = X} p q (x ∷ xs) = by (q x) (all-filter p q xs)
  where
    by : (b : Bool) → list_all p (filter q xs) ≡ list_all (λ y. not (q y) || p y) xs
        → list_all p (cond b (x ∷ filter q xs) (filter q xs)) ≡ ((not b || p x) && list_all (λ y. not (q y) || p y) xs)
    by true e = ap (λ b. p x && b) e
    by false e = e

all_candidate : (f : Parts → Bool) (vs : List Version) (rs : List Record) → map parts_of vs ≡ map (λ r. r.version) rs
    → list_all (λ v. f (parts_of v)) vs ≡ list_all (λ (c : Candidate). f c.version) (map as_candidate rs)
all_candidate f vs rs e = sym (all-map f parts_of vs) ∙ ap (list_all f) e ∙ all-map f (λ (r : Record). r.version) rs
    ∙ sym (all-map (λ (c : Candidate). f c.version) as_candidate rs)

pub versions_full : (m : ManifestView) (c : CatalogueView) (name : List ℕ) (k : Class) (ss : List State)
    (vs : List Version) → map parts_of vs ≡ filter (is_of k) (map (λ r. r.version) (candidates_at c name))
    → list_all (λ v. has_state ss (version (parts_of v))) vs
    ≡ list_all (has_state ss) (others (problem_in m c) (pkg name k))
versions_full m c name k ss vs e =
    all_classed m c name k vs e (λ v. has_state ss (version v))
    ∙ sym (all-map (has_state ss) (λ (c : Candidate). version c.version) (class_candidates (problem_in m c) name k))

twice : (a b : Bool) → (a && b) ≡ (a && (a && b))
twice true b = refl
twice false b = refl

through : (a b r : Bool) → r ≡ (b && r) → (a && r) ≡ (b && (a && r))
through true b r e = e
through false true r e = refl
through false false r e = refl

among : (p : Class → Bool) (k : Class) (ks : List Class) → list_any (same_class k) ks ≡ true
    → list_all p ks ≡ (p k && list_all p ks)
among p k [] h = absurd (true≢false (sym h))
among p k (x ∷ xs) h = by (λ h. among p k xs h) (same_class k x) refl h
  where
    by : (list_any (same_class k) xs ≡ true → list_all p xs ≡ (p k && list_all p xs)) → (b : Bool) → same_class k x ≡ b
        → (b || list_any (same_class k) xs) ≡ true → (p x && list_all p xs) ≡ (p k && (p x && list_all p xs))
    by rest true e h = twice (p x) (list_all p xs) ∙ ap (λ j. p j && (p x && list_all p xs)) (sym (class-same k x e))
    by rest false e h = through (p x) (p k) (list_all p xs) (rest h)

pub classes_all : (p : Class → Bool) (cs : List Candidate)
    → list_all p (classes_of cs) ≡ list_all (λ c. p (class_of c.version)) cs
classes_all p [] = refl
classes_all p (c ∷ cs) = by (classes_all p cs) (list_any (same_class (class_of c.version)) (classes_of cs)) refl
  where
    by : list_all p (classes_of cs) ≡ list_all (λ c. p (class_of c.version)) cs → (b : Bool)
        → list_any (same_class (class_of c.version)) (classes_of cs) ≡ b
        → list_all p (cond b (classes_of cs) (class_of c.version ∷ classes_of cs))
        ≡ (p (class_of c.version) && list_all (λ c. p (class_of c.version)) cs)
    by rest true e = among p (class_of c.version) (classes_of cs) e ∙ ap (λ b. p (class_of c.version) && b) rest
    by rest false e = ap (λ b. p (class_of c.version) && b) rest

pub classes_full : (m : ManifestView) (c : CatalogueView) (d : Dependency) (ss : List State) (vs : List Version)
    → map parts_of vs ≡ map (λ r. r.version) (candidates_at c d.real_name)
    → list_all (λ v. has_if_matched ss d.requirement (parts_of v)) vs
    ≡ list_all (has_state ss) (map in_class (dep_classes (problem_in m c) d))
unfolding has_if_matched
classes_full m c d ss vs e =
    let f : Parts → Bool = λ v. not (matches_views d.requirement v) || has_state ss (in_class (class_of v)) in
    let cs = candidates_of (rows_by_name c) d.real_name in
    all_candidate f vs (candidates_at c d.real_name) e
    ∙ ap (list_all (λ (c : Candidate). f c.version)) (sym (candidates_are c d.real_name))
    ∙ sym (all-filter (λ (c : Candidate). has_state ss (in_class (class_of c.version))) (matched d) cs)
    ∙ sym (classes_all (λ k. has_state ss (in_class k)) (filter (matched d) cs))
    ∙ sym (all-map (has_state ss) in_class (classes_of (filter (matched d) cs)))
