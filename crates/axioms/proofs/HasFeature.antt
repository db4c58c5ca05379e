-- The versions of a class that lack a feature are those of its candidates that do.
use Rattle.std.proofs.Common.{◌≡◌, Bool, true, false, cond, not, List, [], ◌∷◌, map, filter, Some, refl, sym, ap, ◌∙◌}
use Rattle.std.proofs.Common.{subst}
use Rattle.std.specs.Prelude.{ℕ}
use Rattle.std.specs.List.{AllByRecursion}
use Rattle.std.specs.List.Sorted.{IsStrictlySortedBy}
use Rattle.std.specs.declared.cmp.Ordering.TheVariants.{Less, Equal}
use Rattle.std.proofs.lemmas.Cmp.{tied_itself}
use Rattle.semver.specs.Identifiers.{parts_of}
use Rattle.semver.specs.Parse.{Parts}
use Rattle.semver.specs.declared.Version.{Version}
use Rattle.model.specs.Axioms.{versions_that}
use Rattle.model.specs.Content.{Candidate, brings_of, candidate_at, candidates_of, same_version}
use Rattle.model.specs.Order.{version_cmp}
use Rattle.model.specs.Summary.{Summary, has_feature}
use Rattle.model.specs.Selection.{Class}
use Rattle.model.specs.Vertices.{class_candidates, in_that_class, version}
use Rattle.model.proofs.Same.{version-same, version-refl}
use Rattle.manifest.specs.Manifests.{ManifestView}
use Rattle.vertices.proofs.OrderLaws.{state_total}
use Rattle.catalogue.specs.Problems.{problem_in}
use Rattle.catalogue.specs.Stores.{CatalogueView, candidates_at, rows_by_name}
use Rattle.lookups.specs.inner.Matching.{is_lacking}
use Rattle.lookups.specs.inner.Ranges.{AreRising, is_of, versions_with}
use Rattle.catalogue.proofs.Lookups.{candidates_are}
use Rattle.lookups.proofs.Classed.{with_classed, records_named}
use Rattle.lookups.proofs.Pieces.{parts_filtered}
use Rattle.axioms.proofs.Rising.{rising_parts}

apart : (v w : Parts) → version_cmp v w ≡ Less → same_version w v ≡ false
apart v w h = by (same_version w v) refl
  where
    by : (b : Bool) → same_version w v ≡ b → b ≡ false
    by false e = refl
    by true e = let k : Less ≡ Equal =
        sym h ∙ ap (λ x. version_cmp x w) (sym (version-same w v e)) ∙ tied_itself state_total (version w) in cc

-- a candidate is found by its version
found_itself : (cs : List Candidate) → IsStrictlySortedBy version_cmp (map (λ (e : Candidate). e.version) cs)
    → AllByRecursion (λ (e : Candidate). candidate_at cs e.version ≡ Some e) cs
unfolding IsStrictlySortedBy
found_itself [] h = tt
found_itself (c ∷ cs) h =
    (ap (λ b. cond b (Some c) (candidate_at cs c.version)) (version-refl c.version), later cs h.0 (found_itself cs h.1))
  where
    later : (es : List Candidate)
        → AllByRecursion (λ v. version_cmp c.version v ≡ Less) (map (λ (e : Candidate). e.version) es)
        → AllByRecursion (λ (e : Candidate). candidate_at cs e.version ≡ Some e) es
        → AllByRecursion (λ (e : Candidate). candidate_at (c ∷ cs) e.version ≡ Some e) es
    later [] a f = tt
    later (e ∷ es) a f =
        (ap (λ b. cond b (Some c) (candidate_at cs e.version)) (apart c.version e.version a.0) ∙ f.0, later es a.1 f.1)

kept_too : {X : Type 0} (P : X → Type 0) (t : X → Bool) (xs : List X) → AllByRecursion P xs
    → AllByRecursion P (filter t xs)
kept_too P t [] h = tt
kept_too P t (x ∷ xs) h = by (t x) (kept_too P t xs h.1)
  where
    by : (b : Bool) → AllByRecursion P (filter t xs) → AllByRecursion P (cond b (x ∷ filter t xs) (filter t xs))
    by true rest = (h.0, rest)
    by false rest = rest

-- what a candidate brings is what is found by its version
brings_same : (t : Summary → Bool) (all cs : List Candidate)
    → AllByRecursion (λ (e : Candidate). candidate_at all e.version ≡ Some e) cs
    → filter (λ (e : Candidate). t (brings_of (candidate_at all e.version))) cs
    ≡ filter (λ (e : Candidate). t e.brings) cs
brings_same t all [] h = refl
brings_same t all (e ∷ cs) h =
    ap (λ b. cond b (e ∷ filter (λ (e : Candidate). t (brings_of (candidate_at all e.version))) cs)
    (filter (λ (e : Candidate). t (brings_of (candidate_at all e.version))) cs)) (ap (λ o. t (brings_of o)) h.0)
    ∙ ap (λ (es : List Candidate). cond (t e.brings) (e ∷ es) es) (brings_same t all cs h.1)

pub lacking_is : (m : ManifestView) (c : CatalogueView) (name : List ℕ) (k : Class) (f : List ℕ) (vs ws : List Version)
    → map parts_of vs ≡ map (λ r. r.version) (candidates_at c name) → AreRising vs
    → ws ≡ filter (λ v. is_of k (parts_of v)) vs
    → versions_with (is_lacking (problem_in m c) name f) (map parts_of ws)
    ≡ versions_that (problem_in m c) (λ e. not (has_feature e.brings.features f)) name k
unfolding is_lacking
lacking_is m c name k f vs ws is rising e =
    let all = candidates_of (rows_by_name c) name in
    let t : Summary → Bool = λ (o : Summary). not (has_feature o.features f) in
    let sorted = subst (IsStrictlySortedBy version_cmp) (is ∙ records_named (candidates_at c name)
    ∙ ap (map (λ (e : Candidate). e.version)) (sym (candidates_are c name))) (rising_parts vs rising) in
    with_classed m c name k ws (ap (map parts_of) e ∙ parts_filtered (is_of k) vs ∙ ap (filter (is_of k)) is)
    (λ v. t (brings_of (candidate_at all v)))
    ∙ ap (map (λ (e : Candidate). version e.version))
    (brings_same t all (class_candidates (problem_in m c) name k) (kept_too (λ (e : Candidate).
    candidate_at all e.version ≡ Some e) (in_that_class k) all (found_itself all sorted)))
