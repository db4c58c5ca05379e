-- Tested terms of an instance as terms over numbers.
use Rattle.std.proofs.Common.{◌≡◌, ℕ, zero, suc, ◌<◌, ◌≤◌, ◌+◌, get_or, take, take_all, List, [], ◌∷◌, ◌++◌, map}
use Rattle.std.proofs.Common.{filter, length, Bool, true, false, cond, Option, Some, None, slice_get, sym, ap}
use Rattle.std.proofs.Common.{◌∙◌, subst, arith}
use Rattle.std.specs.List.{AllByRecursion, All}
use Rattle.terms.specs.Terms.{TermView, term_view, terms_view}
use Rattle.model.specs.Summary.{Dependency, same_text}
use Rattle.model.specs.Content.{Candidate, Problem, candidates_of}
use Rattle.model.specs.Candidates.{as_candidate}
use Rattle.model.specs.Vertices.{Vertex, root, pkg, dep, feat, ask, in_class, version, same_class}
use Rattle.model.specs.Vertices.{classes_of, matching, dep_classes, dep_space, class_candidates, owner_brings, space}
use Rattle.model.specs.Axioms.{Term, IsVertex}
use Rattle.model.proofs.Lists.{all_first, all_rest}
use Rattle.model.proofs.Vertices.{instance_vertices}
use Rattle.model.proofs.CauseLaws.{cause_instance}
use Rattle.manifest.specs.Manifests.{ManifestView}
use Rattle.catalogue.specs.Problems.{problem_in}
use Rattle.catalogue.specs.Stores.{records, CatalogueView, IsStore, Row, most_candidates}
use Rattle.numbering.specs.Numberings.{Numbering, IsGrown}
use Rattle.numbering.specs.inner.Numbered.{AreNumbered}
use Rattle.numbering.specs.inner.TestedTerms.{TestedTerm, IsOfTested, AreOfTested, IsFitting, all_tested}
use Rattle.numbering.proofs.Needing.{still_at, numbering_put, put_grows}
use Rattle.std.proofs.lemmas.List.{map-append, length-map}
use Rattle.std.proofs.Math.Seq.{take-suc}
use Rattle.version_sets.specs.Sets.{Members}
use Rattle.terms.specs.declared.term.Term as Numbered
use Rattle.model.specs.Order.{IsCatalogue}
use Rattle.model.specs.Causes.{Cause, is_cause, kind_of, terms_of_cause}
use Rattle.numbering.specs.Numberings.{IsNumbering, with_vertex}
use Rattle.numbering.specs.inner.TestedTerms.{tested_view, tested_views}
use Rattle.numbering.specs.declared.tested_terms.TestedTerm as code

-- tested terms of terms are those, numbered
pub are_numbered : (q : Problem) (vs : Numbering) (ts : List TermView) (ms : List Term)
    → AreOfTested vs ts (all_tested q ms) → AreNumbered q vs ts ms
are_numbered q vs [] [] are = tt
are_numbered q vs [] (m ∷ ms) are = are
are_numbered q vs (t ∷ ts) [] are = are
are_numbered q vs (t ∷ ts) (m ∷ ms) are =
    (record { vertex = (are.0).0; states = (are.0).1 }, are_numbered q vs ts ms are.1)

-- they stay so as more vertices get numbers
pub tested_more : (vs new : Numbering) (ts : List TermView) (ps : List TestedTerm) → IsGrown vs new
    → AreOfTested vs ts ps → AreOfTested new ts ps
tested_more vs new [] [] grown are = tt
tested_more vs new [] (p ∷ ps) grown are = are
tested_more vs new (t ∷ ts) [] grown are = are
tested_more vs new (t ∷ ts) (p ∷ ps) grown are =
    ((still_at vs new t.vertex p.0 grown (are.0).0, (are.0).1), tested_more vs new ts ps grown are.1)

pub tested_last : (vs : Numbering) (ts : List TermView) (ps : List TestedTerm) (t : TermView) (p : TestedTerm)
    → AreOfTested vs ts ps
    → IsOfTested vs t p → AreOfTested vs (ts ++ t ∷ []) (ps ++ p ∷ [])
tested_last vs [] [] t p are is = (is, tt)
tested_last vs [] (r ∷ ps) t p are is = absurd are
tested_last vs (u ∷ ts) [] t p are is = absurd are
tested_last vs (u ∷ ts) (r ∷ ps) t p are is = (are.0, tested_last vs ts ps t p are.1 is)

-- ---- no space is too large

module _ {X : Type 0} where
  filter_less : (t : X → Bool) (xs : List X) → length (filter t xs) ≤ length xs
  filter_less t [] = omega arith
  filter_less t (x ∷ xs) = by (t x) (filter_less t xs)
    where
      by : (b : Bool) → length (filter t xs) ≤ length xs
          → length (cond b (x ∷ filter t xs) (filter t xs)) ≤ suc (length xs)
      by true h = omega (arith, h)
      by false h = omega (arith, h)

classes_less : (cs : List Candidate) → length (classes_of cs) ≤ length cs
classes_less [] = omega arith
classes_less (c ∷ cs) =
    by (Rattle.std.specs.List.list_any (same_class (Rattle.model.specs.Selection.class_of c.version)) (classes_of cs))
    (classes_less cs)
  where
    by : (b : Bool) → length (classes_of cs) ≤ length cs → length (cond b (classes_of cs)
        (Rattle.model.specs.Selection.class_of c.version ∷ classes_of cs)) ≤ suc (length cs)
    by true h = omega (arith, h)
    by false h = omega (arith, h)

rows_few : (rows : List Row) → All (λ row. length row.1 ≤ most_candidates) rows → (name : List ℕ)
    → length (candidates_of (map (λ row. (row.0, map as_candidate (records row.1))) rows) name) ≤ 65535
rows_few [] h name = omega arith
rows_few (row ∷ rows) h name =
    by (same_text name row.0) (rows_few rows (all_rest (λ row. length row.1 ≤ most_candidates) row rows h) name)
  where
    here : length row.1 ≤ 65535
    here = all_first (λ row. length row.1 ≤ most_candidates) row rows h

    by : (b : Bool) → length (candidates_of (map (λ row. (row.0, map as_candidate (records row.1))) rows) name) ≤ 65535
        → length (cond b (map as_candidate (records row.1))
        (candidates_of (map (λ row. (row.0, map as_candidate (records row.1))) rows) name)) ≤ 65535
    by true rest = subst (λ n. n ≤ 65535) (sym (length-map (records row.1) as_candidate ∙ length-map row.1 _)) here
    by false rest = rest

module _ (m : ManifestView) (c : CatalogueView) (store : IsStore c) where
  few_candidates : (name : List ℕ) → length (candidates_of (problem_in m c).candidates name) ≤ 65535
  few_candidates name = rows_few c.rows store.versions_few name

  pub spaces_few : (v : Vertex) → length (space (problem_in m c) v) ≤ 65536
  spaces_few root = omega arith
  spaces_few (pkg name k) =
      let f = few_candidates name in
      let g =
      filter_less (Rattle.model.specs.Vertices.in_that_class k) (candidates_of (problem_in m c).candidates name) in
      let h = length-map (class_candidates (problem_in m c) name k) (λ (e : Candidate). version e.version) in
      omega (arith, f, g, h)
  spaces_few (dep o i) = by (slice_get (owner_brings (problem_in m c) o).dependencies i)
    where
      by : (d : Option Dependency) → length (dep_space (problem_in m c) d) ≤ 65536
      by None = omega arith
      by (Some d) =
          let f = few_candidates d.real_name in
          let g = filter_less (λ (e : Candidate). Rattle.semver.specs.EvalViews.matches_views d.requirement e.version)
          (candidates_of (problem_in m c).candidates d.real_name) in
          let h = classes_less (matching (problem_in m c) d) in
          let k = length-map (dep_classes (problem_in m c) d) in_class in
          omega (arith, f, g, h, k)
  spaces_few (feat name k f) = omega arith
  spaces_few (ask name v i g) = omega arith

  -- the tested terms of terms whose vertices are there can be made terms
  pub fitting : (ms : List Term) → AllByRecursion (λ t. IsVertex (problem_in m c) t.vertex) ms
      → AllByRecursion (IsFitting (problem_in m c)) (all_tested (problem_in m c) ms)
  fitting [] h = tt
  fitting (t ∷ ms) h = (
    record {
      there = h.0;
      few = subst (λ n. n ≤ 65536) (sym (length-map (space (problem_in m c) t.vertex) _)) (spaces_few t.vertex);
    },
    fitting ms h.1,
  )

-- ---- one vertex after another

pub vertex_put : (q : Problem) (vs : Numbering) (v : Vertex) (new : Numbering) → IsNumbering q vs → IsVertex q v
    → new ≡ with_vertex vs v → IsNumbering q new × IsGrown vs new
vertex_put q vs v new ok is same =
    (subst (IsNumbering q) (sym same) (numbering_put q vs v ok is), subst (IsGrown vs) (sym same) (put_grows vs v))

pub tested_put : {S : Type 0} (tests : S → Members) (vs new : Numbering) (old is : List (Numbered.Term S))
    (t : Numbered.Term S) (p : TestedTerm) (ps : List TestedTerm) → IsGrown vs new → is ≡ old ++ t ∷ []
    → IsOfTested new (term_view tests t) p → AreOfTested vs (terms_view tests old) ps
    → AreOfTested new (terms_view tests is) (ps ++ p ∷ [])
tested_put tests vs new old is t p ps grown same of are =
    subst (λ ts. AreOfTested new ts (ps ++ p ∷ []))
    (sym (ap (terms_view tests) same ∙ map-append (term_view tests) old (t ∷ [])))
    (tested_last new (terms_view tests old) ps (term_view tests t) p
    (tested_more vs new (terms_view tests old) ps grown are) of)

pub tested_next : (all : List code.TestedTerm) (i : ℕ) (p : code.TestedTerm) → i < length all → p ≡ get_or all i p
    → tested_views (take (i + 1) all) ≡ tested_views (take i all) ++ tested_view p ∷ []
tested_next all i p lt is =
    let e : i + 1 ≡ suc i = omega arith in
    ap (λ n. tested_views (take n all)) e
    ∙ ap tested_views (take-suc all i p lt ∙ ap (λ x. take i all ++ x ∷ []) (sym is))
    ∙ map-append tested_view (take i all) (p ∷ [])

pub tested_whole : (all : List code.TestedTerm) (i : ℕ) → length all ≤ i → tested_views (take i all) ≡ tested_views all
tested_whole all i h = ap tested_views (take_all i all h)

pub fit_at : (P : TestedTerm → Type 0) (all : List code.TestedTerm) (i : ℕ) (p : code.TestedTerm)
    → AllByRecursion P (tested_views all)
    → i < length all → p ≡ get_or all i p → P (tested_view p)
fit_at P [] i p h lt is = absurd (omega (arith, lt))
fit_at P (x ∷ all) zero p h lt is = subst (λ y. P (tested_view y)) (sym is) h.0
fit_at P (x ∷ all) (suc i) p h lt is = fit_at P all i p h.1 (omega (arith, lt)) is

by_recursion : {X : Type 0} (P : X → Type 0) (xs : List X) → All P xs → AllByRecursion P xs
by_recursion P [] h = tt
by_recursion P (x ∷ xs) h = (all_first P x xs h, by_recursion P xs (all_rest P x xs h))

-- the tested terms of an instance can be made terms over numbers, each on its own number
pub cause_fits : (m : ManifestView) (c : CatalogueView) (cause : Cause) (ps : List TestedTerm) → IsStore c
    → IsCatalogue (problem_in m c) → is_cause (problem_in m c) cause ≡ true
    → ps ≡ all_tested (problem_in m c) (terms_of_cause (problem_in m c) cause)
    → AllByRecursion (IsFitting (problem_in m c)) ps
cause_fits m c cause ps store known t is =
    let q = problem_in m c in
    subst (AllByRecursion (IsFitting q)) (sym is)
    (fitting m c store (terms_of_cause q cause) (by_recursion (λ (t : Term). IsVertex q t.vertex) (terms_of_cause q
    cause) (instance_vertices q known (kind_of cause) (terms_of_cause q cause) (cause_instance q cause t))))
