-- No vertex has a state twice in its space.
use Rattle.std.proofs.Common.{◌≡◌, ◌≢◌, List, ℕ, [], ◌∷◌, map, Bool, true, false, cond, Option, Some, None, slice_get}
use Rattle.std.proofs.Common.{refl, sym, ◌∙◌, subst, true≢false, arith}
use Rattle.std.specs.List.{list_any, All, AllPairs}
use Rattle.std.specs.declared.cmp.Ordering.TheVariants.{Less, Equal}
use Rattle.std.proofs.lemmas.List.Kept.{AllPairs-cons}
use Rattle.semver.specs.Parse.{Parts}
use Rattle.model.specs.Summary.{Dependency, same_text}
use Rattle.model.specs.Content.{Candidate, Problem, candidates_of}
use Rattle.model.specs.Selection.{Class, class_of}
use Rattle.model.specs.Order.{IsCatalogue}
use Rattle.model.specs.Vertices.{Vertex, root, pkg, dep, feat, ask, State, absent, present, version, in_class}
use Rattle.model.specs.Vertices.{same_class, classes_of, matching, dep_classes, dep_space, owner_brings, in_that_class}
use Rattle.model.specs.Vertices.{class_candidates, space}
use Rattle.model.proofs.Same.{class-refl}
use Rattle.model.proofs.Contents.{precedence-equal}
use Rattle.model.proofs.Lists.{in_map, to_any, pairs_none, pairs_two, all_first, all_rest}
use Rattle.model.proofs.Members.{all_in}
use Rattle.model.proofs.Gathered.{pairs_map}
use Rattle.numbering.proofs.ClassOrder.{IsOlder, pairs_filter}

-- absent is no other state
absent_first : {X : Type 0} (f : X → State) (xs : List X) → ((x : X) → absent ≢ f x)
    → AllPairs (λ s r. s ≢ r) (map f xs) → AllPairs (λ s r. s ≢ r) (absent ∷ map f xs)
absent_first f xs n h = AllPairs-cons (λ s r. s ≢ r) absent (map f xs)
    (all_in (λ r. absent ≢ r) (map f xs) (λ s i. let r = in_map f xs s i in λ e. n r.0 (e ∙ sym r.2))) h

pub older_differ : (c e : Candidate) → IsOlder c e → version c.version ≢ version e.version
older_differ c e less same =
    let v : c.version ≡ e.version = inner c.version e.version same in
    let x : Less ≡ Equal = sym less ∙ precedence-equal c.version e.version v in cc
  where
    inner : (v w : Parts) → version v ≡ version w → v ≡ w
    inner v w e = cc

classes_differ : (k m : Class) → k ≢ m → in_class k ≢ in_class m
classes_differ k m n e = n (inner k m e)
  where
    inner : (k m : Class) → in_class k ≡ in_class m → k ≡ m
    inner k m e = cc

classes_once : (cs : List Candidate) → AllPairs (λ k m. k ≢ m) (classes_of cs)
classes_once [] = pairs_none (λ k m. k ≢ m)
classes_once (c ∷ cs) = by (classes_once cs) (list_any (same_class (class_of c.version)) (classes_of cs)) refl
  where
    by : AllPairs (λ k m. k ≢ m) (classes_of cs) → (b : Bool) → list_any (same_class (class_of c.version))
        (classes_of cs) ≡ b → AllPairs (λ k m. k ≢ m) (cond b (classes_of cs) (class_of c.version ∷ classes_of cs))
    by rest true e = rest
    by rest false e = AllPairs-cons (λ k m. k ≢ m) (class_of c.version) (classes_of cs)
        (all_in (λ m. class_of c.version ≢ m) (classes_of cs)
        (λ m i same. true≢false (sym (to_any (same_class (class_of c.version)) (classes_of cs) m i (subst (λ x.
        same_class (class_of c.version) x ≡ true) same (class-refl (class_of c.version)))) ∙ e)))
        rest

pub of_rows : (rows : List (List ℕ × List Candidate)) → All (λ row. AllPairs IsOlder row.1) rows → (name : List ℕ)
    → AllPairs IsOlder (candidates_of rows name)
of_rows [] h name = pairs_none IsOlder
of_rows (row ∷ rows) h name =
    by (of_rows rows (all_rest (λ row. AllPairs IsOlder row.1) row rows h) name) (same_text name row.0)
  where
    by : AllPairs IsOlder (candidates_of rows name) → (b : Bool)
        → AllPairs IsOlder (cond b row.1 (candidates_of rows name))
    by rest true = all_first (λ row. AllPairs IsOlder row.1) row rows h
    by rest false = rest

two : AllPairs (λ s r. s ≢ r) (absent ∷ present ∷ [])
two = pairs_two (λ s r. s ≢ r) absent present (λ e. let x : absent ≡ present = e in cc)

pub states_once : (q : Problem) → IsCatalogue q → (v : Vertex) → AllPairs (λ s r. s ≢ r) (space q v)
states_once q known root = two
states_once q known (pkg name k) = absent_first (λ (c : Candidate). version c.version) (class_candidates q name k)
    (λ c e. let x : absent ≡ version c.version = e in cc)
    (pairs_map (λ (c : Candidate). version c.version) IsOlder (λ s r. s ≢ r) older_differ (class_candidates q name k)
    (pairs_filter (in_that_class k) (candidates_of q.candidates name) (of_rows q.candidates known.versions_rise name)))
states_once q known (dep o i) = by (slice_get (owner_brings q o).dependencies i)
  where
    by : (d : Option Dependency) → AllPairs (λ s r. s ≢ r) (dep_space q d)
    by None = λ i j d lt within. absurd (omega (arith, lt, within))
    by (Some d) =
        absent_first in_class (dep_classes q d) (λ k e. let x : absent ≡ in_class k = e in cc) (pairs_map in_class
        (λ k m. k ≢ m) (λ s r. s ≢ r) classes_differ (dep_classes q d) (classes_once (matching q d)))
states_once q known (feat name k f) = two
states_once q known (ask name v i g) = two
