-- Which features the candidates of a class have, and the term that is full where they have none.
use Rattle.std.proofs.Common.{◌≡◌, Bool, true, false, cond, not, ◌&&◌, ◌||◌, List, [], ◌∷◌, map, filter, refl, sym, ap}
use Rattle.std.proofs.Common.{◌∙◌, true≢false}
use Rattle.std.proofs.Math.Bool.{or-true}
use Rattle.std.specs.Prelude.{ℕ}
use Rattle.std.specs.List.{list_any, list_all}
use Rattle.model.specs.Axioms.{at, absent_or, without_full}
use Rattle.model.specs.Candidates.{Record, as_candidate}
use Rattle.model.specs.Content.{Candidate, Problem}
use Rattle.model.specs.Selection.{Class}
use Rattle.model.specs.Summary.{has_feature}
use Rattle.model.specs.Vertices.{State, absent, present, version, has_state, in_class}
use Rattle.model.specs.Vertices.{same_state, feat, pkg, class_candidates}
use Rattle.model.proofs.Mapped.{any-map}
use Rattle.model.proofs.Same.{class-refl, version-refl}
use Rattle.manifest.specs.Manifests.{ManifestView}
use Rattle.catalogue.specs.Problems.{problem_in}
use Rattle.catalogue.specs.Stores.{CatalogueView, candidates_at, Said, said, said_by}
use Rattle.catalogue.specs.declared.candidate.Candidate as held
use Rattle.lookups.specs.inner.Ranges.{is_of}
use Rattle.lookups.proofs.Classed.{class_is_of}
use Rattle.model.specs.Causes.{terms_of_cause, of_feature}
use Rattle.axioms.specs.inner.Keeping.{is_had}

pub had_is : (m : ManifestView) (c : CatalogueView) (name : List ℕ) (k : Class) (cs : List held.Candidate)
    → map said_by cs ≡ map said (filter (λ r. is_of k r.version) (candidates_at c name)) → (f : List ℕ)
    → list_any (λ e. has_feature (said_by e).brings.features f) cs ≡ is_had (problem_in m c) name k f
had_is m c name k cs is f =
    let rs = filter (λ (r : Record). is_of k r.version) (candidates_at c name) in
    let t : Said → Bool = λ (s : Said). has_feature s.brings.features f in
    sym (any-map t said_by cs) ∙ ap (list_any t) is ∙ any-map t said rs
    ∙ sym (any-map (λ (e : Candidate). has_feature e.brings.features f) as_candidate rs)
    ∙ ap (list_any (λ (e : Candidate). has_feature e.brings.features f)) (sym (class_is_of m c name k))

-- ---- where none has the feature

all_pass : {A : Type 0} (t : A → Bool) (xs : List A) → list_any t xs ≡ false → filter (λ x. not (t x)) xs ≡ xs
all_pass t [] e = refl
all_pass t (x ∷ xs) e = by (λ h. all_pass t xs h) (t x) e
  where
    by : (list_any t xs ≡ false → filter (λ x. not (t x)) xs ≡ xs) → (b : Bool) → (b || list_any t xs) ≡ false
        → cond (not b) (x ∷ filter (λ x. not (t x)) xs) (filter (λ x. not (t x)) xs) ≡ (x ∷ xs)
    by rest true h = absurd (true≢false h)
    by rest false h = ap (λ ys. x ∷ ys) (rest h)

more_too : (s : State) (ss ts : List State) → list_all (has_state ss) ts ≡ true
    → list_all (has_state (s ∷ ss)) ts ≡ true
more_too s ss [] e = refl
more_too s ss (t ∷ ts) e = by (λ h. more_too s ss ts h) (has_state ss t) e
  where
    by : (list_all (has_state ss) ts ≡ true → list_all (has_state (s ∷ ss)) ts ≡ true) → (b : Bool)
        → (b && list_all (has_state ss) ts) ≡ true
        → ((same_state t s || b) && list_all (has_state (s ∷ ss)) ts) ≡ true
    by rest true h = ap (λ b. b && list_all (has_state (s ∷ ss)) ts) (or-true (same_state t s)) ∙ rest h
    by rest false h = absurd (true≢false (sym h))

state_refl : (s : State) → same_state s s ≡ true
state_refl absent = refl
state_refl present = refl
state_refl (version v) = version-refl v
state_refl (in_class k) = class-refl k

all_itself : (ss : List State) → list_all (has_state ss) ss ≡ true
all_itself [] = refl
all_itself (s ∷ ss) =
    ap (λ b. (b || has_state ss s) && list_all (has_state (s ∷ ss)) ss) (state_refl s)
    ∙ more_too s ss ss (all_itself ss)

pub alone_is : (q : Problem) (name : List ℕ) (k : Class) (f : List ℕ) → is_had q name k f ≡ false
    → without_full q (terms_of_cause q (of_feature name k f)) ≡ at (feat name k f) (present ∷ []) ∷ []
alone_is q name k f lacked =
    let cs = class_candidates q name k in
    let t : Candidate → Bool = λ (c : Candidate). has_feature c.brings.features f in
    let same = ap (λ es. absent ∷ map (λ (c : Candidate). version c.version) es) (all_pass t cs lacked) in
    ap (λ b. at (feat name k f) (present ∷ [])
    ∷ cond (not b) (at (pkg name k) (absent_or q (λ c. not (has_feature c.brings.features f)) name k) ∷ []) [])
    (ap (λ ss. list_all (has_state ss) (absent ∷ map (λ (c : Candidate). version c.version) cs)) same
    ∙ all_itself (absent ∷ map (λ (c : Candidate). version c.version) cs))
