-- How a set stands to a term, from inclusion and disjointness.
use Rattle.std.proofs.Common.{◌≡◌, ◌<◌, true, false, not, ◌&&◌, [], ◌∷◌, refl, sym, ◌∙◌, arith, ltb, inl, inr}
use Rattle.std.proofs.lemmas.Bool.{and_left, and_right, cases_Bool, cases_lt, false≢true, le-ltb, lt-ltb, not-false}
use Rattle.std.proofs.lemmas.Bool.{not-true, true≢false}
use Rattle.version_sets.specs.Sets.{Members, inside, meets, size}
use Rattle.version_sets.proofs.Within.{inside_nothing, meets_some}
use Rattle.terms.specs.Terms.{relation_of}
use Rattle.terms.specs.declared.term.Relation.TheVariants.{Satisfied, Contradicted, Open}

-- a set that isn't empty and lies inside another meets it
some_met : (xs ys : Members) → inside xs ys ≡ true → 0 < size xs → meets xs ys ≡ true
some_met [] ys h some = absurd (omega arith)
some_met (true ∷ xs) [] h some = absurd (false≢true h)
some_met (false ∷ xs) [] h some = absurd (omega (arith, inside_nothing xs h))
some_met (true ∷ xs) (true ∷ ys) h some = refl
some_met (true ∷ xs) (false ∷ ys) h some = absurd (false≢true h)
some_met (false ∷ xs) (y ∷ ys) h some = some_met xs ys h some

apart_fails : (xs ys : Members) → meets xs ys ≡ false → (ltb 0 (size xs) && inside xs ys) ≡ false
apart_fails xs ys apart = elim (cases_lt 0 (size xs)) [
  | inl some ↦ elim (cases_Bool (inside xs ys)) [
    | inl h ↦ absurd (true≢false (sym (some_met xs ys h some) ∙ apart))
    | inr h ↦ and_right (ltb 0 (size xs)) (inside xs ys) h
  ]
  | inr none ↦ and_left (ltb 0 (size xs)) (inside xs ys) (le-ltb 0 (size xs) none)
]

pub contradicted : (xs ys : Members) → true ≡ not (meets xs ys) → Contradicted ≡ relation_of xs ys
contradicted xs ys h =
    let apart : meets xs ys ≡ false = not-true (meets xs ys) (sym h) in
    rw (apart_fails xs ys apart, apart) refl

pub satisfied : (xs ys : Members) → false ≡ not (meets xs ys) → true ≡ inside xs ys → Satisfied ≡ relation_of xs ys
satisfied xs ys h within =
    rw (lt-ltb 0 (size xs) (meets_some xs ys (not-false (meets xs ys) (sym h))), sym within) refl

pub open_between : (xs ys : Members) → false ≡ not (meets xs ys) → false ≡ inside xs ys → Open ≡ relation_of xs ys
open_between xs ys h apart =
    rw (and_right (ltb 0 (size xs)) (inside xs ys) (sym apart), not-false (meets xs ys) (sym h)) refl

pub ruleset relations = (contradicted, satisfied, open_between)
