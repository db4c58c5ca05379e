-- What steps stand for whose vertices and states are numbers into two tables (the layout is this project's).
use Rattle.std.specs.Prelude.{◌≡◌, ℕ, ◌<◌, List, [], map, length, slice_index_or, ⊤}
use Rattle.std.specs.List.{AllByRecursion}
use Rattle.model.specs.Vertices as model
use Rattle.model.specs.Axioms as axioms
use Rattle.model.specs.Derivation as steps
use Rattle.derivations.specs.inner.Origins.{step_from}
use Rattle.derivations.specs.declared.step.Term.{Term}
use Rattle.derivations.specs.declared.step.Origin.{Origin}
use Rattle.derivations.specs.declared.step.Origin.TheVariants.{Axiom, Combination}
use Rattle.derivations.specs.declared.step.Step.{Step}

-- the vertices, the states and the sets of states that numbers stand for: a set has the numbers of its states
pub record TablesView : Type 0 where
  pub vertices : List model.Vertex
  pub states : List model.State
  pub sets : List (List ℕ)

abbrev pub no_tables : TablesView
no_tables = record { vertices = []; states = []; sets = [] }

-- ---- what numbers stand for

abbrev pub vertex_at : TablesView → ℕ → model.Vertex
vertex_at t n = slice_index_or t.vertices n model.root

abbrev pub state_at : TablesView → ℕ → model.State
state_at t n = slice_index_or t.states n model.absent

abbrev pub states_at : TablesView → List ℕ → List model.State
states_at t ns = map (state_at t) ns

abbrev pub set_at : TablesView → ℕ → List ℕ
set_at t n = slice_index_or t.sets n []

abbrev pub term_at : TablesView → Term → axioms.Term
term_at t term = axioms.at (vertex_at t term.vertex) (states_at t (set_at t term.states))

abbrev pub terms_at : TablesView → List Term → List axioms.Term
terms_at t terms = map (term_at t) terms

abbrev pub step_by_origin : TablesView → Origin ℕ → List axioms.Term → steps.Step
step_by_origin t = step_from (vertex_at t)

abbrev pub step_at : TablesView → Step → steps.Step
step_at t s = step_by_origin t s.origin (terms_at t s.terms.items)

abbrev pub steps_at : TablesView → List Step → List steps.Step
steps_at t ss = map (step_at t) ss

-- ---- numbers that the tables have

abbrev pub AreStatesOf : TablesView → List ℕ → Type 0
AreStatesOf t ns = AllByRecursion (λ n. n < length t.states) ns

-- so has each set, of so many states
abbrev pub AreSetsOf : List model.State → List (List ℕ) → Type 0
AreSetsOf ss sets = AllByRecursion (λ ns. AllByRecursion (λ n. n < length ss) ns) sets

abbrev pub IsTermOf : TablesView → Term → Type 0
IsTermOf t term =
    (term.vertex < length t.vertices) × (term.states < length t.sets) × AreStatesOf t (set_at t term.states)

abbrev pub AreTermsOf : TablesView → List Term → Type 0
AreTermsOf t terms = AllByRecursion (IsTermOf t) terms

abbrev pub IsOriginOf : TablesView → Origin ℕ → Type 0
IsOriginOf t (Axiom k) = ⊤
IsOriginOf t (Combination a b v) = v < length t.vertices

abbrev pub IsStepOf : TablesView → Step → Type 0
IsStepOf t s = IsOriginOf t s.origin × AreTermsOf t s.terms.items

abbrev pub AreStepsOf : TablesView → List Step → Type 0
AreStepsOf t ss = AllByRecursion (IsStepOf t) ss

-- each number keeps what it stands for
pub record IsGrown (old new : TablesView) : Type 0 where
  pub vertices : (n : ℕ) → n < length old.vertices → (n < length new.vertices) × (vertex_at new n ≡ vertex_at old n)
  pub states : (n : ℕ) → n < length old.states → (n < length new.states) × (state_at new n ≡ state_at old n)
  pub sets : (n : ℕ) → n < length old.sets → (n < length new.sets) × (set_at new n ≡ set_at old n)
