-- Terms of a line that a step before it has, by their texts (this project's).
use Rattle.std.specs.Prelude.{◌≡◌, ℕ, List, [], ◌∷◌, Some, Ok, ⊤}
use Rattle.std.specs.List.{AllByRecursion}
use Rattle.serde_json.specs.Data.{Data, Items, no_items, item}
use Rattle.serde_json.specs.Find as json
use Rattle.model.specs.Outcome.{◌>>=◌}
use Rattle.model.specs.Vertices as model
use Rattle.model.specs.Axioms as axioms
use Rattle.vertices.specs.Texts.{state_text}
use Rattle.derivations.specs.inner.Derivations.{IsDerivation, IsTerm}
use Rattle.derivations.specs.Lines.{Line, vertex_in_line}
use Rattle.derivations.specs.Steps.{states_of}
use Rattle.derivations.specs.inner.Tables.{TablesView, AreStepsOf, AreTermsOf, steps_at, terms_at}
use Rattle.derivations.specs.declared.earlier.Earlier.{Earlier}
use Rattle.derivations.specs.declared.step.Step.{Step}
use Rattle.derivations.specs.declared.step.Term.{Term}

-- steps with their tables are a derivation
abbrev pub IsReading : TablesView → List Step → Type 0
IsReading t steps = AreStepsOf t steps × IsDerivation (steps_at t steps)

-- so have the terms of each step
abbrev pub AreTermsBefore : TablesView → List Term → Type 0
AreTermsBefore t terms = AreTermsOf t terms × AllByRecursion IsTerm (terms_at t terms)

abbrev pub AreEarlier : TablesView → Earlier → Type 0
AreEarlier t e = AreTermsBefore t e.first.now × AreTermsBefore t e.second.now

-- each item is the text of the state in its place
abbrev pub HaveTexts : Items → List model.State → Type 0
HaveTexts no_items [] = ⊤
HaveTexts no_items (s ∷ ss) = ⊥
HaveTexts (item d ds) [] = ⊥
HaveTexts (item d ds) (s ∷ ss) = (json.as_str d ≡ Some (state_text s)) × HaveTexts ds ss

-- the value is an array of the texts of the states
abbrev pub AreWritten : Data → List model.State → Type 0
AreWritten d ss = (ds : Items) × (json.as_array d ≡ Some ds) × HaveTexts ds ss

-- the term of a vertex's text and of its states
unfoldable pub term_from : List ℕ → Data → Line axioms.Term
term_from text d = do
  v ← vertex_in_line text
  states ← states_of v d
  Ok (axioms.at v states)
