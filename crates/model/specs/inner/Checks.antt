-- Which step of a derivation is refused first, and why (the rule of resolution of Dart pub's `solver.md`; the reasons
-- are this project's).
use Rattle.std.specs.Prelude.{◌≡◌, ℕ, suc, List, [], ◌∷◌, ◌++◌, Bool, true, false, if◌then◌else◌, Option, Some, None}
use Rattle.std.specs.Prelude.{slice_get, length}
use Rattle.std.specs.List.{AllByRecursion}
use Rattle.std.specs.Option.{option_or}
use Rattle.model.specs.Content.{Problem}
use Rattle.model.specs.Vertices.{Vertex, State}
use Rattle.model.specs.Axioms.{Term, at, AreApart, is_full}
use Rattle.model.specs.Derivation.{states_at, Step, given, combine, terms_of}
use Rattle.model.specs.inner.Terms.{is_combination}
use Rattle.model.specs.inner.Instances.{is_instance}

pub data Reason : Type 0 where
  -- C1: the terms aren't those of an instance of the kind
  not_an_axiom : Reason
  -- C2: the terms aren't the combination of two earlier steps
  not_combined : Reason
  -- C3: there is no step, or the last one has a term
  not_final : Reason

-- a step's number, and why it is refused
abbrev pub RefusedStep : Type 0
RefusedStep = ℕ × Reason

abbrev pub combines : Problem → Vertex → Option Step → Option Step → List Term → Bool
combines q v (Some a) (Some b) ts = is_combination q v (terms_of a) (terms_of b) ts
combines q v None b ts = false
combines q v (Some a) None ts = false

-- each step speaks of each vertex once
abbrev pub ArePlain : List Step → Type 0
ArePlain steps = AllByRecursion (λ s. AreApart (terms_of s)) steps

-- none of the terms has all states of its vertex
abbrev pub HasNoFull : Problem → List Term → Type 0
HasNoFull q ts = (v : Vertex) (ss : List State) → states_at ts v ≡ Some ss → is_full q (at v ss) ≡ false

-- whether the step is accepted after the earlier ones
abbrev pub is_step : Problem → List Step → Step → Bool
is_step q earlier (given k ts) = is_instance q k ts
is_step q earlier (combine i j v ts) = combines q v (slice_get earlier i) (slice_get earlier j) ts

abbrev pub reason_of : Step → Reason
reason_of (given k ts) = not_an_axiom
reason_of (combine i j v ts) = not_combined

-- the first step that isn't, of those that follow the earlier ones
abbrev pub first_refused : Problem → List Step → List Step → Option RefusedStep
first_refused q earlier [] = None
first_refused q earlier (s ∷ steps) =
    if is_step q earlier s then first_refused q (earlier ++ s ∷ []) steps else Some (length earlier, reason_of s)

abbrev pub is_none_left : List Term → Bool
is_none_left [] = true
is_none_left (t ∷ ts) = false

abbrev pub end_if : ℕ → Bool → Option RefusedStep
end_if n true = None
end_if n false = Some (n, not_final)

-- what is wrong with the end, where the first of the steps has this number
abbrev pub end_refused : ℕ → List Step → Option RefusedStep
end_refused n [] = Some (n, not_final)
end_refused n (s ∷ []) = end_if n (is_none_left (terms_of s))
end_refused n (s ∷ r ∷ steps) = end_refused (suc n) (r ∷ steps)

-- the step of a derivation that is refused first, if there is one
abbrev pub refused_step : Problem → List Step → Option RefusedStep
refused_step q steps = option_or (first_refused q [] steps) (end_refused 0 steps)
