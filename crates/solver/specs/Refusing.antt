-- What is asked of a store's entry, so that its step can be put at the end of a derivation, and its terms on the way.
use Rattle.std.specs.Prelude.{◌≡◌, ℕ, suc, ◌<◌, ◌≤◌, Bool, true, false, List, [], ◌∷◌, if◌then◌else◌, length, map, None}
use Rattle.std.specs.Prelude.{Some, is_some, slice_get, slice_index_or}
use Rattle.std.specs.List.{AllByRecursion}
use Rattle.terms.specs.Terms.{TermView}
use Rattle.incompatibilities.specs.inner.Counts.{axioms, combinations}
use Rattle.incompatibilities.specs.Stores.{EntryView}
use Rattle.solver.specs.inner.Flats.{FlatView}
use Rattle.solver.specs.declared.flat.Source.{Source}
use Rattle.solver.specs.declared.flat.Source.TheVariants.{Axiom, Combined}
use Rattle.model.specs.Content.{Problem}
use Rattle.model.specs.Vertices.{Vertex, space}
use Rattle.model.specs.Axioms.{Term, at}
use Rattle.model.specs.Derivation.{Step, given, combine}
use Rattle.model.specs.Derivation as model
use Rattle.propagation.specs.Promises.{most}
use Rattle.vertices.specs.inner.RefViews.{state_ref_views}
use Rattle.vertices.specs.Texts.{IsReadVertex}
use Rattle.numbering.specs.Numberings.{Numbering}
use Rattle.solver.specs.inner.Decoding.{IsOver, sizes}
use Rattle.solver.specs.inner.Steps.{IsBy}
use Rattle.solver.specs.declared.spaces.Space.{Space}
use Rattle.solver.specs.declared.spaces.Spaces.{Spaces}
use Rattle.solver.specs.declared.speaking.Spoken.{Spoken}

-- the terms that vertices and sets of their states stand for
abbrev pub spoken_view : Spoken → Term
spoken_view t = at t.vertex.now (state_ref_views t.states.items)

abbrev pub spoken_views : List Spoken → List Term
spoken_views ts = map spoken_view ts

-- each set is of as many states as its vertex has
abbrev pub AreSized : Problem → Numbering → List TermView → Type 0
AreSized q vs ts = AllByRecursion (λ t. length t.states ≡ sizes q vs t.vertex) ts

-- the states that are listed for a number are those of the vertex that has it
abbrev pub AreListed : Problem → Numbering → Spaces → Type 0
AreListed q vs spaces = (n : ℕ) (s : Space) → slice_index_or spaces.listed.items n None ≡ Some s → (v : Vertex)
    → slice_get vs n ≡ Some v → state_ref_views s.states.items ≡ space q v

-- what is spelt for a number is the vertex that has it
abbrev pub AreSpelt : Numbering → Spaces → Type 0
AreSpelt vs spaces = (n : ℕ) (s : Space) → slice_index_or spaces.listed.items n None ≡ Some s → (v : Vertex)
    → slice_get vs n ≡ Some v → s.spelling ≡ v

-- a vertex is listed for a number
abbrev pub is_listed : Spaces → ℕ → Bool
is_listed spaces n = is_some (slice_index_or spaces.listed.items n None)

-- so it is, if the number is that of a vertex
abbrev pub IsListed : Numbering → Spaces → ℕ → Type 0
IsListed vs spaces n = (v : Vertex) → slice_get vs n ≡ Some v → is_listed spaces n ≡ true

-- the vertex at which two are combined is listed
abbrev pub IsNamed : Numbering → Spaces → Source → Type 0
IsNamed vs spaces (Axiom k) = Unit {0}
IsNamed vs spaces (Combined i j m) = IsListed vs spaces m

-- what is listed stays so
abbrev pub AreKept : Spaces → Spaces → Type 0
AreKept old new = (n : ℕ) → is_listed old n ≡ true → is_listed new n ≡ true

-- each vertex is what its own text reads as
abbrev pub AreReadVertices : Numbering → Type 0
AreReadVertices vs = AllByRecursion IsReadVertex vs

-- the two that are combined have their places below a number, and the vertex is one
abbrev pub AreThere : Numbering → ℕ → Source → Type 0
AreThere vs n (Axiom k) = Unit {0}
AreThere vs n (Combined i j m) = (i < n) × (j < n) × (v : Vertex) × (slice_get vs m ≡ Some v)

-- one of a row whose step can come after so many
pub record IsNext (q : Problem) (vs : Numbering) (f : FlatView) (n : ℕ) : Type 0 where
  pub over : IsOver q vs f.terms
  pub there : AreThere vs n f.source

-- a step of a source, with just these terms
pub record IsStepWith (vs : Numbering) (o : Source) (ts : List Term) (s : Step) : Type 0 where
  pub by : IsBy vs o s
  pub terms : model.terms_of s ≡ ts

-- ---- counts

abbrev pub is_given_step : Step → Bool
is_given_step (given k ts) = true
is_given_step (combine a b v ts) = false

-- how many steps of a derivation are axioms, and how many combine two others
abbrev pub axioms_of : List Step → ℕ
axioms_of [] = 0
axioms_of (s ∷ steps) = if is_given_step s then suc (axioms_of steps) else axioms_of steps

abbrev pub combinations_of : List Step → ℕ
combinations_of [] = 0
combinations_of (s ∷ steps) = if is_given_step s then combinations_of steps else suc (combinations_of steps)

-- no more steps than the store has axioms and combinations, of either kind: each is a step at most once; and no more
-- than memory holds
pub record HasNoMore (es : List EntryView) (steps : List Step) : Type 0 where
  pub few_axioms : axioms_of steps ≤ axioms es
  pub few_combined : combinations_of steps ≤ combinations es
  pub short : combinations_of steps ≤ most
