-- A term, and how the states that are left to a vertex stand to it (Dart pub's `solver.md`, "Term").
use Rattle.std.specs.Prelude.{ℕ, nat_lt, ◌&&◌, List, map, if◌then◌else◌}
use Rattle.version_sets.specs.Sets.{Members, inside, meets, rest, size}
use Rattle.terms.specs.declared.term.Relation.{Relation}
use Rattle.terms.specs.declared.term.Relation.TheVariants.{Satisfied, Contradicted, Open}
use Rattle.terms.specs.declared.term.Term.{Term}

-- a vertex, and some of its states
pub record TermView : Type 0 where
  pub vertex : ℕ
  pub states : Members

-- a term without where its states lie in memory
abbrev pub term_view : {S : Type 0} → (S → Members) → Term S → TermView
term_view tests t = record { vertex = t.vertex; states = tests t.states }

abbrev pub terms_view : {S : Type 0} → (S → Members) → List (Term S) → List TermView
terms_view tests ts = map (term_view tests) ts

-- satisfied by a set that isn't empty and lies inside, contradicted by one with nothing in common, else open
abbrev pub relation_of : Members → Members → Relation
relation_of set states =
    if nat_lt 0 (size set) && inside set states then Satisfied else if meets set states then Open else Contradicted

-- the term that holds where another doesn't
abbrev pub negated : TermView → TermView
negated t = record { vertex = t.vertex; states = rest t.states }
