-- What is looked for in a content, and what the number of a state is.
use Rattle.std.specs.Prelude.{◌≡◌, ◌<◌, ℕ, List, Bool, true, false, not, ◌&&◌, Option, Some, is_some, find, length}
use Rattle.std.specs.Prelude.{slice_get}
use Rattle.std.specs.Option.{option_and_then}
use Rattle.std.specs.declared.cmp.Ordering.{Ordering}
use Rattle.std.specs.declared.cmp.Ordering.TheVariants.{Less, Equal, Greater}
use Rattle.lockfile.specs.inner.Search.{named_cmp}
use Rattle.model.specs.Axioms.{is_lower}
use Rattle.model.specs.Summary.{Dependency, same_text}
use Rattle.model.specs.Content.{Package, Content, Problem, last_serving}
use Rattle.model.specs.Selection.{Class, class_of}
use Rattle.model.specs.Vertices.{Owner, the_root, version_of, Vertex, State, same_class, space}
use Rattle.model.specs.inner.Assignment.{Has}
use Rattle.numbering.specs.inner.Assignments.{state_at}

-- ---- packages

abbrev pub is_sourceless : Package → Bool
is_sourceless p = not (is_some p.source)

-- a package other than the root, of this name and class
abbrev pub is_locked : List ℕ → Class → Package → Bool
is_locked name k p = is_some p.source && same_text name p.name && same_class k (class_of p.version)

-- a lower name, or this one at a version of a lower class
abbrev pub before_by : Ordering → Bool → Bool
before_by Less lower = true
before_by Equal lower = lower
before_by Greater lower = false

abbrev pub is_before : List ℕ → Class → Package → Bool
is_before name k p = before_by (named_cmp name p) (is_lower (class_of p.version) k)

-- In a valid selection the root alone is without a source, and a version is the only one of its name and class.
abbrev pub is_owner : Owner → Package → Bool
is_owner the_root p = is_sourceless p
is_owner (version_of name v) p = is_locked name (class_of v) p

-- the last package of a list that serves the dependency
abbrev pub served_by : Content → Dependency → List ℕ → Option Package
served_by content d list = option_and_then (slice_get content) (last_serving content d list)

-- the package that an owner's dependency leads to, if it is enabled
abbrev pub led_to : Content → Owner → Dependency → Option Package
led_to content o d = option_and_then (λ (p : Package). served_by content d p.list) (find (is_owner o) content)

-- ---- numbers

-- it is the number of the state
abbrev pub IsNumberOf : Problem → Vertex → State → Option ℕ → Type 0
IsNumberOf q v s o = (n : ℕ) × (o ≡ Some n) × (n < length (space q v)) × (state_at q v n ≡ s)

-- it is the number of the state that the vertex has in the content, if it has one
abbrev pub IsStateIn : Problem → Content → Vertex → Option ℕ → Type 0
IsStateIn q content v o = (s : State) → Has q content v s → IsNumberOf q v s o
