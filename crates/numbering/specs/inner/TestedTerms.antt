-- Terms of an instance as vertices and tests of their spaces: which of the vertex's states, in their order, the term
-- has.
use Rattle.std.specs.Prelude.{◌≡◌, ◌≤◌, List, [], ◌∷◌, ◌++◌, Bool, not, map, length, replicate, Some, slice_get}
use Rattle.terms.specs.Terms.{TermView}
use Rattle.semver.specs.Parse.{Parts}
use Rattle.model.specs.Content.{Problem, same_version}
use Rattle.model.specs.Selection.{Class}
use Rattle.model.specs.Vertices.{Vertex, same_class}
use Rattle.model.specs.Axioms.{Term, IsVertex}
use Rattle.version_sets.specs.Sets.{Members, only}
use Rattle.numbering.specs.Numberings.{Numbering, members_at}
use Rattle.vertices.specs.inner.RefViews.{vertex_ref_view}
use Rattle.numbering.specs.declared.space_tests.Lone.{Lone}
use Rattle.numbering.specs.declared.space_tests.Range as code_range
use Rattle.numbering.specs.declared.space_tests.Tests.{Tests}
use Rattle.numbering.specs.declared.space_tests.Tests.TheVariants.{Each, One, Range}
use Rattle.numbering.specs.declared.tested_terms.TestedTerm as code

abbrev pub TestedTerm : Type 0
TestedTerm = Vertex × Members

abbrev pub tested : Problem → Term → TestedTerm
tested q t = (t.vertex, members_at q t.vertex t.states)

abbrev pub all_tested : Problem → List Term → List TestedTerm
all_tested q ts = map (tested q) ts

-- the vertices of tested terms
abbrev pub vertices_of : List TestedTerm → List Vertex
vertices_of ps = map (λ p. p.0) ps

-- one of so many states
abbrev pub lone_view : Lone → Members
lone_view l = only l.states l.state

-- so many states before those of a range, these, and so many after them: which of them count
abbrev pub range_view : code_range.Range → Members
range_view r =
    replicate r.before (not r.inside) ++ (replicate r.within r.inside ++ replicate r.after (not r.inside))

-- which states pass: each where it is tested, one of so many, or those of a range
abbrev pub states_view : Tests → Members
states_view (Each ts) = ts.items
states_view (One l) = lone_view l
states_view (Range r) = range_view r

abbrev pub tested_view : code.TestedTerm → TestedTerm
tested_view p = (vertex_ref_view p.vertex, states_view p.tests)

abbrev pub tested_views : List code.TestedTerm → List TestedTerm
tested_views ps = map tested_view ps

-- ---- tests of the versions of a class, and of classes

-- it is this version
unfoldable pub is_chosen : Parts → Parts → Bool
is_chosen v w = same_version w v

-- it is this class
unfoldable pub is_class : Class → Class → Bool
is_class k m = same_class m k

-- ---- terms over numbers

-- a term over numbers is on the number of the tested term's vertex, and has the states that pass
abbrev pub IsOfTested : Numbering → TermView → TestedTerm → Type 0
IsOfTested vs t p = (slice_get vs t.vertex ≡ Some p.0) × (t.states ≡ p.1)

abbrev pub AreOfTested : Numbering → List TermView → List TestedTerm → Type 0
AreOfTested vs [] [] = Unit {0}
AreOfTested vs (t ∷ ts) (p ∷ ps) = IsOfTested vs t p × AreOfTested vs ts ps
AreOfTested vs [] (p ∷ ps) = ⊥
AreOfTested vs (t ∷ ts) [] = ⊥

-- a tested term that can be made one over numbers: its vertex is there, and has no more states than a set can have
pub record IsFitting (q : Problem) (p : TestedTerm) : Type 0 where
  pub there : IsVertex q p.0
  pub few : length p.1 ≤ 65536
