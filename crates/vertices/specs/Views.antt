-- What vertices and states that own their names and versions stand for.
use Rattle.std.specs.Prelude.{ℕ, List, map}
use Rattle.semver.specs.Identifiers.{parts_of}
use Rattle.semver.specs.Parse.{Parts}
use Rattle.semver.specs.declared.Version.{Version}
use Rattle.model.specs.Vertices as model
use Rattle.classes.specs.Classes.{class_view}
use Rattle.vertices.specs.declared.vertex.Owner.{Owner}
use Rattle.vertices.specs.declared.vertex.Owner.TheVariants as owner
use Rattle.vertices.specs.declared.vertex.Vertex.{Vertex}
use Rattle.vertices.specs.declared.vertex.Vertex.TheVariants as vertex
use Rattle.vertices.specs.declared.state.State.{State}
use Rattle.vertices.specs.declared.state.State.TheVariants as state

abbrev pub named_view : List ℕ × Version → List ℕ × Parts
named_view p = (p.0, parts_of p.1)

abbrev pub owner_view : Owner → model.Owner
owner_view owner.Root = model.the_root
owner_view (owner.Version n v) = model.version_of n (parts_of v)

abbrev pub vertex_view : Vertex → model.Vertex
vertex_view vertex.Root = model.root
vertex_view (vertex.Package n c) = model.pkg n (class_view c)
vertex_view (vertex.Dependency o i) = model.dep (owner_view o) i
vertex_view (vertex.Feature n c f) = model.feat n (class_view c) f
vertex_view (vertex.Ask n v i g) = model.ask n (parts_of v) i g

abbrev pub state_view : State → model.State
state_view state.Absent = model.absent
state_view state.Present = model.present
state_view (state.Version v) = model.version (parts_of v)
state_view (state.Class c) = model.in_class (class_view c)

abbrev pub state_views : List State → List model.State
state_views ss = map state_view ss
