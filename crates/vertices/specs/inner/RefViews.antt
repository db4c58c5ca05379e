-- What vertices and states that borrow their names and versions stand for, without where these lie.
use Rattle.std.specs.Prelude.{List, map}
use Rattle.semver.specs.Identifiers.{parts_of}
use Rattle.model.specs.Vertices as model
use Rattle.classes.specs.Classes.{class_view}
use Rattle.vertices.specs.declared.vertex.OwnerRef.{OwnerRef}
use Rattle.vertices.specs.declared.vertex.OwnerRef.TheVariants as owner
use Rattle.vertices.specs.declared.vertex.VertexRef.{VertexRef}
use Rattle.vertices.specs.declared.vertex.VertexRef.TheVariants as vertex
use Rattle.vertices.specs.declared.state.StateRef.{StateRef}
use Rattle.vertices.specs.declared.state.StateRef.TheVariants as state

abbrev pub owner_ref_view : OwnerRef → model.Owner
owner_ref_view owner.Root = model.the_root
owner_ref_view (owner.Version n v) = model.version_of n.now (parts_of v.now)

abbrev pub vertex_ref_view : VertexRef → model.Vertex
vertex_ref_view vertex.Root = model.root
vertex_ref_view (vertex.Package n c) = model.pkg n.now (class_view c)
vertex_ref_view (vertex.Dependency o i) = model.dep (owner_ref_view o) i
vertex_ref_view (vertex.Feature n c f) = model.feat n.now (class_view c) f.now
vertex_ref_view (vertex.Ask n v i g) = model.ask n.now (parts_of v.now) i g.now

abbrev pub state_ref_view : StateRef → model.State
state_ref_view state.Absent = model.absent
state_ref_view state.Present = model.present
state_ref_view (state.Version v) = model.version (parts_of v.now)
state_ref_view (state.Class c) = model.in_class (class_view c)

abbrev pub state_ref_views : List StateRef → List model.State
state_ref_views ss = map state_ref_view ss
