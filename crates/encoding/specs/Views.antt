-- What vertices stand for, those that borrow and those that are kept.
use Rattle.std.specs.Prelude.{List, map}
use Rattle.semver.specs.Identifiers.{parts_of}
use Rattle.classes.specs.Classes.{class_view}
use Rattle.model.specs.Vertices as model
use Rattle.vertices.specs.inner.RefViews.{vertex_ref_view}
use Rattle.vertices.specs.Views.{owner_view}
use Rattle.vertices.specs.declared.vertex.VertexRef.{VertexRef}
use Rattle.encoding.specs.declared.vertex.Vertex.{Vertex}
use Rattle.encoding.specs.declared.vertex.Vertex.TheVariants as vertex

abbrev pub vertex_views : List VertexRef → List model.Vertex
vertex_views vs = map vertex_ref_view vs

abbrev pub vertex_view : Vertex → model.Vertex
vertex_view vertex.Root = model.root
vertex_view (vertex.Package n c) = model.pkg n (class_view c)
vertex_view (vertex.Dependency o i) = model.dep (owner_view o) i
vertex_view (vertex.Feature n c f) = model.feat n (class_view c) f
vertex_view (vertex.Ask n v i g) = model.ask n (parts_of v) i g
