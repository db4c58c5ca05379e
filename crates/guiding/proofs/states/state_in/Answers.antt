use Rattle.std.proofs.Common.{◌≡◌, ℕ, Option, sym, ap, subst}
use Rattle.std.proofs.lemmas.Result.{IfOk-weaker}
use Rattle.classes.specs.Classes.{class_view}
use Rattle.lockfile.specs.inner.Views.{package_views}
use Rattle.model.specs.Content.{Content}
use Rattle.model.specs.Vertices.{Vertex, pkg, dep}
use Rattle.numbering.specs.inner.KnownProblem.{problem}
use Rattle.vertices.specs.inner.RefViews.{owner_ref_view, vertex_ref_view}
use Rattle.guiding.specs.inner.Found.{IsStateIn}
use Rattle.guiding.proofs.states.state_in.Goals as goal

pub returns-in-Package : goal.returns-in-Package
returns-in-Package c =
    let q = problem c.args.known.now in
    let v = pkg c.in-Package.name.now (class_view c.in-Package.class) in
    let is : v ≡ vertex_ref_view c.args.vertex.now = ap vertex_ref_view (sym c.in-Package.is) in
    subst (λ (w : Vertex). IsStateIn q c.args.content.now w c.version_in.result) is
    (subst (λ (x : Content).
    IsStateIn q x v c.version_in.result) c.packages-packages.ensures.views c.version_in.ensures)

pub returns-in-Dependency : goal.returns-in-Dependency
returns-in-Dependency c =
    let q = problem c.args.known.now in
    let v = dep (owner_ref_view c.in-Dependency.owner) c.in-Dependency.number in
    let is : v ≡ vertex_ref_view c.args.vertex.now = ap vertex_ref_view (sym c.in-Dependency.is) in
    IfOk-weaker c.class_in.result (IsStateIn q (package_views c.packages-packages.result.now) v)
    (IsStateIn q c.args.content.now (vertex_ref_view c.args.vertex.now))
    (λ (o : Option ℕ) h. subst (λ (w : Vertex). IsStateIn q c.args.content.now w o) is
    (subst (λ (x : Content). IsStateIn q x v o) c.packages-packages.ensures.views h))
    c.class_in.ensures
