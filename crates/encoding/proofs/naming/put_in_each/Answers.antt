use Rattle.std.proofs.Common.{◌∙◌, ◌++◌, ap}
use Rattle.std.proofs.lemmas.Result.{on_ok_weaker}
use Rattle.encoding.specs.inner.Everything.{in_each}
use Rattle.encoding.specs.Views.{vertex_views}
use Rattle.encoding.proofs.Steps.{versions_are}
use Rattle.encoding.proofs.naming.put_in_each.Goals as goal

pub returns : goal.returns
returns c =
    let name = c.args.name.now in
    let vs = vertex_views c.args.vertices.now.items in
    on_ok_weaker c.put_classes.result
    (λ e. e ∙ ap (λ ws. vs ++ in_each name c.args.feature.now ws) (versions_are c.args.known.now.problem.manifest.now
    c.args.known.now.problem.catalogue.now name c.versions.result.now c.versions.ensures.versions))
    c.put_classes.ensures
