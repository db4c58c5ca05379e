use Rattle.std.proofs.Common.{◌∙◌, ◌++◌, ap, ap₂}
use Rattle.std.specs.List.{flat_map}
use Rattle.numbering.specs.inner.KnownProblem.{problem}
use Rattle.encoding.specs.inner.Everything.{of_name, of_root}
use Rattle.encoding.specs.Views.{vertex_views}
use Rattle.encoding.proofs.Steps.{names_are}
use Rattle.encoding.proofs.naming.named.Goals as goal

pub returns : goal.returns
returns c =
    let q = problem c.args.known.now in
    c.in_ok-put_names.ensures
    ∙ ap₂ (λ a b. a ++ flat_map (of_name q) b)
    (c.in_ok-put_root.ensures ∙ ap (λ l. vertex_views l ++ of_root q) c.new-vertices.ensures.items)
    (c.names.ensures.names ∙ names_are c.args.known.now.problem.catalogue.now.rows)
