use Rattle.std.proofs.Common.{◌++◌, codes, decimal}
use Rattle.std.proofs.lemmas.Result.{on_ok_weaker}
use Rattle.vertices.specs.Texts.{vertex_text}
use Rattle.derivations.specs.inner.Tables.{vertex_at}
use Rattle.derivations.specs.Written.{quoted}
use Rattle.derivations.proofs.Commas.{in-turn}
use Rattle.derivations.proofs.writing.push_combination.Goals as goal

pub returns : goal.returns
returns c =
    on_ok_weaker c.push_vertex.result
    (λ last. in-turn _ (codes "\"combine\":[") (decimal c.args.first ++ codes ",") (decimal c.args.second
    ++ codes ",") (quoted (vertex_text (vertex_at c.args.tables.now c.args.vertex)) ++ codes "]") _ _ _ _
    c.in_ok-push_str.ensures.bytes c.in_ok-push_number.ensures c.in_ok-push_number-2.ensures last)
    c.push_vertex.ensures
