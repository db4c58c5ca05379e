use Rattle.std.proofs.Common.{◌≡◌, true}
use Rattle.serde_json.specs.Read.{max_depth}
use Rattle.serde_json.specs.View.{view}
use Rattle.trees.proofs.ReadLemmas.{data-read, data-refused}
use Rattle.trees.proofs.reading.read_long.Goals as goal

pub returns-in-Ok : goal.returns-in-Ok
returns-in-Ok c = data-read max_depth c.args.bytes.now (view c.in-Ok.value) c.in-Ok.ensures.ok.0 c.in-Ok.ensures.ok.1

pub returns-else-is_memory : goal.returns-else-is_memory
returns-else-is_memory c =
    data-refused max_depth c.args.bytes.now (c.in-Err.ensures.err (λ m.
    let yes : c.is_memory.result ≡ true = c.is_memory.ensures.1 m in
    cc))
