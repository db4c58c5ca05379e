use Rattle.std.proofs.Common.{◌≡◌, true, sym}
use Rattle.toml.specs.Parse.{parse_document}
use Rattle.model.proofs.Utf8.{utf8-read, utf8-refused}
use Rattle.tables.proofs.reading.read_table.Goals as goal

pub returns-in-Ok : goal.returns-in-Ok
returns-in-Ok c = sym (utf8-read parse_document c.args.bytes.now _ c.in-Ok.ensures.ok.0 c.in-Ok.ensures.ok.1)

pub returns-else-is_memory : goal.returns-else-is_memory
returns-else-is_memory c = sym (utf8-refused parse_document c.args.bytes.now
    (c.in-Err.ensures.refused (λ m. let yes : c.is_memory.result ≡ true = c.is_memory.ensures.1 m in cc)))
