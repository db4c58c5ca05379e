-- What the lines of a file stand for.
use Rattle.std.specs.Prelude.{List, map}
use Rattle.index_lines.specs.Records.{RecordView}
use Rattle.index_lines.specs.Views.{record_view}
use Rattle.index_lines.specs.declared.record.Record.{Record}

abbrev pub record_views : List Record → List RecordView
record_views rs = map record_view rs
