use Rattle.std.proofs.Common.{◌≡◌, Ok}
use Rattle.std.proofs.lemmas.Result.{IfOk-weaker}
use Rattle.index_lines.specs.inner.ByParts.{record_of_parts}
use Rattle.index_lines.specs.Records.{unchecked_of_line}
use Rattle.index_lines.specs.Views.{record_view}
use Rattle.index_lines.proofs.ByPartsLemmas.{by-parts}
use Rattle.index_lines.proofs.shortcuts.by_parts.read_by_parts.Goals as goal

pub returns : goal.returns
returns c =
    let name = c.args.name.now in
    let line = c.args.line.now in
    let parts = c.in_ok-parts.parts in
    IfOk-weaker c.read_parts.result (λ r. record_of_parts parts ≡ Ok (record_view r))
    (λ r. unchecked_of_line name line ≡ Ok (record_view r))
    (λ r is. by-parts name parts line (record_view r) c.in_ok-parts.ensures is) c.read_parts.ensures
