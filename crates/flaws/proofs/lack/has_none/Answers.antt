use Rattle.std.proofs.Common.{◌∙◌, ◌==◌, ap, sym}
use Rattle.std.proofs.lemmas.List.{length-map}
use Rattle.index_lines.specs.Views.{record_view}
use Rattle.flaws.proofs.lack.has_none.Goals as goal

pub returns : goal.returns
returns c = c.is_empty.ensures ∙ ap (λ n. n == 0) (sym (length-map c.args.records.now record_view))
