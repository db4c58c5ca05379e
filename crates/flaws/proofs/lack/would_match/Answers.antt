use Rattle.std.proofs.Common.{◌∙◌, sym}
use Rattle.model.proofs.Mapped.{any-map}
use Rattle.features.specs.Views.{requirement_view}
use Rattle.index_lines.specs.Records.{RecordView}
use Rattle.index_lines.specs.Views.{record_view}
use Rattle.flaws.specs.inner.Lacks.{is_held_back}
use Rattle.flaws.proofs.lack.would_match.Goals as goal

pub returns : goal.returns
returns c =
    c.some_held_back.ensures
    ∙ sym (any-map (λ (l : RecordView).
    is_held_back (requirement_view c.args.requirement.now) l.version) record_view c.args.records.now)
