use Rattle.std.proofs.Common.{◌∙◌, ◌&&◌, sym}
use Rattle.model.proofs.Mapped.{any-map}
use Rattle.semver.specs.EvalViews.{matches_views}
use Rattle.features.specs.Views.{requirement_view}
use Rattle.index_lines.specs.Records.{RecordView}
use Rattle.index_lines.specs.Views.{record_view}
use Rattle.flaws.proofs.lack.matches_yanked.Goals as goal

pub returns : goal.returns
returns c =
    c.some_yanked.ensures
    ∙ sym (any-map (λ (l : RecordView). l.yanked
    && matches_views (requirement_view c.args.requirement.now) l.version) record_view c.args.records.now)
