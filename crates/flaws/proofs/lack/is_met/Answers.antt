use Rattle.std.proofs.Common.{◌∙◌, ap, sym}
use Rattle.std.specs.List.{list_any}
use Rattle.semver.specs.EvalViews.{matches_views}
use Rattle.semver.specs.Identifiers.{parts_of}
use Rattle.features.specs.Views.{requirement_view}
use Rattle.model.specs.Candidates.{Record}
use Rattle.model.proofs.Mapped.{any-map}
use Rattle.catalogue.specs.Stores.{candidates_at}
use Rattle.flaws.proofs.lack.is_met.Goals as goal

pub returns : goal.returns
returns c =
    let matched = matches_views (requirement_view c.args.dependency.now.requirement) in
    (rw c.deref.ensures at c.some_matched.ensures)
    ∙ sym (any-map matched parts_of c.versions.result.now)
    ∙ ap (list_any matched) c.versions.ensures.versions
    ∙ any-map matched (λ (r : Record). r.version) (candidates_at c.args.catalogue.now c.args.dependency.now.real_name)
