use Rattle.std.proofs.Common.{rules, sym, subst}
use Rattle.features.specs.Views.{text_views}
use Rattle.index_lines.specs.inner.Known.{IsMadeOf}
use Rattle.index_lines.proofs.required.read_dependency.Goals as goal

pub keep-requires : goal.keep-requires
keep-requires c =
    let part = c.args.required.part.now in
    subst (IsMadeOf part.requirement.now (text_views part.features.items)) (sym c.in_ok-dependency.ensures)
    (record { requirement = c.args.required.read; features = search rules })
