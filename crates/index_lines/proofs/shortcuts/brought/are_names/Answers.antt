use Rattle.std.proofs.Common.{sym, ◌∙◌}
use Rattle.features.specs.inner.Tables.{dep_name_view}
use Rattle.index_lines.specs.inner.Names.{same_name}
use Rattle.index_lines.proofs.SameLemmas.{by_place, names-same}
use Rattle.index_lines.proofs.shortcuts.brought.are_names.Goals as goal

pub returns-then-known-names : goal.returns-then-known-names
returns-then-known-names c h =
    names-same _ _
    (sym (by_place dep_name_view dep_name_view same_name c.args.known.now c.args.names.now c.if-known-names.true)
    ∙ sym c.all_names.ensures ∙ h)
