use Rattle.std.proofs.Common.{◌≡◌, ◌∙◌, sym, ap, subst}
use Rattle.std.specs.Str.{IsAscii}
use Rattle.index_reader.specs.Folders.{lower}
use Rattle.index_reader.proofs.PathLemmas.{lower_is_ascii}
use Rattle.index_reader.proofs.path.index_path.Goals as goal

pub path_in-requires-clause-ascii : goal.path_in-requires-clause-ascii
path_in-requires-clause-ascii c =
    let same : c.as_str-2.result.now ≡ lower c.args.name.now =
    c.as_str-2.ensures.value ∙ c.in_ok-lower.ensures.ok ∙ ap lower c.as_str.ensures.text in
    subst IsAscii (sym same) (lower_is_ascii c.args.name.now c.as_str.ensures.name)
