use Rattle.std.proofs.Common.{rules, ◌≡◌, true}
use Rattle.features.specs.Views.{text_views}
use Rattle.index_lines.specs.inner.Plain.{are_plain, quoted_list}
use Rattle.index_lines.proofs.PlainLemmas.{texts-read}
use Rattle.index_lines.proofs.shortcuts.row.texts_of.Goals as goal

pub returns-in-Some : goal.returns-in-Some
returns-in-Some c =
    let texts = text_views c.in-Some.texts.items in
    let read : (c.args.bytes.now ≡ quoted_list texts) × (are_plain texts ≡ true) = search rules in
    texts-read c.args.bytes.now texts read.0 read.1
