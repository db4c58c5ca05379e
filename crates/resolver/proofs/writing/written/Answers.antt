use Rattle.std.proofs.Common.{sym, ap, ◌∙◌, refl}
use Rattle.lockfile.specs.Locks.{content_of_bytes}
use Rattle.resolver.proofs.Answered.{is_written, not_written}
use Rattle.resolver.proofs.writing.written.Goals as goal

pub returns-then-same_content : goal.returns-then-same_content
returns-then-same_content c =
    is_written c.args.content.now c.in-Ok.again c.in_ok-bytes.bytes.items c.in_ok-bytes.ensures
    (ap content_of_bytes (sym c.as_slice.ensures.value) ∙ c.in-Ok.ensures) (sym c.if-same_content.ensures)

pub returns-else-same_content : goal.returns-else-same_content
returns-else-same_content c = (
  refl,
  not_written c.args.content.now c.in-Ok.again c.in_ok-bytes.bytes.items c.in_ok-bytes.ensures
      (ap content_of_bytes (sym c.as_slice.ensures.value) ∙ c.in-Ok.ensures) (sym c.if-same_content.ensures),
)
