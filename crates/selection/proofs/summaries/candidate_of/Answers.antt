use Rattle.std.proofs.Common.{◌∙◌, sym, true, false}
use Rattle.lockfile.specs.inner.Views.{package_view}
use Rattle.catalogue.specs.Stores.{said_by}
use Rattle.selection.proofs.Lookups.{not_found, is_found}
use Rattle.selection.proofs.summaries.candidate_of.Goals as goal

pub returns-in_err-candidate : goal.returns-in_err-candidate
returns-in_err-candidate c =
    let source = rw (c.source.ensures, c.source-2.ensures) at c.is_text.ensures in
    λ m. rw c.from_residual.ensures (not_found c.args.catalogue.now m (package_view c.args.locked.now)
    (sym source ∙ c.if-not-is_text.false) c.in_err-candidate.ensures)

pub returns-then-has_checksum : goal.returns-then-has_checksum
returns-then-has_checksum c =
    let source = rw (c.source.ensures, c.source-2.ensures) at c.is_text.ensures in
    let checksum = rw c.checksum.ensures at c.has_checksum.ensures in
    λ m. is_found c.args.catalogue.now m (package_view c.args.locked.now) (said_by c.in_ok-candidate.candidate.now)
    (sym source ∙ c.if-not-is_text.false) c.in_ok-candidate.ensures true (sym checksum ∙ c.if-has_checksum.true)

pub returns-else-has_checksum : goal.returns-else-has_checksum
returns-else-has_checksum c =
    let source = rw (c.source.ensures, c.source-2.ensures) at c.is_text.ensures in
    let checksum = rw c.checksum.ensures at c.has_checksum.ensures in
    λ m. is_found c.args.catalogue.now m (package_view c.args.locked.now) (said_by c.in_ok-candidate.candidate.now)
    (sym source ∙ c.if-not-is_text.false) c.in_ok-candidate.ensures false (sym checksum ∙ c.if-has_checksum.false)
